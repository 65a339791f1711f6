-- The theorem is proved in proofs/Miss.antt.
use Rattle.edf.proofs.Miss.{first_miss}
use Rattle.edf.proofs.service.first_miss.Goals as goal

pub returns : goal.returns
returns c = first_miss
