-- The theorem is proved in proofs/Miss.antt.
use Rattle.edf.proofs.Miss.{on_time_so_far}
use Rattle.edf.proofs.service.on_time_so_far.Goals as goal

pub returns : goal.returns
returns c = on_time_so_far
