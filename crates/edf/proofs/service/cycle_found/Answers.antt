-- The theorem is proved in proofs/Multiples.antt.
use Rattle.edf.proofs.Multiples.{cycle_found}
use Rattle.edf.proofs.service.cycle_found.Goals as goal

pub returns : goal.returns
returns c = cycle_found
