-- The theorem is proved in proofs/Repeats.antt.
use Rattle.edf.proofs.Repeats.{cycle_ends_empty}
use Rattle.edf.proofs.service.cycle_ends_empty.Goals as goal

pub returns : goal.returns
returns c = cycle_ends_empty
