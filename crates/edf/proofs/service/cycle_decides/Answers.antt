-- The theorem is proved in proofs/Periods.antt.
use Rattle.edf.proofs.Periods.{cycle_decides}
use Rattle.edf.proofs.service.cycle_decides.Goals as goal

pub returns : goal.returns
returns c = cycle_decides
