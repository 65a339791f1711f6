-- The theorem is proved in proofs/Periods.antt.
use Rattle.edf.proofs.Periods.{cycle_run_decides}
use Rattle.edf.proofs.service.cycle_run_decides.Goals as goal

pub returns : goal.returns
returns c = cycle_run_decides
