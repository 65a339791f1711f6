-- The theorem is proved in proofs/Periods.antt.
use Rattle.edf.proofs.Periods.{one_cycle_is_enough}
use Rattle.edf.proofs.service.one_cycle_is_enough.Goals as goal

pub returns : goal.returns
returns c = one_cycle_is_enough
