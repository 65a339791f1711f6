-- The theorem is proved in proofs/Verdicts.antt.
use Rattle.edf.proofs.Verdicts.{plan_one_cycle_is_enough}
use Rattle.edf.proofs.admission.plan_one_cycle_is_enough.Goals as goal

pub returns : goal.returns
returns c = plan_one_cycle_is_enough
