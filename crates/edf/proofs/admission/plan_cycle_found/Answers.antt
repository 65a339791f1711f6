-- The theorem is proved in proofs/Verdicts.antt.
use Rattle.edf.proofs.Verdicts.{plan_cycle_found}
use Rattle.edf.proofs.admission.plan_cycle_found.Goals as goal

pub returns : goal.returns
returns c = plan_cycle_found
