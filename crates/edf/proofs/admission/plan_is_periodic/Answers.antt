-- The theorem is proved in proofs/Verdicts.antt.
use Rattle.edf.proofs.Verdicts.{plan_is_periodic}
use Rattle.edf.proofs.admission.plan_is_periodic.Goals as goal

pub returns : goal.returns
returns c = plan_is_periodic
