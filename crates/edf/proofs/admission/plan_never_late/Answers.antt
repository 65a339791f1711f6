-- The theorem is proved in proofs/Verdicts.antt.
use Rattle.edf.proofs.Verdicts.{plan_never_late}
use Rattle.edf.proofs.admission.plan_never_late.Goals as goal

pub returns : goal.returns
returns c = plan_never_late
