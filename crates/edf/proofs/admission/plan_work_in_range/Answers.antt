-- The theorem is proved in proofs/Releases.antt.
use Rattle.edf.proofs.Releases.{plan_work_in_range}
use Rattle.edf.proofs.admission.plan_work_in_range.Goals as goal

pub returns : goal.returns
returns c = plan_work_in_range
