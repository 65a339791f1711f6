-- The theorem is proved in proofs/Releases.antt.
use Rattle.edf.proofs.Releases.{plan_work_by_jobs}
use Rattle.edf.proofs.admission.plan_work_by_jobs.Goals as goal

pub returns : goal.returns
returns c = plan_work_by_jobs
