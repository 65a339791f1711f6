-- The theorem is proved in proofs/JobService.antt.
use Rattle.edf.proofs.JobService.{no_job_overserved}
use Rattle.edf.proofs.service.no_job_overserved.Goals as goal

pub returns : goal.returns
returns c = no_job_overserved
