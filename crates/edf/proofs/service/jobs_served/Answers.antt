-- The theorem is proved in proofs/JobService.antt.
use Rattle.edf.proofs.JobService.{jobs_served}
use Rattle.edf.proofs.service.jobs_served.Goals as goal

pub returns : goal.returns
returns c = jobs_served
