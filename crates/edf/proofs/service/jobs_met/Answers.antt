-- The theorem is proved in proofs/JobService.antt.
use Rattle.edf.proofs.JobService.{jobs_met}
use Rattle.edf.proofs.service.jobs_met.Goals as goal

pub returns : goal.returns
returns c = jobs_met
