-- The theorem is proved in proofs/JobService.antt.
use Rattle.edf.proofs.JobService.{reports_in_time}
use Rattle.edf.proofs.service.reports_in_time.Goals as goal

pub returns : goal.returns
returns c = reports_in_time
