-- The theorem is proved in proofs/JobService.antt.
use Rattle.edf.proofs.JobService.{finished_is_last}
use Rattle.edf.proofs.service.finished_is_last.Goals as goal

pub returns : goal.returns
returns c = finished_is_last
