-- The theorem is proved in proofs/JobService.antt.
use Rattle.edf.proofs.JobService.{ticks_belong}
use Rattle.edf.proofs.service.ticks_belong.Goals as goal

pub returns : goal.returns
returns c = ticks_belong
