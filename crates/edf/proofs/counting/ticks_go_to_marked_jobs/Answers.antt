-- The theorem is proved in proofs/Counts.antt.
use Rattle.edf.proofs.Counts.{ticks_go_to_marked_jobs}
use Rattle.edf.proofs.counting.ticks_go_to_marked_jobs.Goals as goal

pub returns : goal.returns
returns c = ticks_go_to_marked_jobs
