-- The theorem is proved in proofs/Counts.antt.
use Rattle.edf.proofs.Counts.{enough_jobs_met}
use Rattle.edf.proofs.counting.enough_jobs_met.Goals as goal

pub returns : goal.returns
returns c = enough_jobs_met
