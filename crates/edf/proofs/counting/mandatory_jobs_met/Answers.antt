-- The theorem is proved in proofs/Counts.antt.
use Rattle.edf.proofs.Counts.{mandatory_jobs_met}
use Rattle.edf.proofs.counting.mandatory_jobs_met.Goals as goal

pub returns : goal.returns
returns c = mandatory_jobs_met
