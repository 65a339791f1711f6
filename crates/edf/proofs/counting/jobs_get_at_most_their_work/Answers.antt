-- The theorem is proved in proofs/Counts.antt.
use Rattle.edf.proofs.Counts.{jobs_get_at_most_their_work}
use Rattle.edf.proofs.counting.jobs_get_at_most_their_work.Goals as goal

pub returns : goal.returns
returns c = jobs_get_at_most_their_work
