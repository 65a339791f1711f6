-- The theorem is proved in proofs/Refuse.antt.
use Rattle.edf.proofs.Refuse.{miss_names_refused}
use Rattle.edf.proofs.service.miss_names_refused.Goals as goal

pub returns : goal.returns
returns c = miss_names_refused
