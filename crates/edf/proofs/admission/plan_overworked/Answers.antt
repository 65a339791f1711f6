-- The theorem is proved in proofs/Releases.antt.
use Rattle.edf.proofs.Releases.{plan_overworked}
use Rattle.edf.proofs.admission.plan_overworked.Goals as goal

pub returns : goal.returns
returns c = plan_overworked
