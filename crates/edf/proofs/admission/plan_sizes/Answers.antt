-- The theorem is proved in proofs/Sizes.antt.
use Rattle.edf.proofs.Sizes.{plan_sizes}
use Rattle.edf.proofs.admission.plan_sizes.Goals as goal

pub returns : goal.returns
returns c = plan_sizes
