-- The theorem is proved in proofs/Verdicts.antt.
use Rattle.edf.proofs.Verdicts.{plan_position_tells_releases}
use Rattle.edf.proofs.admission.plan_position_tells_releases.Goals as goal

pub returns : goal.returns
returns c = plan_position_tells_releases
