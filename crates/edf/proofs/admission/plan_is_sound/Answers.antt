-- The theorem is proved in proofs/Releases.antt.
use Rattle.edf.proofs.Releases.{plan_is_sound}
use Rattle.edf.proofs.admission.plan_is_sound.Goals as goal

pub returns : goal.returns
returns c = plan_is_sound
