-- The theorem is proved in proofs/Miss.antt.
use Rattle.edf.proofs.Miss.{never_late}
use Rattle.edf.proofs.service.never_late.Goals as goal

pub returns : goal.returns
returns c = never_late
