-- The theorem is proved in proofs/Miss.antt.
use Rattle.edf.proofs.Miss.{late_has_cause}
use Rattle.edf.proofs.service.late_has_cause.Goals as goal

pub returns : goal.returns
returns c = late_has_cause
