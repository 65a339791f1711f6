-- The theorem is proved in proofs/Timetables.antt.
use Rattle.edf.proofs.Timetables.{serves_iff_never_overloaded}
use Rattle.edf.proofs.service.serves_iff_never_overloaded.Goals as goal

pub returns : goal.returns
returns c = serves_iff_never_overloaded
