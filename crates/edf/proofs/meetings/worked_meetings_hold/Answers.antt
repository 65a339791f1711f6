-- The theorem is proved in proofs/Worked.antt.
use Rattle.edf.proofs.Worked.{worked_meetings_hold}
use Rattle.edf.proofs.meetings.worked_meetings_hold.Goals as goal

pub returns : goal.returns
returns c = worked_meetings_hold
