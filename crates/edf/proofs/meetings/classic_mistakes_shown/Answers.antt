-- The theorem is proved in proofs/Worked.antt.
use Rattle.edf.proofs.Worked.{classic_mistakes_shown}
use Rattle.edf.proofs.meetings.classic_mistakes_shown.Goals as goal

pub returns : goal.returns
returns c = classic_mistakes_shown
