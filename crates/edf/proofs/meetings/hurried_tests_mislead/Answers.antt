-- The theorem is proved in proofs/Misled.antt.
use Rattle.edf.proofs.Misled.{hurried_tests_mislead}
use Rattle.edf.proofs.meetings.hurried_tests_mislead.Goals as goal

pub returns : goal.returns
returns c = hurried_tests_mislead
