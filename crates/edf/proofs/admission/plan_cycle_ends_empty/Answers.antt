-- The theorem is proved in proofs/Verdicts.antt.
use Rattle.edf.proofs.Verdicts.{plan_cycle_ends_empty}
use Rattle.edf.proofs.admission.plan_cycle_ends_empty.Goals as goal

pub returns : goal.returns
returns c = plan_cycle_ends_empty
