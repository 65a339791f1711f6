-- The theorem is proved in proofs/Verdicts.antt.
use Rattle.edf.proofs.Verdicts.{plan_tick_by_position}
use Rattle.edf.proofs.admission.plan_tick_by_position.Goals as goal

pub returns : goal.returns
returns c = plan_tick_by_position
