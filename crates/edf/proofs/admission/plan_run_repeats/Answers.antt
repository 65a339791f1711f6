-- The theorem is proved in proofs/Verdicts.antt.
use Rattle.edf.proofs.Verdicts.{plan_run_repeats}
use Rattle.edf.proofs.admission.plan_run_repeats.Goals as goal

pub returns : goal.returns
returns c = plan_run_repeats
