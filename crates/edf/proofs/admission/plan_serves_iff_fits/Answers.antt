-- The theorem is proved in proofs/Verdicts.antt.
use Rattle.edf.proofs.Verdicts.{plan_serves_iff_fits}
use Rattle.edf.proofs.admission.plan_serves_iff_fits.Goals as goal

pub returns : goal.returns
returns c = plan_serves_iff_fits
