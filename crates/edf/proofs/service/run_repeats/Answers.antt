-- The theorem is proved in proofs/Repeats.antt.
use Rattle.edf.proofs.Repeats.{run_repeats}
use Rattle.edf.proofs.service.run_repeats.Goals as goal

pub returns : goal.returns
returns c = run_repeats
