-- Each log by evaluation.
use Rattle.std.proofs.Common.{refl}
use Rattle.edf.proofs.counting.logs_count_so.Goals as goal

pub returns : goal.returns
returns c = (refl, (refl, (refl, (refl, (refl, (refl, (refl, (refl, (refl, tt)))))))))
