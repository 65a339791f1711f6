-- Each log by evaluation.
use Rattle.std.proofs.Common.{refl}
use Rattle.book.specs.Writing.{encoded, block_bytes, in_turn, record_bytes}
use Rattle.runner.proofs.theorems.logs_count_so.Goals as goal

pub returns : goal.returns
unfolding encoded block_bytes in_turn record_bytes
returns c = (refl, (refl, (refl, (refl, (refl, (refl, (refl, (refl, (refl, tt)))))))))
