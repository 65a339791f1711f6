-- The theorem is proved in proofs/Bounding.antt.
use Rattle.book.proofs.Bounding.{decoded_is_bounded}
use Rattle.book.proofs.theorems.decoded_is_bounded.Goals as goal

pub returns : goal.returns
returns c = decoded_is_bounded
