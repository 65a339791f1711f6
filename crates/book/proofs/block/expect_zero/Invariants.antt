use Rattle.std.proofs.Common.{◌≡◌, drop}
use Rattle.book.specs.Bytes.{all_zero}
use Rattle.book.proofs.block.expect_zero.Given as goal

-- what is left decides
abbrev pub invariant-loop-byte : goal.invariant-loop-byte
invariant-loop-byte g l = all_zero (drop l.byte-index l.bytes) ≡ all_zero l.bytes
