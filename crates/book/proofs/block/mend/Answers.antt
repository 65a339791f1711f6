use Rattle.std.proofs.Common.{◌∙◌, ap, arith, ◌%◌}
use Rattle.book.proofs.Mended.{mended_is, mended_sum}
use Rattle.book.specs.Bytes.{total}
use Rattle.book.proofs.block.mend.Goals as goal

pub returns : goal.returns
returns c =
    let word = mended_is c.args.block.now c.told-block c.copy_from_slice.new.self c.copy_from_slice-2.new.self c.sum.result c.wrapping_neg-check.result
    c.copy_from_slice.ensures.after c.sum.ensures (omega (arith, c.wrapping_neg-check.ensures)) (c.copy_from_slice-2.ensures.after ∙ c.to_le_bytes.ensures) in
    record {
      word = word;
      sum = ap (λ b. total b 128 % 4294967296) word ∙ mended_sum c.args.block.now c.told-block;
    }
