use Rattle.std.proofs.Common.{◌∙◌, rules, tests}
use Rattle.std.proofs.lemmas.Iterator.{YieldsList-from_slice}
use Rattle.std.proofs.lemmas.Iterator.Consumers.{fold_from_yields_List}
use Rattle.book.proofs.Chunks.{adding, block_total}
use Rattle.book.proofs.block.sum.Goals as goal

pub returns : goal.returns
returns c =
    fold_from_yields_List _ adding 0 c.fold.result c.fold.ensures.ran
    (YieldsList-from_slice c.as_chunks.result.0.now c.iter.ensures.rest) (λ a x b q k. search (rules, tests)) ∙
    block_total c.args.block.now c.as_chunks.result.0.now c.told-block c.as_chunks.ensures.front
