use Rattle.std.proofs.Common.{length, sym, ap, ◌∙◌, arith}
use Rattle.std.proofs.lemmas.Bool.{eqb-true}
use Rattle.plan.proofs.Answered.{answer_refused, fault_of_err, fault_of_ok}
use Rattle.plan.specs.Refusals.{answer}
use Rattle.book.proofs.Refused.{handed_on}
use Rattle.book.proofs.Opened.{first_refused, second_decides}
use Rattle.book.proofs.block.check_blocks.Goals as goal

pub returns-in_err-check_block-in-len2 : goal.returns-in_err-check_block-in-len2
returns-in_err-check_block-in-len2 c =
    handed_on c.from_residual.result c.from_residual.ensures.1 ∙
    answer_refused tt (first_refused c.args.book.now c.as_chunks.result.0.now (length c.as_chunks.result.1.now) c.as_chunks.ensures.front c.as_chunks.ensures.front_len
    c.as_chunks.ensures.back_len (omega arith) (eqb-true _ 0 (sym c.is_empty.ensures ∙ c.if-not-is_empty.false)) (fault_of_err _ tt _ c.in_err-check_block-in-len2.ensures))

pub returns-in_ok-check_block-in-len2 : goal.returns-in_ok-check_block-in-len2
returns-in_ok-check_block-in-len2 c =
    c.check_block-in-len2-2.ensures ∙
    sym (ap (λ o. answer o tt) (second_decides c.args.book.now c.as_chunks.result.0.now (length c.as_chunks.result.1.now) c.as_chunks.ensures.front c.as_chunks.ensures.front_len
    c.as_chunks.ensures.back_len (omega arith) (eqb-true _ 0 (sym c.is_empty.ensures ∙ c.if-not-is_empty.false)) (fault_of_ok _ tt _ c.in_ok-check_block-in-len2.ensures)))
