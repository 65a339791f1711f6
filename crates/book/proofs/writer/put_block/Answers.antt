use Rattle.std.proofs.Common.{◌≡◌, ℕ, ◌++◌, drop, replicate, refl, ap, ◌∙◌, arith, rules}
use borrow.Rule.Slice.PartMut.{put_mid}
use Rattle.plan.specs.TaskSet.{TaskSet, task_set}
use Rattle.book.proofs.Joined.{block_filled, filled_more, none_filled, record_from}
use Rattle.book.proofs.Mended.{block_is, front_and_rest}
use Rattle.book.specs.Seats.{blocks, place}
use Rattle.book.specs.Writing.{head_of, records_of}
use Rattle.book.proofs.writer.put_block.Goals as goal

pub loop-number-init : goal.loop-number-init
loop-number-init c = none_filled (record_from (task_set c.args.plan.now) c.first_record-first.result) 15 _ refl

pub loop-number-preserved : goal.loop-number-preserved
loop-number-preserved c =
    filled_more (record_from (task_set c.args.plan.now) c.first_record-first.result) 15 c.loop-number.number c.loop-number.record-items c.slot_bytes.result
    c.loop-number-test.true c.slot_bytes.ensures c.loop-number.invariant

pub returns : goal.returns
returns c =
    let set : TaskSet = task_set c.args.plan.now in
    let i : ℕ = place c.args.seat in
    let n : ℕ = blocks c.args.seat in
    let head : c.copy_from_slice.new.self ≡ head_of set i n ++ replicate 4 0 = c.copy_from_slice.ensures.after ∙ c.head_bytes.ensures in
    let records : c.copy_from_slice-2.new.self ≡ records_of set i =
    c.copy_from_slice-2.ensures.after ∙ c.as_flattened.ensures.value ∙
    block_filled set i c.first_record-first.result c.loop-number.number c.loop-number.record-items (omega arith) c.loop-number.invariant c.first_record-first.ensures in
    let whole : put_mid 32 480 (c.copy_from_slice.new.self ++ drop 32 c.args.block.now) c.copy_from_slice-2.new.self ≡ (head_of set i n ++ replicate 4 0) ++ records_of set i =
    front_and_rest c.copy_from_slice.new.self (drop 32 c.args.block.now) c.copy_from_slice-2.new.self 480 (search rules) (search rules) ∙
    ap (λ h. h ++ c.copy_from_slice-2.new.self) head ∙ ap (λ r. (head_of set i n ++ replicate 4 0) ++ r) records in
    c.mend.ensures.word ∙ block_is set i n _ whole
