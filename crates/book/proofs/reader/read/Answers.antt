use Rattle.std.proofs.Common.{◌≡◌, List, ℕ, Some, sym, ap, ◌∙◌, arith, rules}
use Rattle.std.specs.Option.{option_map}
use Rattle.plan.proofs.Answered.{answer_accepted, answer_refused, left_accepted, left_refused}
use Rattle.plan.specs.Checks.{gears, geared}
use Rattle.plan.specs.TaskSet.{TaskSet, task_set}
use Rattle.book.proofs.Refused.{handed_on}
use Rattle.book.proofs.Rewritten.{written_again}
use Rattle.book.proofs.Readings.{has_a_ratio, holds_it, it_begins, its_book_passed, passed_all, refused_by_record}
use Rattle.book.specs.Bytes.{byte}
use Rattle.book.specs.Cursors.{Walk, walk}
use Rattle.book.specs.Reading.{decoded, holding}
use Rattle.book.specs.Writing.{encoded}
use Rattle.book.proofs.reader.read.Goals as goal

pub returns-in_err-ratio : goal.returns-in_err-ratio
returns-in_err-ratio c =
    absurd (has_a_ratio c.args.book.now (walk c.in_ok-cursor.cursor) c.in_ok-cursor.ensures.answer
    (ap (option_map gears) (sym c.in_err-ratio.ensures.ok_part) ∙ c.new.ensures))

pub collected-requires : goal.collected-requires
collected-requires c =
    let opened = c.in_ok-cursor.ensures.answer in
    record {
      opened = its_book_passed c.args.book.now (walk c.in_ok-cursor.cursor) opened;
      begun = it_begins c.args.book.now (walk c.in_ok-cursor.cursor) opened;
    }

pub returns-in_err-plan : goal.returns-in_err-plan
returns-in_err-plan c =
    let book : List ℕ = c.args.book.now in
    let refused = refused_by_record book (walk c.in_ok-cursor.cursor) c.in_ok-cursor.ensures.answer
    (holding c.in_ok-cursor.cursor.book.now c.in_ok-ratio.ratio.p c.in_ok-ratio.ratio.q) c.in_err-plan.field-0.0 c.in_err-plan.ensures in
    record {
      answer = handed_on c.from_residual-in_err-plan.result c.from_residual-in_err-plan.ensures.1 ∙ answer_refused tt refused;
      after = left_refused (decoded book) (task_set c.args.plan.now) refused;
      kept = search rules;
      rewrites = search rules;
    }

pub returns : goal.returns
returns c =
    let book : List ℕ = c.args.book.now in
    let w : Walk = walk c.in_ok-cursor.cursor in
    let opened = c.in_ok-cursor.ensures.answer in
    let set : TaskSet = task_set c.in_ok-plan.field-0 in
    let ratio : Some (gears c.in_ok-ratio.ratio) ≡ geared (byte book 4) (byte book 5) = ap (option_map gears) (sym c.in_ok-ratio.ensures.ok_part) ∙ c.new.ensures in
    let passed = passed_all book w opened (gears c.in_ok-ratio.ratio) set ratio c.in_ok-plan.ensures in
    let held = holds_it book w opened (gears c.in_ok-ratio.ratio) set ratio c.in_ok-plan.ensures in
    record {
      answer = answer_accepted tt passed;
      after = held ∙ left_accepted (decoded book) (task_set c.args.plan.now) passed;
      kept = search rules;
      rewrites = ap encoded held ∙ written_again book (λ i. omega (arith, c.type_inv.book i)) passed;
    }
