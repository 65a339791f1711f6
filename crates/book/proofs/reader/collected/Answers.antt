use Rattle.std.proofs.Common.{◌≡◌, ℕ, List, Ok, ap, ◌∙◌}
use Rattle.std.specs.Result.{result_map_both}
use Rattle.plan.proofs.Answered.{answer_accepted, answer_refused}
use Rattle.plan.specs.Checks.{parameters_of}
use Rattle.plan.specs.TaskSet.{TaskSet, task_set, parameters}
use Rattle.book.proofs.Refused.{handed_on}
use Rattle.book.proofs.Filled.{filled_none, refused_is_first, filled_more, clean_all, filled_all}
use Rattle.book.specs.Cursors.{walk, seen}
use Rattle.book.specs.Reading.{draft_of, holding}
use Rattle.book.proofs.reader.collected.Goals as goal

pub loop-item-init : goal.loop-item-init
loop-item-init c =
    filled_none c.args.cursor.book.now (task_set c.with_ratio-plan.result) (walk c.into_iter-item-iterator.result)
    (ap walk c.into_iter-item-iterator.ensures.into_iter_gives ∙ c.requires.begun) (ap (λ s. s.tasks) c.with_ratio-plan.ensures)

pub returns-in_err-task : goal.returns-in_err-task
returns-in_err-task c =
    let book : List ℕ = c.args.cursor.book.now in
    let first = refused_is_first book c.requires.opened _ _ (walk c.loop-item.item-iterator) (task_set c.loop-item.plan) c.loop-item.invariant
    (seen c.in-Some.item) (parameters_of (draft_of c.in-Some.item.bytes.now)) c.in_err-task.field-0.0 c.in-Some.ensures.steps.handed c.in_err-task.ensures in
    ap (result_map_both task_set (λ e. e)) (handed_on c.from_residual.result c.from_residual.ensures.1) ∙ answer_refused (holding book c.args.ratio.p c.args.ratio.q) first

pub loop-item-preserved : goal.loop-item-preserved
loop-item-preserved c =
    filled_more c.args.cursor.book.now c.requires.opened _ _ (walk c.loop-item.item-iterator) (task_set c.loop-item.plan) c.loop-item.invariant
    (seen c.in-Some.item) (parameters c.in_ok-task.task) (walk c.next.new.self) (task_set c.append.new.self)
    c.in-Some.ensures.steps.handed c.in-Some.ensures.steps.after c.in_ok-task.ensures c.append.ensures.after

pub returns : goal.returns
returns c =
    let book : List ℕ = c.args.cursor.book.now in
    let fresh : TaskSet = task_set c.with_ratio-plan.result in
    let made : fresh ≡ _ = c.with_ratio-plan.ensures in
    let all = filled_all book c.requires.opened fresh.p fresh.q (walk c.loop-item.item-iterator) (task_set c.loop-item.plan) c.loop-item.invariant c.in-None.ensures.steps.handed in
    let clean = clean_all book c.requires.opened fresh.p fresh.q (walk c.loop-item.item-iterator) (task_set c.loop-item.plan) c.loop-item.invariant c.in-None.ensures.steps.handed in
    ap Ok (all ∙ ap (λ s. holding book s.p s.q) made) ∙ answer_accepted (holding book c.args.ratio.p c.args.ratio.q) clean
