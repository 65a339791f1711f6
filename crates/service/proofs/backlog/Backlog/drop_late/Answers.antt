use Rattle.std.proofs.Common.{◌≡◌, ℕ, sym, ◌∙◌, arith}
use Rattle.std.proofs.lemmas.Grind.{common_steps}
use Rattle.plan.specs.TaskSet.{TaskSet, task_set}
use Rattle.edf.specs.Tick.{late}
use Rattle.service.proofs.Masks.{mask_with, mask_without, mask_fits}
use Rattle.service.proofs.Rowwise.{all_stepped}
use Rattle.service.proofs.Stepping.{dropped, drops_late, late_next}
use Rattle.service.specs.Rows.{view}
use Rattle.service.proofs.backlog.Backlog.drop_late.Goals as goal
use Rattle.service.proofs.backlog.Backlog.drop_late.Goals.{then-is_late, else-is_late}

pub overflow_add-missed : goal.overflow_add-missed
overflow_add-missed c = omega (arith, mask_fits c.loop-number.number (late (view (task_set c.args.plan.now) c.args.self.now)) (omega arith) c.loop-number.missed c.loop-number.invariant.1)

pub loop-number-preserved : goal.loop-number-preserved
loop-number-preserved c =
    let tasks : TaskSet = task_set c.args.plan.now in
    let old = c.args.self.now in
    let i : ℕ = c.loop-number.number in
    let same : late (view tasks old) i ≡ c.is_late.result =
    late_next tasks old c.loop-number.row-items c.len.result i c.len.ensures.answer (omega arith) c.loop-number.invariant.0 ∙ sym c.is_late.ensures in
    elim c.if-is_late.branch [
      | then-is_late w ↦ rw (w.row-items-is, w.missed-is) (
        grind (arith, common_steps),
        mask_with i (late (view tasks old)) (omega arith) c.loop-number.missed c.loop-number.invariant.1 (same ∙ w.if-is_late.true),
      )
      | else-is_late w ↦ rw (w.row-items-is, w.missed-is) (
        grind (arith, common_steps),
        mask_without i (late (view tasks old)) (omega arith) c.loop-number.missed c.loop-number.invariant.1 (same ∙ w.if-is_late.false),
      )
    ]

pub returns-clause-after : goal.returns-clause-after
returns-clause-after c =
    let tasks : TaskSet = task_set c.args.plan.now in
    drops_late tasks c.args.self.now c.loop-number.row-items _
    (all_stepped dropped tasks c.args.self.now c.loop-number.row-items _ c.len.result c.loop-number.number
    c.len.ensures.answer (omega arith) c.loop-number.auto.row-items (omega arith) c.loop-number.invariant.0)
