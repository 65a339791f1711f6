use Rattle.std.proofs.Common.{◌∙◌, sym, arith}
use Rattle.pattern.specs.Policy.{Meaning}
use Rattle.plan.specs.TaskSet.{TaskSet, task_set}
use Rattle.edf.specs.Admission.{repetition}
use Rattle.admission.proofs.Cycles.{cycle_begins, cycle_positive, cycle_more, none_above}
use Rattle.admission.proofs.Numbered.{all_listed, repetition_at}
use Rattle.admission.proofs.cycle.cycle.Goals as goal

pub loop-number-init : goal.loop-number-init
loop-number-init g c = (sym (cycle_begins (repetition (task_set c.args.load.now.plan.now) (g.P.Pattern.meaning c.args.load.now.policy.now))), omega arith)

pub lcm-requires : goal.lcm-requires
lcm-requires g c =
    let listed = all_listed (task_set c.args.load.now.plan.now) c.tasks-task-items.result.now c.tasks-task-items.ensures in
    omega (arith, cycle_positive c.args.load.now.plan.now (g.met.P.Pattern.lawful c.args.load.now.policy.now) c.loop-number.number (omega arith), c.loop-number.invariant.0)

pub returns-in_err-so_far : goal.returns-in_err-so_far
returns-in_err-so_far g c =
    let set : TaskSet = task_set c.args.load.now.plan.now in
    let policy : Meaning = g.P.Pattern.meaning c.args.load.now.policy.now in
    let listed = all_listed set c.tasks-task-items.result.now c.tasks-task-items.ensures in
    let repeats =
    repetition_at set policy c.tasks-task-items.result.now c.loop-number.number c.task-item.result c.tasks-task-items.ensures c.loop-number-test.true c.task-item.is
    c.repetition.result c.repetition.ensures in
    c.from_residual.ensures ∙
    none_above c.args.load.now.plan.now (g.met.P.Pattern.lawful c.args.load.now.policy.now) c.loop-number.number c.loop-number.so_far c.repetition.result (omega arith)
    c.loop-number.invariant.0 repeats c.in_err-so_far.ensures

pub loop-number-preserved : goal.loop-number-preserved
loop-number-preserved g c =
    let set : TaskSet = task_set c.args.load.now.plan.now in
    let policy : Meaning = g.P.Pattern.meaning c.args.load.now.policy.now in
    let listed = all_listed set c.tasks-task-items.result.now c.tasks-task-items.ensures in
    let repeats =
    repetition_at set policy c.tasks-task-items.result.now c.loop-number.number c.task-item.result c.tasks-task-items.ensures c.loop-number-test.true c.task-item.is
    c.repetition.result c.repetition.ensures in
    cycle_more c.args.load.now.plan.now (g.met.P.Pattern.lawful c.args.load.now.policy.now) c.loop-number.number c.loop-number.so_far c.repetition.result (omega arith)
    c.loop-number.invariant.0 repeats c.in_ok-so_far.so_far c.in_ok-so_far.ensures
