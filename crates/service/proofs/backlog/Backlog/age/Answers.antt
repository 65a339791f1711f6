use Rattle.std.proofs.Common.{arith}
use Rattle.plan.specs.TaskSet.{task_set}
use Rattle.service.proofs.Rowwise.{all_stepped}
use Rattle.service.proofs.Stepping.{aged, ages}
use Rattle.service.proofs.backlog.Backlog.age.Goals as goal

pub returns-clause-after : goal.returns-clause-after
returns-clause-after c =
    ages (task_set c.args.plan.now) c.args.self.now c.loop-row.row-items _
    (all_stepped aged (task_set c.args.plan.now) c.args.self.now c.loop-row.row-items _ c.len.result c.loop-row.row-index
    c.len.ensures.answer (omega arith) c.loop-row.auto.row-items (omega arith) c.loop-row.invariant)
