use Rattle.std.proofs.Common.{ℕ, arith}
use Rattle.plan.specs.TaskSet.{TaskSet, task_set}
use Rattle.pattern.specs.Policy.{Meaning}
use Rattle.service.proofs.Rowwise.{all_stepped}
use Rattle.service.proofs.Stepping.{opened, releases_jobs}
use Rattle.service.specs.Rows.{released_job}
use Rattle.service.specs.declared.backlog.Pending.{Pending}
use Rattle.service.proofs.backlog.Backlog.release.Goals as goal

pub returns-clause-after : goal.returns-clause-after
returns-clause-after g c =
    let tasks : TaskSet = task_set c.args.load.now.plan.now in
    let policy : Meaning = g.P.Pattern.meaning c.args.load.now.policy.now in
    let step : ℕ → Pending → Pending = λ k. opened (released_job tasks policy k c.args.position) in
    releases_jobs tasks c.args.self.now c.loop-number.row-items _ policy c.args.position
    (all_stepped step tasks c.args.self.now c.loop-number.row-items _ c.len.result c.loop-number.number
    c.len.ensures.answer (omega arith) c.loop-number.auto.row-items (omega arith) c.loop-number.invariant)
