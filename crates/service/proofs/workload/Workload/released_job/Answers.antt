use Rattle.std.proofs.Common.{◌∙◌}
use Rattle.plan.specs.TaskSet.{TaskSet, task_set}
use Rattle.pattern.specs.Policy.{Meaning}
use Rattle.service.proofs.Releasing.{task_missing, released_past, no_job}
use Rattle.service.proofs.workload.Workload.released_job.Goals as goal

pub returns-in_err-task : goal.returns-in_err-task
returns-in_err-task g c =
    let tasks : TaskSet = task_set c.args.self.now.plan.now in
    let policy : Meaning = g.P.Pattern.meaning c.args.self.now.policy.now in
    c.from_residual.ensures ∙
    no_job tasks c.args.number policy c.args.tick
    (released_past tasks c.args.number policy c.args.tick (g.met.P.Pattern.lawful c.args.self.now.policy.now)
    (task_missing tasks c.args.number c.in_err-task.ensures))
