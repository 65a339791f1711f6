use Rattle.plan.specs.TaskSet.{task_set}
use Rattle.service.proofs.Rowwise.{Stepped}
use Rattle.service.proofs.Stepping.{opened}
use Rattle.service.specs.Rows.{released_job}
use Rattle.service.proofs.backlog.Backlog.release.Given as goal

-- the jobs of the tasks so far are released
abbrev pub invariant-loop-number : goal.invariant-loop-number
invariant-loop-number g l =
    Stepped (λ k. opened (released_job (task_set l.load.plan.now) (g.P.Pattern.meaning l.load.policy.now) k l.position)) l.number l.initial.row-items l.row-items
