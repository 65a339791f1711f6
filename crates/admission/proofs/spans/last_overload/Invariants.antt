use Rattle.std.proofs.Common.{◌≡◌, ◌-◌, ◌≤◌}
use Rattle.plan.specs.TaskSet.{task_set}
use Rattle.edf.specs.Plans.{system}
use Rattle.edf.specs.Refusal.{start_below}
use Rattle.edf.specs.System.{span_work}
use Rattle.admission.proofs.spans.last_overload.Given as goal

-- the work is that of the span from here, and no span from here or a later start is overloaded
abbrev pub invariant-loop-start : goal.invariant-loop-start
invariant-loop-start g l =
    let S = system (task_set l.load.plan.now) (g.P.Pattern.meaning l.load.policy.now) in
    (l.work ≡ span_work S l.start l.end) × (l.work ≤ l.end - l.start) × (start_below S l.end l.end ≡ start_below S l.end l.start)
