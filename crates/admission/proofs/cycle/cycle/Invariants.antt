use Rattle.std.proofs.Common.{◌≡◌, ◌≤◌}
use Rattle.plan.specs.TaskSet.{task_set}
use Rattle.edf.specs.Admission.{repetition}
use Rattle.edf.specs.Cycle.{cycle}
use Rattle.admission.proofs.cycle.cycle.Given as goal

-- the cycle of the tasks so far, which is not above the limit
abbrev pub invariant-loop-number : goal.invariant-loop-number
invariant-loop-number g l = (l.so_far ≡ cycle l.number (repetition (task_set l.load.plan.now) (g.P.Pattern.meaning l.load.policy.now))) × (l.so_far ≤ 1048576)
