use Rattle.std.proofs.Common.{◌≡◌}
use Rattle.plan.specs.TaskSet.{task_set}
use Rattle.edf.specs.Tick.{late}
use Rattle.service.proofs.Rowwise.{Stepped}
use Rattle.service.proofs.Stepping.{dropped}
use Rattle.service.specs.Answers.{mask}
use Rattle.service.specs.Rows.{view}
use Rattle.service.proofs.backlog.Backlog.drop_late.Given as goal

-- the late tasks so far have lost their work, and stand in the mask
abbrev pub invariant-loop-number : goal.invariant-loop-number
invariant-loop-number l =
    Stepped dropped l.number l.initial.row-items l.row-items
    × (l.missed ≡ mask l.number (late (view (task_set l.plan) l.fn.self)))
