-- A board as the state of the rules. Assumes nothing.
use Rattle.std.specs.Prelude.{ℕ, None, Result, nat_le}
use Rattle.plan.specs.Bounded.{count}
use Rattle.plan.specs.Checks.{refuse_if}
use Rattle.plan.specs.Refusals.{answer}
use Rattle.plan.specs.TaskSet.{task_set}
use Rattle.service.specs.Rows.{row, view}
use Rattle.service.specs.declared.backlog.Pending.{Pending}
use Rattle.runner.specs.Rules.{State}
use Rattle.runner.specs.declared.board.Board.{Board}
use Rattle.runner.specs.declared.fault.TaskFault.{TaskFault}
use Rattle.runner.specs.declared.fault.TaskFault.TheVariants.{Absent}

abbrev pub state : Board → State
state board = record {
  set = task_set board.plan;
  cycle = board.cycle;
  position = board.position;
  jobs = view (task_set board.plan) board.backlog;
  last = board.last;
}

-- The row of a task that the plan has.
abbrev pub pending_answer : Board → ℕ → Result Pending TaskFault
pending_answer board i = answer (refuse_if (nat_le (count (task_set board.plan)) i) (Absent i) None) (row board.backlog i)
