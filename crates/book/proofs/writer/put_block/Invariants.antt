use Rattle.plan.specs.TaskSet.{task_set}
use Rattle.book.proofs.Joined.{Filled, record_from}
use Rattle.book.proofs.writer.put_block.Given as goal

-- the records so far are those of the tasks
abbrev pub invariant-loop-number : goal.invariant-loop-number
invariant-loop-number l = Filled (record_from (task_set l.plan) l.first) 15 l.number l.record-items
