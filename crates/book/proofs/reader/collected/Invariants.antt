use Rattle.plan.specs.TaskSet.{task_set}
use Rattle.book.proofs.Filled.{Filling}
use Rattle.book.specs.Cursors.{walk}
use Rattle.book.proofs.reader.collected.Given as goal

abbrev pub invariant-loop-item : goal.invariant-loop-item
invariant-loop-item l = Filling l.fn.cursor.book.now (task_set l.initial.plan).p (task_set l.initial.plan).q (walk l.item-iterator) (task_set l.plan)
