-- What each refusal of the runner layer says: its number, layer, place and carried values, and its reason in words.
-- Assumes nothing.
use Rattle.std.specs.Prelude.{ℕ, List, Some, codes}
use Rattle.plan.specs.Refusals.{plain}
use Rattle.plan.specs.declared.fault.Account.{Account}
use Rattle.plan.specs.declared.fault.Layer.TheVariants as layer
use Rattle.plan.specs.declared.fault.Place.TheVariants as place
use Rattle.book.specs.Refusals.{book_account, book_reason}
use Rattle.book.specs.declared.fault.BookFault.{BookFault}
use Rattle.admission.specs.Refusals.{start_account, start_reason}
use Rattle.admission.specs.declared.fault.StartFault.{StartFault}
use Rattle.runner.specs.declared.fault.LoadFault.{LoadFault}
use Rattle.runner.specs.declared.fault.LoadFault.TheVariants.{Book, Start}
use Rattle.runner.specs.declared.fault.TaskFault.{TaskFault}
use Rattle.runner.specs.declared.fault.TaskFault.TheVariants.{Absent, NoWork, NotServed}

-- a fault of the book keeps its number, layer and place
abbrev pub load_account : LoadFault → Account
load_account (Book fault) = book_account fault
load_account (Start fault) = start_account fault

-- the place is the number of the task that was named
abbrev pub task_account : TaskFault → Account
task_account (Absent number) = plain 14 layer.Runner (Some (place.Task number))
task_account (NoWork number) = plain 15 layer.Runner (Some (place.Task number))
task_account (NotServed number) = plain 16 layer.Runner (Some (place.Task number))

-- a book's and a start's fault, carried whole
abbrev pub by_book : BookFault → LoadFault
by_book fault = Book fault

abbrev pub by_start : StartFault → LoadFault
by_start fault = Start fault

-- the reasons in words
abbrev pub load_reason : LoadFault → List ℕ
load_reason (Book fault) = book_reason fault
load_reason (Start fault) = start_reason fault

abbrev pub task_reason : TaskFault → List ℕ
task_reason (Absent number) = codes "the plan has no task of this number"
task_reason (NoWork number) = codes "the task has no work left"
task_reason (NotServed number) = codes "the task was not served in the last tick"
