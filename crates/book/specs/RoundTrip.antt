-- What reading and writing make of each other. Assumes nothing.
use Rattle.std.specs.Prelude.{◌≡◌, ℕ, List, None}
use Rattle.plan.specs.TaskSet.{TaskSet}
use Rattle.book.specs.Reading.{decoded, read_fault}

-- the bytes are an accepted book, and it holds that task set
pub record ReadsAs (book : List ℕ) (set : TaskSet) : Type 0 where
  pub accepted : read_fault book ≡ None
  pub holds : decoded book ≡ set
