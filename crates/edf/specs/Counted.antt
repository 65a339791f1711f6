-- Small logs, and whether a job is met in each: a job with too few ticks or a report too late is not.
-- Assumes nothing.
use Rattle.std.specs.Prelude.{◌≡◌, ℕ, Bool, true, false, List, [], ◌∷◌, None, Option, slice_index_or}
use Rattle.std.specs.List.{AllByRecursion}
use Rattle.plan.specs.TaskSet.{TaskSet}
use Rattle.edf.specs.Counting.{job_met}
use Rattle.edf.specs.Meetings.{high, plain, A, B, idle}

-- Whom the ticks served, from tick 0 on, the task reported done after each, and whether job j of task i is met.
pub record Log : Type 0 where
  pub set : TaskSet
  pub served : List (Option ℕ)
  pub told : List (Option ℕ)
  pub i : ℕ
  pub j : ℕ
  pub met : Bool

-- Task A releases a job of 1 tick at every second tick, and task B one of 2 ticks at every fourth.
abbrev pub pair : TaskSet
pair = plain (high 2 2 1 1 1 ∷ high 4 4 2 1 1 ∷ [])

abbrev pub CountsSo : Log → Type 0
CountsSo log = job_met log.set (λ n. slice_index_or log.served n None) (λ n. slice_index_or log.told n None) log.i log.j ≡ log.met

abbrev pub logs : List Log
logs =
    -- B has its 2 ticks, or 1 of them, or 1 of them and a report
    record { set = pair; served = A ∷ B ∷ A ∷ B ∷ []; told = []; i = 1; j = 0; met = true }
    ∷ record { set = pair; served = A ∷ B ∷ A ∷ idle ∷ []; told = []; i = 1; j = 0; met = false }
    ∷ record { set = pair; served = A ∷ B ∷ A ∷ idle ∷ []; told = idle ∷ B ∷ []; i = 1; j = 0; met = true }
    -- a report after tick 2 comes before the deadline 4, and one after tick 3 does not
    ∷ record { set = pair; served = idle ∷ idle ∷ B ∷ []; told = idle ∷ idle ∷ B ∷ []; i = 1; j = 0; met = true }
    ∷ record { set = pair; served = idle ∷ idle ∷ idle ∷ B ∷ []; told = idle ∷ idle ∷ idle ∷ B ∷ []; i = 1; j = 0; met = false }
    -- tick 2 belongs to job 1 of A, and not to job 0
    ∷ record { set = pair; served = idle ∷ idle ∷ A ∷ []; told = []; i = 0; j = 1; met = true }
    ∷ record { set = pair; served = idle ∷ idle ∷ A ∷ []; told = []; i = 0; j = 0; met = false }
    -- tick 2 belongs to job 0 of a task with the period 4, but comes after its deadline 2
    ∷ record { set = plain (high 4 2 1 1 1 ∷ []); served = idle ∷ idle ∷ A ∷ []; told = []; i = 0; j = 0; met = false }
    -- a report for the job of one task is none for that of another
    ∷ record { set = pair; served = idle ∷ B ∷ []; told = idle ∷ B ∷ []; i = 0; j = 0; met = false }
    ∷ []

abbrev pub LogsCountSo : Type 0
LogsCountSo = AllByRecursion CountsSo logs
