-- The rows of a backlog as the counters of the theory, and the job that a task releases as a row.
-- Assumes nothing.
use Rattle.std.specs.Prelude.{◌≡◌, ℕ, ◌/◌, ◌%◌, Bool, cond, ◌&&◌, drop, Some, None, Option, ◌==◌, nat_lt, slice_index_or}
use Rattle.plan.specs.Bounded.{count}
use Rattle.plan.specs.TaskSet.{Parameters, TaskSet, job_work}
use Rattle.pattern.specs.Policy.{Meaning, mandatory}
use Rattle.edf.specs.Tick.{Counters}
use Rattle.edf.specs.Plans.{D, W, released}
use Rattle.service.specs.declared.backlog.Backlog.{Backlog}
use Rattle.service.specs.declared.backlog.Pending.{Pending}

abbrev pub idle : Pending
idle = record { work = 0; ticks = 0 }

abbrev pub row : Backlog → ℕ → Pending
row backlog i = slice_index_or backlog.rows i idle

-- The work left and the ticks left of the plan's tasks. The rows past them are spare, and nothing is open there.
abbrev pub view : TaskSet → Backlog → Counters
view set backlog = record {
  w = λ i. cond (nat_lt i (count set)) (row backlog i).work 0;
  d = λ i. cond (nat_lt i (count set)) (row backlog i).ticks 0;
}

-- Work is left, and no tick to do it in.
abbrev pub overdue : Pending → Bool
overdue pending = nat_lt 0 pending.work && pending.ticks == 0

-- The job that task i releases at tick u, with all its work and ticks, if it releases a mandatory one.
abbrev pub released_job : TaskSet → Meaning → (i u : ℕ) → Option Pending
released_job set policy i u = cond (released set policy i u) (Some (record { work = W set i; ticks = D set i })) None

-- The same for task i with these parameters, at the ratio of the task set: T divides u, and job u / T is mandatory.
abbrev pub job_of : TaskSet → Meaning → (i : ℕ) → Parameters → (u : ℕ) → Option Pending
job_of set policy i t u =
    cond (u % t.period == 0 && mandatory policy i t.m t.k (u / t.period))
    (Some (record { work = job_work set.p set.q t; ticks = t.deadline })) None

-- The rows past the plan's tasks are as they were.
abbrev pub SpareKept : TaskSet → (old new : Backlog) → Type 0
SpareKept set old new = drop (count set) new.rows ≡ drop (count set) old.rows
