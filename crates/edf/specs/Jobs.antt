-- What is said of a job, by the ticks answered and the done reports accepted alone.
-- Assumes nothing.
use Rattle.std.specs.Prelude.{◌≡◌, ℕ, ◌+◌, ◌-◌, ◌<◌, ◌≤◌, Bool, ◌||◌, Some, nat_le, nat_lt}
use Rattle.edf.specs.System.{System, Timetable, service}
use Rattle.edf.specs.Run.{Reports}

-- Tick n belongs to the job that task i released at u: it serves the task, from the release on and before the deadline.
pub record Belongs (S : System) (served : Timetable) (i u n : ℕ) : Type 0 where
  pub serves : served n ≡ Some i
  pub since : u ≤ n
  pub before : n < u + S.deadline i

-- How many ticks belong to it.
abbrev pub job_ticks : System → Timetable → ℕ → ℕ → ℕ
job_ticks S served i u = service served i u (S.deadline i)

-- A done report for it was accepted before its deadline had passed: while fewer than u + deadline ticks had been answered.
abbrev pub reported : System → Reports → ℕ → ℕ → Bool
reported S told i u = nat_lt 0 (service told i u (S.deadline i - 1))

-- It got its work, or was reported done, before its deadline.
abbrev pub met : System → Timetable → Reports → ℕ → ℕ → Bool
met S served told i u = nat_le (S.work i) (job_ticks S served i u) || reported S told i u

-- Its deadline has passed once that many ticks have been answered.
abbrev pub Passed : System → ℕ → ℕ → ℕ → Type 0
Passed S i u n = u + S.deadline i ≤ n
