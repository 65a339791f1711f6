-- Classic mistakes: cases that show them, and two hurried tests, each with a plan that passes it although no timetable serves it.
-- Assumes nothing.
use Rattle.std.specs.Prelude.{ℕ, zero, suc, ◌+◌, ◌*◌, ◌≤◌, List, [], ◌∷◌}
use Rattle.std.specs.List.{AllByRecursion}
use Rattle.plan.specs.TaskSet.{TaskSet}
use Rattle.pattern.specs.Policy.{Meaning, Lawful}
use Rattle.pattern.specs.Even.{even}
use Rattle.pattern.specs.Shifted.{shifted}
use Rattle.edf.specs.System.{Timetable}
use Rattle.plan.specs.Bounded.{Bounded, count, task}
use Rattle.edf.specs.Plans.{T, W}
use Rattle.edf.specs.Admission.{OverloadedSpan, ServesJobs}
use Rattle.edf.specs.Meetings.{Meeting, row, accepted, overloaded, Holds, high, low, plain, geared, A, B, halves}

abbrev pub mistakes : List Meeting
mistakes =
    -- the tick numbered like the deadline counted among the job's own
    overloaded (plain (high 2 1 1 1 1 ∷ high 2 1 1 1 1 ∷ [])) even (1 ∷ 1 ∷ []) 0 1 2
    -- no look at the moment after the last tick of the cycle
    ∷ overloaded (geared 5 4 (low 4 4 4 1 1 ∷ [])) even (5 ∷ []) 0 4 5
    -- some overloaded start instead of the largest
    ∷ overloaded (plain (high 5 5 4 1 1 ∷ high 2 1 1 1 2 ∷ [])) (shifted (0 ∷ 1 ∷ [])) (4 ∷ 1 ∷ []) 10 15 6
    -- by releases instead of by deadlines
    ∷ overloaded (geared 2 1 (low 8 8 8 1 1 ∷ low 2 1 1 1 2 ∷ [])) (shifted (0 ∷ 1 ∷ [])) (16 ∷ 2 ∷ []) 2 3 2
    -- rounded fractions: job 14 is not marked
    ∷ row even 11 15 (1 ∷ 1 ∷ 1 ∷ 0 ∷ 1 ∷ 1 ∷ 1 ∷ 0 ∷ 1 ∷ 1 ∷ 1 ∷ 0 ∷ 1 ∷ 1 ∷ 0 ∷ [])
    -- by task number instead of by deadlines
    ∷ accepted (plain (high 4 4 2 1 1 ∷ high 2 2 1 1 1 ∷ [])) even (2 ∷ 1 ∷ []) 4 (B ∷ A ∷ A ∷ B ∷ [])
    -- the last of equals
    ∷ accepted (plain (high 2 2 1 1 1 ∷ high 2 2 1 1 1 ∷ [])) even (1 ∷ 1 ∷ []) 2 (A ∷ B ∷ [])
    ∷ []

abbrev pub ClassicMistakesShown : Type 0
ClassicMistakesShown = AllByRecursion Holds mistakes

-- No span that starts at 0 is overloaded, whatever its end.
abbrev pub FitsFrom0 : TaskSet → Meaning → Type 0
FitsFrom0 set policy = (e : ℕ) → OverloadedSpan set policy 0 e → ⊥

-- The sum of m × W / (k × T) over the first n tasks, as one fraction: `share set n` over `whole set n`.
abbrev pub whole : TaskSet → (n : ℕ) → ℕ
whole set zero = 1
whole set (suc n) = whole set n * ((task set n).k * T set n)

abbrev pub share : TaskSet → (n : ℕ) → ℕ
share set zero = 0
share set (suc n) = share set n * ((task set n).k * T set n) + (task set n).m * W set n * whole set n

-- The sum over all tasks is at most 1.
abbrev pub SharesAtMost1 : TaskSet → Type 0
SharesAtMost1 set = share set (count set) ≤ whole set (count set)

-- The plan passes the test under a lawful policy, and no timetable serves it.
pub record Misled (Test : Type 0) (set : TaskSet) (policy : Meaning) : Type 0 where
  pub bounded : Bounded set
  pub lawful : Lawful policy
  pub passes : Test
  pub unserved : (t : Timetable) → ServesJobs set policy t → ⊥

pub record HurriedTestsMislead : Type 0 where
  pub spans_from_0 : Misled (FitsFrom0 halves (shifted (1 ∷ 1 ∷ []))) halves (shifted (1 ∷ 1 ∷ []))
  pub shares : Misled (SharesAtMost1 halves) halves even
