-- Tasks that release jobs, what a timetable owes them, and the spans of ticks that hold too much work.
-- Assumes nothing.
use Rattle.std.specs.Prelude.{◌≡◌, ℕ, ◌+◌, ◌-◌, ◌<◌, ◌≤◌, Bool, true, false, cond, ◌&&◌, Some, None, Option, ◌==◌, nat_le}
use Rattle.pattern.specs.Sum.{Sum}

-- Tasks 0 to count − 1. A job of task i has `work i` ticks of work, to be done within `deadline i` ticks of its release;
-- `releases i u` says whether task i releases a mandatory job at tick u.
pub record System : Type 0 where
  pub count : ℕ
  pub deadline : ℕ → ℕ
  pub work : ℕ → ℕ
  pub releases : ℕ → ℕ → Bool

-- A job has at least one tick, and its deadline is not after the next release of its task.
pub record Sound (S : System) : Type 0 where
  pub positive : (i : ℕ) → i < S.count → 0 < S.deadline i
  pub apart : (i u v : ℕ) → i < S.count → u < v → S.releases i u ≡ true → S.releases i v ≡ true → u + S.deadline i ≤ v

-- The work of task i's job released at tick u, if there is one and its deadline is at or before e.
abbrev pub work_due : System → ℕ → ℕ → ℕ → ℕ
work_due S e u i = cond (S.releases i u && nat_le (u + S.deadline i) e) (S.work i) 0

-- The work released at tick u with a deadline at or before e.
abbrev pub due : System → ℕ → ℕ → ℕ
due S e u = Sum S.count (work_due S e u)

-- The work of the span from s to e: of the jobs released at or after s with a deadline at or before e.
abbrev pub span_work : System → ℕ → ℕ → ℕ
span_work S s e = Sum (e - s) (λ k. due S e (s + k))

-- The span from s to e has more work than ticks, where `work s e` is its work.
pub record Exceeds (work : ℕ → ℕ → ℕ) (s e : ℕ) : Type 0 where
  pub proper : s < e
  pub excess : e - s < work s e

abbrev pub Overloaded : System → ℕ → ℕ → Type 0
Overloaded S = Exceeds (span_work S)

abbrev pub NeverOverloaded : System → Type 0
NeverOverloaded S = (s e : ℕ) → Overloaded S s e → ⊥

-- A timetable gives each tick to at most one task.
abbrev pub Timetable : Type 0
Timetable = ℕ → Option ℕ

-- The task named is i.
abbrev pub is : Option ℕ → ℕ → Bool
is None i = false
is (Some k) i = k == i

-- How many of the l ticks from s on go to task i.
abbrev pub service : Timetable → ℕ → ℕ → ℕ → ℕ
service t i s l = Sum l (λ k. cond (is (t (s + k)) i) 1 0)

-- Every released job gets its work done between its release and its deadline.
abbrev pub Serves : System → Timetable → Type 0
Serves S t = (i u : ℕ) → i < S.count → S.releases i u ≡ true → S.work i ≤ service t i u (S.deadline i)
