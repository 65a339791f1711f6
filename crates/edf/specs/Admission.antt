-- Admission of a plan under a policy: its cycle, the timetables that serve it, the work of a span, and what decides.
-- Assumes nothing.
use Rattle.std.specs.Prelude.{◌≡◌, ℕ, suc, ◌+◌, ◌-◌, ◌*◌, ◌%◌, ◌<◌, ◌≤◌, Bool, true, false, cond, ◌&&◌, ◌↔◌, Some, None, nat_le}
use Rattle.plan.specs.TaskSet.{TaskSet}
use Rattle.pattern.specs.Sum.{Sum}
use Rattle.pattern.specs.Policy.{Meaning, Lawful}
use Rattle.edf.specs.System.{Exceeds, Timetable, Serves, service, span_work}
use Rattle.edf.specs.Tick.{Counters, drop_late, tick, move_on}
use Rattle.edf.specs.Run.{Reports, silent, trace, who, Misses}
use Rattle.edf.specs.Reading.{SameBelow, SameAnswer}
use Rattle.edf.specs.Refusal.{FirstExcess, refused, start_below}
use Rattle.edf.specs.Periodic.{Periodic}
use Rattle.edf.specs.Cycle.{Cycle, Common, cycle}
use Rattle.plan.specs.Bounded.{Bounded, count}
use Rattle.edf.specs.Plans.{T, D, W, L, job_release, job_deadline, marked, released, system}

module _ (set : TaskSet) (policy : Meaning) where
  -- The ticks after which the releases and marks of task i repeat.
  abbrev pub repetition : (i : ℕ) → ℕ
  repetition i = T set i * L set policy i

  -- H is the cycle: the smallest positive number that T × L of every task divides, so 1 for no tasks.
  abbrev pub CycleOf : (H : ℕ) → Type 0
  CycleOf = Cycle (count set) repetition

  abbrev pub cycle_of : ℕ
  cycle_of = cycle (count set) repetition

  -- The timetable gives to every task, for every marked job of it, at least W of the D ticks from its release on.
  abbrev pub ServesJobs : Timetable → Type 0
  ServesJobs t = (i j : ℕ) → i < count set → marked set policy i j ≡ true → W set i ≤ service t i (job_release set i j) (D set i)

  -- Job j of task i is marked, is released at or after s and has its deadline at or before e.
  abbrev pub falls_within : (s e i j : ℕ) → Bool
  falls_within s e i j = marked set policy i j && nat_le s (job_release set i j) && nat_le (job_deadline set i j) e

  -- The sum of W over these jobs of all tasks. A job from number e on has its deadline after e.
  abbrev pub work_of_span : (s e : ℕ) → ℕ
  work_of_span s e = Sum (count set) (λ i. Sum e (λ j. cond (falls_within s e i j) (W set i) 0))

  -- Its work is more than its ticks.
  abbrev pub OverloadedSpan : (s e : ℕ) → Type 0
  OverloadedSpan = Exceeds work_of_span

  -- No span is overloaded.
  abbrev pub Fits : Type 0
  Fits = (s e : ℕ) → OverloadedSpan s e → ⊥

  -- The span that a refusal carries: overloaded; no overloaded span has a smaller end, and none with this end a larger start.
  abbrev pub RefusedSpan : (s e : ℕ) → Type 0
  RefusedSpan = FirstExcess work_of_span

-- The cycle is found one task after the other, and a value so far above 1,048,576 decides.
pub record PlanCycleFound : Type 0 where
  pub only : (set : TaskSet) (policy : Meaning) → Bounded set → Lawful policy → (h : ℕ) → CycleOf set policy h ↔ (h ≡ cycle_of set policy)
  pub none : (set : TaskSet) (policy : Meaning) → count set ≡ 0 → cycle_of set policy ≡ 1
  pub grows : (set : TaskSet) (policy : Meaning) (n g : ℕ) → n < count set → Cycle n (repetition set policy) g → (h : ℕ) →
      Cycle (suc n) (repetition set policy) h ↔ Common g (repetition set policy n) h
  pub decides : (set : TaskSet) (policy : Meaning) (n g h : ℕ) → n ≤ count set → Cycle n (repetition set policy) g → CycleOf set policy h →
      1048576 < g → 1048576 < h

-- The releases repeat by the cycle, and no job of the first cycle has its deadline after it.
abbrev pub PlanIsPeriodic : Type 0
PlanIsPeriodic = (set : TaskSet) (policy : Meaning) (H : ℕ) → Bounded set → CycleOf set policy H → Periodic (system set policy) H

-- The work by jobs is the work by release ticks, and leaves out no job.
pub record PlanWorkByJobs : Type 0 where
  pub same : (set : TaskSet) (policy : Meaning) → Bounded set → (s e : ℕ) → work_of_span set policy s e ≡ span_work (system set policy) s e
  pub all : (set : TaskSet) (policy : Meaning) → Bounded set → (s e i j : ℕ) → i < count set → e ≤ j → falls_within set policy s e i j ≡ false

-- A task whose work is more than its deadline overloads the plan under every lawful policy.
abbrev pub PlanOverworked : Type 0
PlanOverworked = (set : TaskSet) (policy : Meaning) → Bounded set → Lawful policy → (i : ℕ) → i < count set → D set i < W set i →
    (s : ℕ) × (e : ℕ) × OverloadedSpan set policy s e

-- How large the numbers of an admission get.
pub record PlanSizes : Type 0 where
  pub repeats : (set : TaskSet) (policy : Meaning) → Bounded set → Lawful policy → (i : ℕ) → i < count set →
      (1 ≤ repetition set policy i) × (repetition set policy i ≤ 4194240)
  -- if no overloaded span ends before e, the work of a span to e is at most its ticks and one job of each task
  pub to_first_end : (set : TaskSet) (policy : Meaning) → Bounded set → (s e : ℕ) → s ≤ e →
      ((s' e' : ℕ) → e' < e → OverloadedSpan set policy s' e' → ⊥) → work_of_span set policy s e ≤ e - s + Sum (count set) (W set)
  pub of_one_job_each : (set : TaskSet) → Bounded set → Sum (count set) (W set) ≤ 31456800
  -- so the refused span has a work below 33,000,000, in a cycle of at most 1,048,576
  pub refused_work : (set : TaskSet) (policy : Meaning) (H : ℕ) → Bounded set → CycleOf set policy H → H ≤ 1048576 →
      (s e : ℕ) → RefusedSpan set policy s e → (e ≤ H) × (work_of_span set policy s e < 33000000)

-- To serve the jobs is to serve the releases.
abbrev pub PlanServesByJobs : Type 0
PlanServesByJobs = (set : TaskSet) (policy : Meaning) → Bounded set → (t : Timetable) → ServesJobs set policy t ↔ Serves (system set policy) t

-- Some timetable serves exactly when no span is overloaded.
abbrev pub PlanServesIffFits : Type 0
PlanServesIffFits = (set : TaskSet) (policy : Meaning) → Bounded set → ((t : Timetable) × ServesJobs set policy t) ↔ Fits set policy

-- If no span is overloaded, no tick after any ticks and done reports reports a task late.
abbrev pub PlanNeverLate : Type 0
PlanNeverLate = (set : TaskSet) (policy : Meaning) → Bounded set → Fits set policy → (told : Reports) (n : ℕ) → Misses (system set policy) told n → ⊥

-- The position in the cycle says what is released.
abbrev pub PlanPositionTellsReleases : Type 0
PlanPositionTellsReleases = (set : TaskSet) (policy : Meaning) (H : ℕ) → Bounded set → CycleOf set policy H → (i n : ℕ) → i < count set →
    released set policy i n ≡ released set policy i (n % H)

-- So a tick answers by its position what it answers by its number, and the position of the next one is that of step 5.
pub record PlanTickByPosition : Type 0 where
  pub answers : (set : TaskSet) (policy : Meaning) (H : ℕ) → Bounded set → CycleOf set policy H → (n : ℕ) (c : Counters) →
      SameAnswer (count set) (tick (system set policy) n c) (tick (system set policy) (n % H) c)
  pub starts : (H : ℕ) → 0 % H ≡ 0
  pub moves : (H n : ℕ) → 0 < H → suc n % H ≡ move_on H (n % H)

pub record PlanOneCycleIsEnough : Type 0 where
  -- if some span is overloaded, one within the first cycle is, and it ends no later
  pub within : (set : TaskSet) (policy : Meaning) (H : ℕ) → Bounded set → CycleOf set policy H → (s e : ℕ) → OverloadedSpan set policy s e →
      (s' : ℕ) × (e' : ℕ) × (e' ≤ H) × (e' ≤ e) × OverloadedSpan set policy s' e'
  -- so a look at the spans of one cycle finds the refused span, and finds none exactly if no span is overloaded
  pub refuses : (set : TaskSet) (policy : Meaning) (H : ℕ) → Bounded set → CycleOf set policy H → (s e : ℕ) →
      RefusedSpan set policy s e ↔ (refused (system set policy) H ≡ Some (record { from = s; to = e }))
  pub admits : (set : TaskSet) (policy : Meaning) (H : ℕ) → Bounded set → CycleOf set policy H →
      Fits set policy ↔ (refused (system set policy) H ≡ None)

-- Running the steps through one cycle, its end included, meets a late task exactly if some span is overloaded,
-- and first at the smallest end; the last start of an overloaded span to there gives the refused span.
pub record PlanCycleRunDecides : Type 0 where
  pub late : (set : TaskSet) (policy : Meaning) (H : ℕ) → Bounded set → CycleOf set policy H →
      ((n : ℕ) × (n ≤ H) × Misses (system set policy) silent n) ↔ ((s : ℕ) × (e : ℕ) × OverloadedSpan set policy s e)
  pub first : (set : TaskSet) (policy : Meaning) (H : ℕ) → Bounded set → CycleOf set policy H → (s e : ℕ) → RefusedSpan set policy s e →
      (e ≤ H) × Misses (system set policy) silent e × ((n : ℕ) → n < e → Misses (system set policy) silent n → ⊥)
  pub names : (set : TaskSet) (policy : Meaning) → Bounded set → (e : ℕ) →
      Misses (system set policy) silent e → ((n : ℕ) → n < e → Misses (system set policy) silent n → ⊥) →
      (s : ℕ) × (start_below (system set policy) e e ≡ Some s) × RefusedSpan set policy s e

-- At every multiple of the cycle, after step 1, nothing is open: after any ticks and done reports.
abbrev pub PlanCycleEndsEmpty : Type 0
PlanCycleEndsEmpty = (set : TaskSet) (policy : Meaning) (H : ℕ) → Bounded set → CycleOf set policy H → (told : Reports) (q i : ℕ) → i < count set →
    let c = drop_late (trace (system set policy) told (q * H)) in
    (c.w i ≡ 0) × (c.d i ≡ 0)

-- An admitted run without done reports repeats by the cycle.
pub record PlanRunRepeats : Type 0 where
  pub counters : (set : TaskSet) (policy : Meaning) (H : ℕ) → Bounded set → CycleOf set policy H → Fits set policy → (n : ℕ) →
      SameBelow (count set) (trace (system set policy) silent (n + H)) (trace (system set policy) silent n)
  pub served : (set : TaskSet) (policy : Meaning) (H : ℕ) → Bounded set → CycleOf set policy H → Fits set policy → (n : ℕ) →
      who (system set policy) silent (n + H) ≡ who (system set policy) silent n
