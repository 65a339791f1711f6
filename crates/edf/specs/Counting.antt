-- What is said of a plan's jobs by the ticks answered and the done reports accepted alone, and what every job gets.
-- Assumes nothing.
use Rattle.std.specs.Prelude.{◌≡◌, ℕ, suc, ◌+◌, ◌-◌, ◌/◌, ◌<◌, ◌≤◌, Bool, true, cond, ◌&&◌, ◌||◌, is_some, None, ◌==◌, nat_le, nat_lt}
use Rattle.plan.specs.TaskSet.{TaskSet}
use Rattle.pattern.specs.Sum.{Sum}
use Rattle.pattern.specs.Policy.{Meaning, Lawful}
use Rattle.edf.specs.System.{Timetable, is}
use Rattle.edf.specs.Run.{Reports, Proper, who}
use Rattle.plan.specs.Bounded.{Bounded, count, task}
use Rattle.edf.specs.Plans.{T, W, job_deadline, marked, system}
use Rattle.edf.specs.Admission.{Fits}

-- `served n` is whom tick n served, and `told n` the task of the done report accepted between ticks n and n + 1, if any.
module _ (set : TaskSet) (served : Timetable) where
  -- Tick n belongs to job n / T of the task that it served.
  abbrev pub belongs : (i j n : ℕ) → Bool
  belongs i j n = is (served n) i && (n / T set i) == j

  -- The ticks before its deadline that belong to job j of task i.
  abbrev pub ticks_of : (i j : ℕ) → ℕ
  ticks_of i j = Sum (job_deadline set i j) (λ n. cond (belongs i j n) 1 0)

  module _ (told : Reports) where
    -- A report accepted after tick n is for the job that tick n belongs to.
    abbrev pub report_for : (i j n : ℕ) → Bool
    report_for i j n = is_some (told n) && belongs i j n

    -- A report for the job was accepted while fewer ticks had been answered than its deadline says: after tick n they are n + 1.
    abbrev pub reported_done : (i j : ℕ) → Bool
    reported_done i j = nat_lt 0 (Sum (job_deadline set i j - 1) (λ n. cond (report_for i j n) 1 0))

    -- At least W ticks before its deadline belong to the job, or it was reported done before its deadline had passed.
    abbrev pub job_met : (i j : ℕ) → Bool
    job_met i j = nat_le (W set i) (ticks_of i j) || reported_done i j

    -- How many of the n jobs from job a on are met.
    abbrev pub met_among : (i a n : ℕ) → ℕ
    met_among i a n = Sum n (λ x. cond (job_met i (a + x)) 1 0)

-- The deadline of job j of task i has passed when N ticks have been answered.
abbrev pub DeadlinePassed : TaskSet → (N i j : ℕ) → Type 0
DeadlinePassed set N i j = job_deadline set i j ≤ N

-- N ticks were answered, as the steps say, and each report accepted was of the task that the tick before it served, with work left.
pub record Answered (set : TaskSet) (policy : Meaning) (N : ℕ) (served : Timetable) (told : Reports) : Type 0 where
  pub ticks : (n : ℕ) → n < N → served n ≡ who (system set policy) told n
  pub later : (n : ℕ) → N ≤ n → served n ≡ None
  pub reports : Proper (system set policy) told

-- Every marked job whose deadline has passed was met.
abbrev pub MandatoryJobsMet : Type 0
MandatoryJobsMet = (set : TaskSet) (policy : Meaning) (N : ℕ) (served : Timetable) (told : Reports) → Bounded set → Fits set policy →
    Answered set policy N served told →
    (i j : ℕ) → i < count set → marked set policy i j ≡ true → DeadlinePassed set N i j → job_met set served told i j ≡ true

-- Of any k jobs of a task in a row whose deadlines have passed at least m were met.
abbrev pub EnoughJobsMet : Type 0
EnoughJobsMet = (set : TaskSet) (policy : Meaning) (N : ℕ) (served : Timetable) (told : Reports) → Bounded set → Lawful policy → Fits set policy →
    Answered set policy N served told →
    (i a : ℕ) → i < count set → ((x : ℕ) → x < (task set i).k → DeadlinePassed set N i (a + x)) →
    (task set i).m ≤ met_among set served told i a (task set i).k

-- A tick belongs to a marked job of the plan, before its deadline: no unmarked job gets a tick.
abbrev pub TicksGoToMarkedJobs : Type 0
TicksGoToMarkedJobs = (set : TaskSet) (policy : Meaning) (N : ℕ) (served : Timetable) (told : Reports) → Bounded set →
    Answered set policy N served told →
    (i j n : ℕ) → belongs set served i j n ≡ true → (i < count set) × (marked set policy i j ≡ true) × (n < job_deadline set i j)

-- No job gets more ticks than its work.
abbrev pub JobsGetAtMostTheirWork : Type 0
JobsGetAtMostTheirWork = (set : TaskSet) (policy : Meaning) (N : ℕ) (served : Timetable) (told : Reports) → Bounded set →
    Answered set policy N served told → (i j : ℕ) → i < count set → ticks_of set served i j ≤ W set i

-- A done report is accepted only for a job whose deadline has not passed.
abbrev pub ReportsComeInTime : Type 0
ReportsComeInTime = (set : TaskSet) (policy : Meaning) (N : ℕ) (served : Timetable) (told : Reports) → Bounded set → Fits set policy →
    Answered set policy N served told → (i j n : ℕ) → report_for set served told i j n ≡ true → suc n < job_deadline set i j
