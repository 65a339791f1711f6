-- The worked meetings that are checked by proof: rows of marks, and plans with what becomes of each.
-- Assumes nothing.
use Rattle.std.specs.Prelude.{◌≡◌, ℕ, ◌%◌, ◌<◌, ◌≤◌, Bool, true, false, cond, List, [], ◌∷◌, length, Some, None, Option, slice_index, slice_index_or}
use Rattle.std.specs.List.{AllByRecursion}
use Rattle.plan.specs.TaskSet.{Parameters, TaskSet}
use Rattle.plan.specs.declared.task.Speed.TheVariants.{High, Low}
use Rattle.pattern.specs.Policy.{Meaning, mandatory}
use Rattle.pattern.specs.Even.{even}
use Rattle.pattern.specs.Red.{red}
use Rattle.pattern.specs.Shifted.{shifted}
use Rattle.edf.specs.Tick.{Answer, tick, move_on}
use Rattle.edf.specs.Run.{silent, trace, who}
use Rattle.plan.specs.Bounded.{Bounded, count}
use Rattle.edf.specs.Plans.{W, released, system}
use Rattle.edf.specs.Admission.{CycleOf, Fits, RefusedSpan, work_of_span}

-- A task (T,D,C,m,k) at high speed, and one at low speed.
abbrev pub high : (period deadline work m k : ℕ) → Parameters
high period deadline work m k = record { period = period; deadline = deadline; work = work; m = m; k = k; speed = High }

abbrev pub low : (period deadline work m k : ℕ) → Parameters
low period deadline work m k = record { period = period; deadline = deadline; work = work; m = m; k = k; speed = Low }

-- A plan with the ratio 1/1, and one with the ratio p/q.
abbrev pub plain : List Parameters → TaskSet
plain tasks = record { tasks = tasks; p = 1; q = 1 }

abbrev pub geared : (p q : ℕ) → List Parameters → TaskSet
geared p q tasks = record { tasks = tasks; p = p; q = q }

-- The letters of the ticks: task 0, task 1, nobody.
abbrev pub A : Option ℕ
A = Some 0

abbrev pub B : Option ℕ
B = Some 1

abbrev pub idle : Option ℕ
idle = None

-- A row of a table tick by tick: the position before, the tasks that release (1), the task served, whether its work is used up,
-- the work left and the ticks left of each task after the tick, and the position after.
pub record Step : Type 0 where
  pub position : ℕ
  pub releases : List ℕ
  pub served : Option ℕ
  pub used_up : Bool
  pub w : List ℕ
  pub d : List ℕ
  pub next : ℕ

-- Stands where a table has no row; nothing is said of it.
abbrev pub blank : Step
blank = record { position = 0; releases = []; served = None; used_up = false; w = []; d = []; next = 0 }

pub data Meeting : Type 0 where
  -- the marks of task 0, from job 0 on; 1 is marked
  row : (policy : Meaning) (m k : ℕ) (marks : List ℕ) → Meeting
  -- the work of a job of each task, the cycle, and the ticks of every cycle
  accepted : (set : TaskSet) (policy : Meaning) (works : List ℕ) (H : ℕ) (ticks : List (Option ℕ)) → Meeting
  -- the work of a job of each task, and the span that is carried, with its work
  overloaded : (set : TaskSet) (policy : Meaning) (works : List ℕ) (s e work : ℕ) → Meeting
  -- the ticks of the first cycle one by one
  stepped : (set : TaskSet) (policy : Meaning) (H : ℕ) (steps : List Step) → Meeting

pub record MarkedAs (policy : Meaning) (m k : ℕ) (marks : List ℕ) : Type 0 where
  pub whole : length marks ≡ k
  pub each : (j : ℕ) → j < k → cond (mandatory policy 0 m k j) 1 0 ≡ slice_index marks j

-- What tick n of the run without done reports answers.
abbrev pub answer : TaskSet → Meaning → (n : ℕ) → Answer
answer set policy n = tick (system set policy) n (trace (system set policy) silent n)

-- A plan, and its work.
pub record PlanOf (set : TaskSet) (works : List ℕ) : Type 0 where
  pub bounded : Bounded set
  pub whole : length works ≡ count set
  pub each : (i : ℕ) → i < count set → W set i ≡ slice_index works i

pub record Accepted (set : TaskSet) (policy : Meaning) (works : List ℕ) (H : ℕ) (ticks : List (Option ℕ)) : Type 0 where
  pub plan : PlanOf set works
  pub cycle : CycleOf set policy H
  pub short : H ≤ 1048576
  pub fits : Fits set policy
  pub whole : length ticks ≡ H
  pub each : (n : ℕ) → who (system set policy) silent n ≡ slice_index_or ticks (n % H) None

pub record RefusedWith (set : TaskSet) (policy : Meaning) (works : List ℕ) (s e work : ℕ) : Type 0 where
  pub plan : PlanOf set works
  pub short : (H : ℕ) → CycleOf set policy H → H ≤ 1048576
  pub span : RefusedSpan set policy s e
  pub carried : work_of_span set policy s e ≡ work

-- Tick n, on the run without done reports, is that row.
pub record Stepped (set : TaskSet) (policy : Meaning) (H n : ℕ) (step : Step) : Type 0 where
  pub position : n % H ≡ step.position
  pub releases : (i : ℕ) → i < count set → cond (released set policy i n) 1 0 ≡ slice_index step.releases i
  pub served : (answer set policy n).served ≡ step.served
  pub used_up : (answer set policy n).finished ≡ step.used_up
  pub w : (i : ℕ) → i < count set → (answer set policy n).left.w i ≡ slice_index step.w i
  pub d : (i : ℕ) → i < count set → (answer set policy n).left.d i ≡ slice_index step.d i
  pub next : move_on H step.position ≡ step.next

abbrev pub Holds : Meeting → Type 0
Holds (row policy m k marks) = MarkedAs policy m k marks
Holds (accepted set policy works H ticks) = Accepted set policy works H ticks
Holds (overloaded set policy works s e work) = RefusedWith set policy works s e work
Holds (stepped set policy H steps) = (length steps ≡ H) × ((n : ℕ) → n < H → Stepped set policy H n (slice_index_or steps n blank))

-- Two tasks of which one job in two is mandatory.
abbrev pub halves : TaskSet
halves = plain (high 4 4 2 1 2 ∷ high 4 4 3 1 2 ∷ [])

abbrev pub first_plan : TaskSet
first_plan = plain (high 3 2 1 1 1 ∷ high 6 6 3 1 1 ∷ [])

abbrev pub first_steps : List Step
first_steps =
    record { position = 0; releases = 1 ∷ 1 ∷ []; served = A; used_up = true; w = 0 ∷ 3 ∷ []; d = 0 ∷ 5 ∷ []; next = 1 }
    ∷ record { position = 1; releases = 0 ∷ 0 ∷ []; served = B; used_up = false; w = 0 ∷ 2 ∷ []; d = 0 ∷ 4 ∷ []; next = 2 }
    ∷ record { position = 2; releases = 0 ∷ 0 ∷ []; served = B; used_up = false; w = 0 ∷ 1 ∷ []; d = 0 ∷ 3 ∷ []; next = 3 }
    ∷ record { position = 3; releases = 1 ∷ 0 ∷ []; served = A; used_up = true; w = 0 ∷ 1 ∷ []; d = 0 ∷ 2 ∷ []; next = 4 }
    ∷ record { position = 4; releases = 0 ∷ 0 ∷ []; served = B; used_up = true; w = 0 ∷ 0 ∷ []; d = 0 ∷ 0 ∷ []; next = 5 }
    ∷ record { position = 5; releases = 0 ∷ 0 ∷ []; served = idle; used_up = false; w = 0 ∷ 0 ∷ []; d = 0 ∷ 0 ∷ []; next = 0 }
    ∷ []

abbrev pub meetings : List Meeting
meetings =
    row even 3 7 (1 ∷ 0 ∷ 1 ∷ 0 ∷ 1 ∷ 0 ∷ 0 ∷ [])
    ∷ row even 2 3 (1 ∷ 1 ∷ 0 ∷ [])
    ∷ row red 3 7 (1 ∷ 1 ∷ 1 ∷ 0 ∷ 0 ∷ 0 ∷ 0 ∷ [])
    ∷ row (shifted (3 ∷ [])) 3 7 (0 ∷ 1 ∷ 0 ∷ 0 ∷ 1 ∷ 0 ∷ 1 ∷ [])
    ∷ accepted (plain []) even [] 1 (idle ∷ [])
    ∷ accepted first_plan even (1 ∷ 3 ∷ []) 6 (A ∷ B ∷ B ∷ A ∷ B ∷ idle ∷ [])
    ∷ accepted (plain (high 2 2 1 1 1 ∷ high 4 4 2 1 1 ∷ [])) even (1 ∷ 2 ∷ []) 4 (A ∷ B ∷ A ∷ B ∷ [])
    ∷ overloaded (plain (high 2 2 1 1 1 ∷ high 4 4 3 1 1 ∷ [])) even (1 ∷ 3 ∷ []) 0 4 5
    ∷ overloaded halves even (2 ∷ 3 ∷ []) 0 4 5
    ∷ accepted halves (shifted (0 ∷ 1 ∷ [])) (2 ∷ 3 ∷ []) 8 (A ∷ A ∷ idle ∷ idle ∷ B ∷ B ∷ B ∷ idle ∷ [])
    ∷ overloaded halves (shifted (1 ∷ 1 ∷ [])) (2 ∷ 3 ∷ []) 4 8 5
    ∷ accepted (geared 3 2 (low 5 5 3 1 1 ∷ [])) even (5 ∷ []) 5 (A ∷ A ∷ A ∷ A ∷ A ∷ [])
    ∷ overloaded (geared 3 2 (low 5 4 3 1 1 ∷ [])) even (5 ∷ []) 0 4 5
    ∷ stepped first_plan even 6 first_steps
    ∷ []

abbrev pub WorkedMeetingsHold : Type 0
WorkedMeetingsHold = AllByRecursion Holds meetings
