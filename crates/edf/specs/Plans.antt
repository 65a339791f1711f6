-- A plan under a pattern policy: its tasks by number, their jobs, and the plan as tasks that release jobs.
-- Assumes nothing.
use Rattle.std.specs.Prelude.{ℕ, ◌+◌, ◌*◌, ◌/◌, ◌%◌, ◌<◌, ◌≤◌, Bool, ◌&&◌, ◌==◌}
use Rattle.plan.specs.Bounded.{Bounded, count, task}
use Rattle.plan.specs.TaskSet.{TaskSet, job_work}
use Rattle.pattern.specs.Policy.{Meaning, mandatory}
use Rattle.edf.specs.System.{System, Sound}

module _ (set : TaskSet) where
  -- Period and deadline of task i, and the work of a job of it, in ticks.
  abbrev pub T : (i : ℕ) → ℕ
  T i = (task set i).period

  abbrev pub D : (i : ℕ) → ℕ
  D i = (task set i).deadline

  abbrev pub W : (i : ℕ) → ℕ
  W i = job_work set.p set.q (task set i)

  -- Job j of task i is released at tick j × T, and its deadline is j × T + D.
  abbrev pub job_release : (i j : ℕ) → ℕ
  job_release i j = j * T i

  abbrev pub job_deadline : (i j : ℕ) → ℕ
  job_deadline i j = job_release i j + D i

module _ (set : TaskSet) (policy : Meaning) where
  -- The policy's length for task i, after which its marks repeat.
  abbrev pub L : (i : ℕ) → ℕ
  L i = policy.length i (task set i).m (task set i).k

  -- Job j of task i is mandatory.
  abbrev pub marked : (i j : ℕ) → Bool
  marked i j = mandatory policy i (task set i).m (task set i).k j

  -- Task i releases a mandatory job at tick u: T divides u, and job u / T is marked.
  abbrev pub released : (i u : ℕ) → Bool
  released i u = (u % T set i) == 0 && marked i (u / T set i)

  abbrev pub system : System
  system = record { count = count set; deadline = D set; work = W set; releases = released }

-- The work of a job is 1 to 1,048,560 ticks.
abbrev pub PlanWorkInRange : Type 0
PlanWorkInRange = (set : TaskSet) → Bounded set → (i : ℕ) → i < count set → (1 ≤ W set i) × (W set i ≤ 1048560)

-- A job has at least one tick, and its deadline is not after the release of the next one of its task.
abbrev pub PlanIsSound : Type 0
PlanIsSound = (set : TaskSet) (policy : Meaning) → Bounded set → Sound (system set policy)
