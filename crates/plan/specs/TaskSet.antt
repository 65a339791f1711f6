-- A plan as a task set: what its rows say, in plain numbers, and what follows from them for one job.
-- Assumes nothing.
use Rattle.std.specs.Prelude.{◌≡◌, ℕ, ◌*◌, List, [], map, take}
use Rattle.plan.specs.Rounding.{ceil}
use Rattle.plan.specs.declared.plan.Plan.{Plan}
use Rattle.plan.specs.declared.task.Speed.{Speed}
use Rattle.plan.specs.declared.task.Speed.TheVariants.{High, Low}
use Rattle.plan.specs.declared.task.Task.{Task}

-- the parameters of a task: period T, deadline D and work C in ticks, the constraint m of k, and the speed
pub record Parameters : Type 0 where
  pub period : ℕ
  pub deadline : ℕ
  pub work : ℕ
  pub m : ℕ
  pub k : ℕ
  pub speed : Speed

-- the tasks of a plan in the order of their numbers, and the ratio p/q: a job takes p/q times as long at low speed
pub record TaskSet : Type 0 where
  pub tasks : List Parameters
  pub p : ℕ
  pub q : ℕ

abbrev pub parameters : Task → Parameters
parameters t = record {
  period = t.period;
  deadline = t.deadline;
  work = t.work;
  m = t.m;
  k = t.k;
  speed = t.speed;
}

abbrev pub task_set : Plan → TaskSet
task_set plan = record {
  tasks = map parameters (take plan.count plan.rows);
  p = plan.ratio.p;
  q = plan.ratio.q;
}

-- a new plan: no tasks, and both speeds the same
abbrev pub empty : TaskSet
empty = record { tasks = []; p = 1; q = 1 }

abbrev pub paced : Speed → ℕ → ℕ → ℕ
paced High fast slow = fast
paced Low fast slow = slow

-- the work W of one job in ticks: C at high speed, C × p / q rounded up at low speed
abbrev pub job_work : (p q : ℕ) → Parameters → ℕ
job_work p q t = paced t.speed t.work (ceil (t.work * p) q)

-- what two plans must share to be the same: the parameters without the speed
pub record Timing : Type 0 where
  pub period : ℕ
  pub deadline : ℕ
  pub work : ℕ
  pub m : ℕ
  pub k : ℕ

abbrev pub timing : Parameters → Timing
timing t = record { period = t.period; deadline = t.deadline; work = t.work; m = t.m; k = t.k }

-- the timing of these numbers
abbrev pub timed : ℕ × ℕ × ℕ × ℕ × ℕ → Timing
timed (period, deadline, work, m, k) = record { period = period; deadline = deadline; work = work; m = m; k = k }

-- equally many tasks, and the same T, D, C, m and k task by task
abbrev pub Same : TaskSet → TaskSet → Type 0
Same a b = map timing a.tasks ≡ map timing b.tasks
