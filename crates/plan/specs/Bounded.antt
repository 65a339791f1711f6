-- The tasks of a task set by their numbers, and the bounds that the task set of every plan keeps. Assumes nothing.
use Rattle.std.specs.Prelude.{ℕ, ◌<◌, ◌≤◌, length, slice_index_or}
use Rattle.plan.specs.Bounds.{Timed, Constrained, Geared}
use Rattle.plan.specs.TaskSet.{Parameters, TaskSet, task_set}
use Rattle.plan.specs.declared.plan.Plan.{Plan}
use Rattle.plan.specs.declared.task.Speed.TheVariants.{High}

-- Stands where a list has no task; nothing is said of it.
abbrev pub absent : Parameters
absent = record { period = 0; deadline = 0; work = 0; m = 0; k = 0; speed = High }

module _ (set : TaskSet) where
  -- The tasks are 0 to count − 1.
  abbrev pub count : ℕ
  count = length set.tasks

  abbrev pub task : (i : ℕ) → Parameters
  task i = slice_index_or set.tasks i absent

  -- At most 30 tasks, each 1 ≤ C ≤ D ≤ T ≤ 65,535 and 1 ≤ m ≤ k ≤ 32, and 1 ≤ q ≤ p ≤ 16.
  pub record Bounded : Type 0 where
    pub few : count ≤ 30
    pub timed : (i : ℕ) → i < count → Timed (task i).period (task i).deadline (task i).work
    pub constrained : (i : ℕ) → i < count → Constrained (task i).m (task i).k
    pub geared : Geared set.p set.q

abbrev pub PlanIsBounded : Type 0
PlanIsBounded = (plan : Plan) → Bounded (task_set plan)
