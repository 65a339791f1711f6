-- The tasks of a plan by their numbers, as a loop over them meets them. Assumes nothing.
use Rattle.std.proofs.Common.{◌≡◌, ℕ, ◌*◌, ◌<◌, List, map, length, get_or, sym, ap, ◌∙◌}
use Rattle.std.proofs.lemmas.List.{get_or-map, length-map}
use Rattle.plan.specs.Bounded.{absent, count, task}
use Rattle.plan.specs.TaskSet.{Parameters, TaskSet, parameters}
use Rattle.plan.specs.declared.task.Task.{Task}
use Rattle.pattern.specs.Policy.{Meaning}
use Rattle.edf.specs.Admission.{repetition}

-- the task at hand is the task with its number
pub task_at : (set : TaskSet) (tasks : List Task) (i : ℕ) (d : Task) → map parameters tasks ≡ set.tasks → i < length tasks → task set i ≡ parameters (get_or tasks i d)
task_at set tasks i d shown below = ap (λ ts. get_or ts i absent) (sym shown) ∙ get_or-map parameters tasks i d absent below

-- and there are no others
pub all_listed : (set : TaskSet) (tasks : List Task) → map parameters tasks ≡ set.tasks → length tasks ≡ count set
all_listed set tasks shown = sym (length-map tasks parameters) ∙ ap length shown

-- the ticks after which the task at hand repeats
pub repetition_at : (set : TaskSet) (policy : Meaning) (tasks : List Task) (i : ℕ) (t : Task) → map parameters tasks ≡ set.tasks → i < length tasks → t ≡ get_or tasks i t →
    (r : ℕ) → r ≡ t.period * policy.length i t.m t.k → r ≡ repetition set policy i
repetition_at set policy tasks i t shown below is r e =
    e ∙ ap (λ (x : Parameters). x.period * policy.length i x.m x.k) (ap parameters is ∙ sym (task_at set tasks i t shown below))
