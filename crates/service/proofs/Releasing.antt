-- What is released by a task that a plan has, and by one that it has not.
use Rattle.std.proofs.Common.{◌≡◌, ℕ, ◌/◌, ◌%◌, ◌≤◌, false, cond, ◌&&◌, eqb, Some, None, sym, ap, ◌∙◌, arith}
use Rattle.std.proofs.lemmas.List.{get_or_past}
use Rattle.std.proofs.lemmas.Option.{slice_get_cases}
use Rattle.std.proofs.lemmas.Grind.{common_steps}
use Rattle.std.proofs.lemmas.Bool.{and_right}
use Rattle.std.proofs.lemmas.Bool.Decides.{nat_tests}
use Rattle.std.specs.List.{slice_get}
use Rattle.pattern.proofs.Policies.{none_outside}
use Rattle.pattern.specs.Policy.{Meaning, Lawful, mandatory}
use Rattle.plan.specs.Bounded.{absent, count}
use Rattle.plan.specs.TaskSet.{Parameters, TaskSet}
use Rattle.edf.specs.Plans.{D, W, released}
use Rattle.service.specs.Rows.{released_job}

module _ (tasks : TaskSet) (i : ℕ) where
  -- a plan that has no task with the number has fewer tasks
  pub task_missing : None ≡ slice_get tasks.tasks i → count tasks ≤ i
  task_missing e = grind (arith, common_steps, slice_get_cases tasks.tasks i, sym e)

  module _ (policy : Meaning) (u : ℕ) where
    -- a number past the tasks releases nothing, since m and k of an absent task are out of range
    pub released_past : Lawful policy → count tasks ≤ i → released tasks policy i u ≡ false
    released_past lawful past =
        ap (λ (t : Parameters). eqb (u % t.period) 0 && mandatory policy i t.m t.k (u / t.period)) (get_or_past tasks.tasks i absent past)
        ∙ and_right (eqb (u % 0) 0) (mandatory policy i 0 0 (u / 0)) (none_outside policy lawful i 0 0 (u / 0) (grind (arith, nat_tests)))

    -- and then there is no job
    pub no_job : released tasks policy i u ≡ false → None ≡ released_job tasks policy i u
    no_job f = sym (ap (λ b. cond b (Some (record { work = W tasks i; ticks = D tasks i })) None) f)
