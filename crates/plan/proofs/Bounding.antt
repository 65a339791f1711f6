-- Every row of a plan keeps the bounds of its type, so the plan's task set does. Assumes nothing.
use Rattle.std.proofs.Common.{ℕ, zero, suc, ◌<◌, List, [], ◌∷◌, map, length, get_or, take, not-suc-le-zero, arith, length-take}
use Rattle.std.proofs.lemmas.List.{length-map}
use Rattle.plan.specs.Bounded.{PlanIsBounded, absent}
use Rattle.plan.specs.Bounds.{Timed, Constrained}
use Rattle.plan.specs.TaskSet.{parameters}
use Rattle.plan.specs.declared.task.Task.{Task}

-- a row of a plan keeps the bounds of a task
rows_keep : (rows : List Task) (n i : ℕ) → i < length (map parameters (take n rows)) →
    let t = get_or (map parameters (take n rows)) i absent in
    Timed t.period t.deadline t.work × Constrained t.m t.k
rows_keep [] zero i h = absurd (not-suc-le-zero h)
rows_keep [] (suc n) i h = absurd (not-suc-le-zero h)
rows_keep (t ∷ rows) zero i h = absurd (not-suc-le-zero h)
rows_keep (t ∷ rows) (suc n) zero h = (t.timed, t.constrained)
rows_keep (t ∷ rows) (suc n) (suc i) h = rows_keep rows n i (omega arith)

pub plan_is_bounded : PlanIsBounded
plan_is_bounded plan = record {
  few = simp (length-map, length-take) (omega (arith, plan.few));
  timed = λ i h. (rows_keep plan.rows plan.count i h).0;
  constrained = λ i h. (rows_keep plan.rows plan.count i h).1;
  geared = plan.ratio.geared;
}
