-- The cycle of the first tasks of a plan: it goes on task by task, and above the limit it decides.
use Rattle.std.proofs.Common.{◌≡◌, ℕ, ◌+◌, ◌<◌, ◌≤◌, Bool, true, false, cond, ltb, Some, None, sym, refl, ap, ap₂, ◌∙◌, add-one, arith}
use Rattle.std.proofs.lemmas.Bool.{lt-ltb, le-ltb, ltb-true, ltb-false, cond-true, cond-false}
use Rattle.plan.proofs.Bounding.{plan_is_bounded}
use Rattle.plan.specs.Bounded.{count}
use Rattle.plan.specs.TaskSet.{TaskSet, task_set}
use Rattle.plan.specs.declared.plan.Plan.{Plan}
use Rattle.pattern.specs.Policy.{Meaning, Lawful}
use Rattle.edf.specs.Admission.{repetition, cycle_of}
use Rattle.edf.specs.Cycle.{Cycle, cycle, lcm}
use Rattle.edf.proofs.Multiples.{cycle_found}
use Rattle.edf.proofs.Sizes.{plan_sizes}
use Rattle.edf.proofs.Verdicts.{plan_cycle_found}

-- the cycle of no tasks is 1
pub cycle_begins : (f : ℕ → ℕ) → cycle 0 f ≡ 1
unfolding cycle
cycle_begins f = refl

-- and one task more makes it the least common multiple with that task's repetition
pub cycle_goes_on : (n : ℕ) (f : ℕ → ℕ) → cycle (n + 1) f ≡ lcm (cycle n f) (f n)
unfolding cycle
cycle_goes_on n f = ap (λ k. cycle k f) (add-one n)

module _ (plan : Plan) {policy : Meaning} (lawful : Lawful policy) where
  abbrev set : TaskSet
  set = task_set plan

  -- the first n tasks have the cycle that is computed
  cycle_so_far : (n : ℕ) → n ≤ count set → Cycle n (repetition set policy) (cycle n (repetition set policy))
  cycle_so_far n few =
      (cycle_found.only n (repetition set policy) (λ i h. (plan_sizes.repeats set policy (plan_is_bounded plan) lawful i (omega arith)).0)
      (cycle n (repetition set policy))).1 refl

  -- which is positive
  pub cycle_positive : (n : ℕ) → n ≤ count set → 0 < cycle n (repetition set policy)
  cycle_positive n few = (cycle_so_far n few).positive

  -- a cycle so far above the limit decides
  pub above_decides : (n : ℕ) → n ≤ count set → 1048576 < cycle n (repetition set policy) →
      None ≡ cond (ltb 1048576 (cycle_of set policy)) None (Some (cycle_of set policy))
  above_decides n few above =
      let H = cycle_of set policy in
      let over = plan_cycle_found.decides set policy n (cycle n (repetition set policy)) H few (cycle_so_far n few) (cycle_so_far (count set) (omega arith)) above in
      sym (cond-true (ltb 1048576 H) None (Some H) (lt-ltb 1048576 H over))

  -- one task more: its common multiple with the cycle so far decides, or is the cycle that goes on
  module _ (n a b : ℕ) (here : n < count set) (so_far : a ≡ cycle n (repetition set policy)) (repeats : b ≡ repetition set policy n) where
    next : lcm a b ≡ cycle (n + 1) (repetition set policy)
    next = ap₂ lcm so_far repeats ∙ sym (cycle_goes_on n (repetition set policy))

    pub none_above : None ≡ cond (ltb 1048576 (lcm a b)) None (Some (lcm a b)) → None ≡ cond (ltb 1048576 (cycle_of set policy)) None (Some (cycle_of set policy))
    none_above = at (ltb 1048576 (lcm a b)) refl
      where
        at : (above : Bool) → ltb 1048576 (lcm a b) ≡ above → None ≡ cond above None (Some (lcm a b)) → None ≡ cond (ltb 1048576 (cycle_of set policy)) None (Some (cycle_of set policy))
        at true t e = above_decides (n + 1) (omega arith) (omega (arith, ltb-true 1048576 (lcm a b) t, next))
        at false f e = cc

    pub cycle_more : (h : ℕ) → Some h ≡ cond (ltb 1048576 (lcm a b)) None (Some (lcm a b)) → (h ≡ cycle (n + 1) (repetition set policy)) × (h ≤ 1048576)
    cycle_more h = at (ltb 1048576 (lcm a b)) refl
      where
        at : (above : Bool) → ltb 1048576 (lcm a b) ≡ above → Some h ≡ cond above None (Some (lcm a b)) → (h ≡ cycle (n + 1) (repetition set policy)) × (h ≤ 1048576)
        at true t e = cc
        at false f e = let same : h ≡ lcm a b = cc in (same ∙ next, omega (arith, ltb-false 1048576 (lcm a b) f))

  -- after the last task it is the cycle of the plan
  pub whole_cycle : (n h : ℕ) → n ≡ count set → h ≡ cycle n (repetition set policy) → h ≤ 1048576 →
      Some h ≡ cond (ltb 1048576 (cycle_of set policy)) None (Some (cycle_of set policy))
  whole_cycle n h all is short =
      let same : h ≡ cycle_of set policy = is ∙ ap (λ k. cycle k (repetition set policy)) all in
      ap Some same ∙ sym (cond-false (ltb 1048576 (cycle_of set policy)) None (Some (cycle_of set policy)) (le-ltb 1048576 (cycle_of set policy) (omega arith)))
