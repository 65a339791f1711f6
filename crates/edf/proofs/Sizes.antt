-- How much work a span can have whose end no overloaded span precedes.
use Rattle.std.proofs.Common.{◌≡◌, ℕ, zero, suc, ◌+◌, ◌-◌, ◌<◌, ◌≤◌, Bool, cond, ◌&&◌, eqb, leb, refl, ap, subst, ⊎_elim, mul-pos, arith}
use Rattle.std.proofs.lemmas.Nat.{mul-le}
use Rattle.std.proofs.lemmas.Bool.Decides.{nat_tests}
use Rattle.std.proofs.lemmas.Bool.{cases_lt}
use Rattle.plan.specs.TaskSet.{TaskSet}
use Rattle.pattern.specs.Sum.{Sum}
use Rattle.pattern.specs.Policy.{Meaning}
use Rattle.edf.specs.System.{System, Sound, Exceeds, Overloaded, work_due, due, span_work}
use Rattle.plan.specs.Bounded.{Bounded, count, task}
use Rattle.edf.specs.Plans.{T, L, W, system}
use Rattle.edf.specs.Admission.{work_of_span, OverloadedSpan, PlanSizes}
use Rattle.edf.proofs.Sums.{sum_le, sum_none, sum_plus, sum_swaps, sum_at_most}
use Rattle.edf.proofs.Releases.{plan_is_sound, plan_work_in_range, works_agree}
use Rattle.edf.proofs.Verdicts.{plan_cycle_run_decides}

module _ (S : System) (sound : Sound S) (s e : ℕ) (before : s ≤ e) where
  -- the work of a job of task i whose deadline is at e + 1
  abbrev just_due : ℕ → ℕ → ℕ
  just_due k i = cond (eqb (s + k + S.deadline i) (suc e)) (S.work i) 0

  -- there is one at most
  one_just_due : (i l : ℕ) → Sum l (λ k. just_due k i) ≤ S.work i
  one_just_due i l = (counted l).0
    where
      counted : (l : ℕ) → (Sum l (λ k. just_due k i) ≤ S.work i) × (s + l + S.deadline i ≤ suc e → Sum l (λ k. just_due k i) ≡ 0)
      counted zero = (omega arith, λ _. refl)
      counted (suc l) = let r = counted l in (grind (arith, nat_tests), grind (arith, nat_tests))

  due_by_one_more : (k : ℕ) → due S (suc e) (s + k) ≤ due S e (s + k) + Sum S.count (just_due k)
  due_by_one_more k =
      omega (
        arith,
        sum_plus S.count (work_due S e (s + k)) (just_due k),
        sum_le S.count (work_due S (suc e) (s + k)) (λ i. work_due S e (s + k) i + just_due k i) (λ i h. later (S.releases i (s + k)) (S.work i) (S.deadline i)),
      )
    where
      later : (r : Bool) (w d : ℕ) → cond (r && leb (s + k + d) (suc e)) w 0 ≤ cond (r && leb (s + k + d) e) w 0 + cond (eqb (s + k + d) (suc e)) w 0
      later r w d = grind (arith, nat_tests)

  -- nothing that is released at e is due by e
  none_at_end : due S e (s + (e - s)) ≡ 0
  none_at_end = sum_none S.count (work_due S e (s + (e - s))) (λ i h. at_end (S.releases i (s + (e - s))) (S.work i) (S.deadline i) (sound.positive i h))
    where
      at_end : (r : Bool) (w d : ℕ) → 0 < d → cond (r && leb (s + (e - s) + d) e) w 0 ≡ 0
      at_end r w d some = grind (arith, nat_tests)

  span_by_one_more : span_work S s (suc e) ≤ span_work S s e + Sum S.count S.work
  span_by_one_more =
      let l : suc e - s ≡ suc (e - s) = omega arith in
      let n = suc (e - s) in
      omega (
        arith,
        ap (λ x. Sum x (λ k. due S (suc e) (s + k))) l,
        sum_le n (λ k. due S (suc e) (s + k)) (λ k. due S e (s + k) + Sum S.count (just_due k)) (λ k h. due_by_one_more k),
        sum_plus n (λ k. due S e (s + k)) (λ k. Sum S.count (just_due k)),
        none_at_end,
        sum_swaps n S.count just_due,
        sum_le S.count (λ i. Sum n (λ k. just_due k i)) S.work (λ i h. one_just_due i n),
      )

no_ticks : (S : System) (s e : ℕ) → e ≤ s → span_work S s e ≡ 0
no_ticks S s e h = let none : e - s ≡ 0 = omega arith in ap (λ l. Sum l (λ k. due S e (s + k))) none

to_first_end : (S : System) → Sound S → (s e : ℕ) → s ≤ e → ((s' e' : ℕ) → e' < e → Overloaded S s' e' → ⊥) → span_work S s e ≤ e - s + Sum S.count S.work
to_first_end S sound s zero h none = omega (arith, no_ticks S s zero (omega arith))
to_first_end S sound s (suc e) h none =
    ⊎_elim
    (λ proper. ⊎_elim
    (λ over. absurd (none s e (omega arith) (record { proper = proper; excess = over })))
    (λ fits. omega (arith, span_by_one_more S sound s e (omega arith)))
    (cases_lt (e - s) (span_work S s e)))
    (λ short. ⊎_elim
    (λ one. omega (arith, span_by_one_more S sound s e (omega arith), no_ticks S s e short))
    (λ empty. omega (arith, no_ticks S s (suc e) empty))
    (cases_lt s (suc e)))
    (cases_lt s e)

pub plan_sizes : PlanSizes
plan_sizes = record {
  repeats = λ set policy bounded lawful i here.
      let long = bounded.timed i here in
      let m = (task set i).m in
      let k = (task set i).k in (
        mul-pos (omega (arith, long)) (lawful.some i m k),
        mul-le (T set i) (L set policy i) 65535 64 (omega (arith, long)) (lawful.short i m k),
      );
  to_first_end = by_jobs;
  of_one_job_each = together;
  refused_work = λ set policy H bounded c short s e r.
      let inside = (plan_cycle_run_decides.first set policy H bounded c s e r).0 in (
        inside,
        omega (
          arith,
          by_jobs set policy bounded s e (omega (arith, r.overloaded.proper)) (λ s' e' less over. omega (arith, r.first_end s' e' over)),
          together set bounded,
        ),
      );
}
  where
    by_jobs : (set : TaskSet) (policy : Meaning) → Bounded set → (s e : ℕ) → s ≤ e →
        ((s' e' : ℕ) → e' < e → OverloadedSpan set policy s' e' → ⊥) → work_of_span set policy s e ≤ e - s + Sum (count set) (W set)
    by_jobs set policy bounded s e h =
        subst (λ w. ((s' e' : ℕ) → e' < e → Exceeds w s' e' → ⊥) → w s e ≤ e - s + Sum (count set) (W set)) (works_agree set policy bounded)
        (to_first_end (system set policy) (plan_is_sound set policy bounded) s e h)

    together : (set : TaskSet) → Bounded set → Sum (count set) (W set) ≤ 31456800
    together set bounded =
        omega (
          arith,
          sum_at_most (count set) (W set) 1048560 (λ i here. (plan_work_in_range set bounded i here).1),
          mul-le (count set) 1048560 30 1048560 bounded.few (omega arith),
        )
