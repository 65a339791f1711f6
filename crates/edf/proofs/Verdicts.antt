-- A plan's releases repeat by its cycle, so what holds of periodic releases holds of the plan, span by span and job by job.
use Rattle.std.proofs.Common.{◌≡◌, ℕ, suc, ◌+◌, ◌*◌, ◌/◌, ◌%◌, ◌<◌, ◌≤◌, true, cond, ◌&&◌, eqb, ◌↔◌, Some, None, sym, refl, ap, ◌∙◌, subst, ap₂, ⊎_elim, mul-le-mul_right, mod-lt, mod-eq_of_lt, mul_assoc, mul_comm, lt_of_mul-lt-mul_right, mul-pos, arith}
use native.Mathlib.Nat.{div-mul_cancel, add-mul-mod_self_right, add-mul-div_right, zero-mod, suc-mod, mod_self}
use Rattle.std.proofs.lemmas.Bool.Decides.{nat_tests}
use Rattle.std.proofs.lemmas.Bool.{cases_lt}
use Rattle.plan.specs.TaskSet.{TaskSet}
use Rattle.pattern.specs.Policy.{Meaning}
use Rattle.edf.specs.System.{Exceeds, NeverOverloaded}
use Rattle.edf.specs.Tick.{move_on}
use Rattle.edf.specs.Run.{silent, Misses}
use Rattle.edf.specs.Refusal.{FirstExcess, refused, start_below}
use Rattle.edf.specs.Cycle.{cycle}
use Rattle.plan.specs.Bounded.{Bounded, count, task}
use Rattle.edf.specs.Plans.{T, D, L, marked, released, system}
use Rattle.edf.specs.Admission.{repetition, CycleOf, Fits, PlanCycleFound, PlanIsPeriodic, PlanServesIffFits, PlanNeverLate, PlanPositionTellsReleases, PlanTickByPosition, PlanOneCycleIsEnough, PlanCycleRunDecides, PlanCycleEndsEmpty, PlanRunRepeats}
use Rattle.edf.proofs.Multiples.{cycle_found}
use Rattle.edf.proofs.Locality.{tick_reads}
use Rattle.edf.proofs.Miss.{never_late}
use Rattle.edf.proofs.Refuse.{miss_names_refused}
use Rattle.edf.proofs.Timetables.{serves_iff_never_overloaded}
use Rattle.edf.proofs.Periods.{position_tells_releases, one_cycle_is_enough, cycle_decides, cycle_run_decides}
use Rattle.edf.proofs.Repeats.{cycle_ends_empty, run_repeats}
use Rattle.edf.proofs.Releases.{room, job_of_release, plan_is_sound, works_agree, plan_serves_by_jobs}

none_is_one : (n : ℕ) (f : ℕ → ℕ) → n ≡ 0 → cycle n f ≡ 1
unfolding cycle
none_is_one n f e = ap (λ x. cycle x f) e

pub plan_cycle_found : PlanCycleFound
plan_cycle_found = record {
  only = λ set policy bounded lawful.
      cycle_found.only (count set) (repetition set policy)
      (λ i here. mul-pos (omega (arith, room set policy bounded i here)) (lawful.some i (task set i).m (task set i).k));
  none = λ set policy. none_is_one (count set) (repetition set policy);
  grows = λ set policy n g _. cycle_found.grows n (repetition set policy) g;
  decides = λ set policy n g h few. cycle_found.decides n (count set) (repetition set policy) g h 1048576 few;
}

module _ (set : TaskSet) (policy : Meaning) (H : ℕ) (bounded : Bounded set) (c : CycleOf set policy H) (i : ℕ) (here : i < count set) where
  -- the cycle holds a whole number of repetitions
  times : ℕ
  times = H / repetition set policy i

  whole : times * L set policy i * T set i ≡ H
  unfolding times
  whole =
      let e = div-mul_cancel (repetition set policy i) {m = H} (c.holds i here) in
      let m = mul_assoc times (L set policy i) (T set i) in
      let n = ap (λ x. times * x) (mul_comm (L set policy i) (T set i)) in
      m ∙ n ∙ e

  releases_repeat : (u : ℕ) → released set policy i (u + H) ≡ released set policy i u
  releases_repeat u =
      let jobs = times * L set policy i in
      ap (λ h. released set policy i (u + h)) (sym whole)
      ∙ ap₂ (λ r j. eqb r 0 && marked set policy i j) (add-mul-mod_self_right u jobs (T set i)) (add-mul-div_right u jobs {z = T set i} (omega (arith, room set policy bounded i here)))
      ∙ ap (λ j. eqb (u % T set i) 0 && policy.mark i (task set i).m (task set i).k j) (add-mul-mod_self_right (u / T set i) times (L set policy i))

  released_within : (u : ℕ) → u < H → released set policy i u ≡ true → u + D set i ≤ H
  released_within u less r =
      let jobs = times * L set policy i in
      let job = job_of_release set policy bounded i here u r in
      let next : u / T set i + 1 ≤ jobs = omega (arith, lt_of_mul-lt-mul_right (T set i) {m = u / T set i} {n = jobs} (omega (arith, whole))) in
      omega (arith, mul-le-mul_right (T set i) next, whole, room set policy bounded i here)

pub plan_is_periodic : PlanIsPeriodic
plan_is_periodic set policy H bounded c = record {
  proper = c.positive;
  repeats = λ i u here. releases_repeat set policy H bounded c i here u;
  within = λ i u here. released_within set policy H bounded c i here u;
}

pub fits_by_ticks : (set : TaskSet) (policy : Meaning) → Bounded set → Fits set policy → NeverOverloaded (system set policy)
fits_by_ticks set policy bounded fits = subst (λ w. (s e : ℕ) → Exceeds w s e → ⊥) (sym (works_agree set policy bounded)) fits

pub fits_by_jobs : (set : TaskSet) (policy : Meaning) → Bounded set → NeverOverloaded (system set policy) → Fits set policy
fits_by_jobs set policy bounded fits = subst (λ w. (s e : ℕ) → Exceeds w s e → ⊥) (works_agree set policy bounded) fits

pub plan_serves_iff_fits : PlanServesIffFits
plan_serves_iff_fits set policy bounded =
    let iff = serves_iff_never_overloaded (system set policy) (plan_is_sound set policy bounded) in (
      λ t. fits_by_jobs set policy bounded (iff.0 (t.0, (plan_serves_by_jobs set policy bounded t.0).0 t.1)),
      λ fits. let t = iff.1 (fits_by_ticks set policy bounded fits) in (t.0, (plan_serves_by_jobs set policy bounded t.0).1 t.1),
    )

pub plan_never_late : PlanNeverLate
plan_never_late set policy bounded fits = never_late (system set policy) (fits_by_ticks set policy bounded fits)

pub plan_position_tells_releases : PlanPositionTellsReleases
plan_position_tells_releases set policy H bounded c = position_tells_releases (system set policy) H (plan_is_periodic set policy H bounded c)

pub plan_tick_by_position : PlanTickByPosition
plan_tick_by_position = record {
  answers = λ set policy H bounded c n counters.
      tick_reads (system set policy) n (n % H) counters counters (λ i. plan_position_tells_releases set policy H bounded c i n) (λ i h. (refl, refl));
  starts = zero-mod;
  moves = λ H n some. suc-mod n H ∙ next (n % H) (mod-lt n some);
}
  where
    next : {H : ℕ} (r : ℕ) → r < H → suc r % H ≡ move_on H r
    next {H} r h =
        ⊎_elim
        (λ l. mod-eq_of_lt l ∙ below (omega arith))
        (λ l. let e : suc r ≡ H = omega arith in ap (λ x. x % H) e ∙ mod_self H ∙ around (omega arith))
        (cases_lt (suc r) H)
      where
        below : (r + 1 ≡ H → ⊥) → suc r ≡ cond (eqb (r + 1) H) 0 (r + 1)
        below ne = grind (arith, nat_tests)

        around : r + 1 ≡ H → 0 ≡ cond (eqb (r + 1) H) 0 (r + 1)
        around e = grind (arith, nat_tests)

pub plan_one_cycle_is_enough : PlanOneCycleIsEnough
plan_one_cycle_is_enough = record {
  within = λ set policy H bounded c.
      subst (λ w. (s e : ℕ) → Exceeds w s e → (s' : ℕ) × (e' : ℕ) × (e' ≤ H) × (e' ≤ e) × Exceeds w s' e') (works_agree set policy bounded)
      (one_cycle_is_enough (system set policy) H (plan_is_periodic set policy H bounded c));
  refuses = λ set policy H bounded c.
      subst (λ w. (s e : ℕ) → FirstExcess w s e ↔ (refused (system set policy) H ≡ Some (record { from = s; to = e }))) (works_agree set policy bounded)
      (cycle_decides.refuses (system set policy) H (plan_is_periodic set policy H bounded c));
  admits = λ set policy H bounded c.
      subst (λ w. ((s e : ℕ) → Exceeds w s e → ⊥) ↔ (refused (system set policy) H ≡ None)) (works_agree set policy bounded)
      (cycle_decides.admits (system set policy) H (plan_is_periodic set policy H bounded c));
}

pub plan_cycle_run_decides : PlanCycleRunDecides
plan_cycle_run_decides = record {
  late = λ set policy H bounded c.
      subst (λ w. ((n : ℕ) × (n ≤ H) × Misses (system set policy) silent n) ↔ ((s : ℕ) × (e : ℕ) × Exceeds w s e)) (works_agree set policy bounded)
      (cycle_run_decides.late (system set policy) H (plan_is_sound set policy bounded) (plan_is_periodic set policy H bounded c));
  first = λ set policy H bounded c.
      subst (λ w. (s e : ℕ) → FirstExcess w s e → (e ≤ H) × Misses (system set policy) silent e × ((n : ℕ) → n < e → Misses (system set policy) silent n → ⊥))
      (works_agree set policy bounded)
      (cycle_run_decides.first (system set policy) H (plan_is_sound set policy bounded) (plan_is_periodic set policy H bounded c));
  names = λ set policy bounded.
      subst
      (λ w. (e : ℕ) → Misses (system set policy) silent e → ((n : ℕ) → n < e → Misses (system set policy) silent n → ⊥) →
      (s : ℕ) × (start_below (system set policy) e e ≡ Some s) × FirstExcess w s e)
      (works_agree set policy bounded)
      (miss_names_refused (system set policy) (plan_is_sound set policy bounded));
}

pub plan_cycle_ends_empty : PlanCycleEndsEmpty
plan_cycle_ends_empty set policy H bounded c =
    cycle_ends_empty (system set policy) H (plan_is_sound set policy bounded) (plan_is_periodic set policy H bounded c)

pub plan_run_repeats : PlanRunRepeats
plan_run_repeats = record {
  counters = λ set policy H bounded c fits.
      run_repeats.counters (system set policy) H (plan_is_sound set policy bounded) (plan_is_periodic set policy H bounded c) (fits_by_ticks set policy bounded fits);
  served = λ set policy H bounded c fits.
      run_repeats.served (system set policy) H (plan_is_sound set policy bounded) (plan_is_periodic set policy H bounded c) (fits_by_ticks set policy bounded fits);
}
