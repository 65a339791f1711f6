-- The releases of a plan are those of its marked jobs, so the jobs may be counted tick by tick.
use Rattle.std.proofs.Common.{◌≡◌, ℕ, ◌+◌, ◌-◌, ◌*◌, ◌/◌, ◌%◌, ◌<◌, ◌≤◌, Bool, true, false, cond, ◌&&◌, eqb, leb, sym, ap, ◌∙◌, ap₂, ⊎_elim, mul-le-mul_right, lt_of_mul-lt-mul_right, mul-le-mul_left, div-add-mod', arith}
use mathlib.Core.Path.{fun_ext}
use native.Mathlib.Nat.{mul-mod_left, mul-div_left}
use Rattle.std.proofs.lemmas.Nat.{mul-le, le-div}
use Rattle.std.proofs.lemmas.Bool.Decides.{nat_tests}
use Rattle.std.proofs.lemmas.Bool.{cases_lt, eqb-true, and_parts, ne_eqb, cond-true}
use Rattle.plan.specs.Rounding.{ceil}
use Rattle.plan.specs.TaskSet.{TaskSet, paced}
use Rattle.plan.specs.declared.task.Speed.{Speed}
use Rattle.plan.specs.declared.task.Speed.TheVariants.{High, Low}
use Rattle.pattern.specs.Sum.{Sum}
use Rattle.pattern.specs.Policy.{Meaning, in_range, mandatory}
use Rattle.pattern.proofs.Policies.{enough_anywhere}
use Rattle.pattern.specs.Ranges.{in_range_from}
use Rattle.edf.specs.System.{work_due, service, span_work}
use Rattle.plan.specs.Bounded.{Bounded, count, task}
use Rattle.edf.specs.Plans.{T, D, W, marked, released, system, PlanWorkInRange, PlanIsSound}
use Rattle.edf.specs.Admission.{falls_within, work_of_span, PlanWorkByJobs, PlanOverworked, PlanServesByJobs}
use Rattle.pattern.specs.Sums.{sum_same}
use Rattle.edf.proofs.Sums.{sum_none, sum_term, sum_some, sum_from, sum_swaps, sum_multiples}

pub plan_work_in_range : PlanWorkInRange
plan_work_in_range set bounded i here =
    let (some, short, fast, long) = bounded.timed i here in
    let (one, least, most) = bounded.geared in
    paced_range (task set i).speed (task set i).work set.p set.q some (omega arith) one least most
  where
    paced_range : (speed : Speed) (c p q : ℕ) → 1 ≤ c → c ≤ 65535 → 1 ≤ q → q ≤ p → p ≤ 16 →
        let w = paced speed c (ceil (c * p) q) in
        (1 ≤ w) × (w ≤ 1048560)
    paced_range High c p q some few one least most = (some, omega arith)
    paced_range Low c p q some few one least most =
        let product = mul-le c p 65535 16 few most in
        let enough : 1 * q ≤ c * p = mul-le 1 q c p some least in
        let whole : 1 ≤ c * p / q = le-div 1 (c * p) q one enough in
        let shrinks : c * p / q * 1 ≤ c * p / q * q = mul-le (c * p / q) 1 (c * p / q) q (omega arith) one in
        (omega arith, omega (arith, div-add-mod' (c * p) q))

module _ (set : TaskSet) (policy : Meaning) (bounded : Bounded set) (i : ℕ) (here : i < count set) where
  pub room : (0 < D set i) × (D set i ≤ T set i)
  room = omega (arith, bounded.timed i here)

  pub constraint_in_range : in_range i (task set i).m (task set i).k ≡ true
  constraint_in_range =
      let (some, within, most) = bounded.constrained i here in
      in_range_from i (task set i).m (task set i).k (omega (arith, bounded.few)) some within most

  -- job j is not released before tick j
  no_earlier : (j : ℕ) → j ≤ j * T set i
  no_earlier j = omega (arith, mul-le-mul_left {m = 1} {n = T set i} j (omega (arith, room)))

  -- job j is released at j × T
  pub release_of_job : (j : ℕ) → released set policy i (j * T set i) ≡ marked set policy i j
  release_of_job j =
      ap₂ (λ r q. eqb r 0 && marked set policy i q) (mul-mod_left j (T set i)) (mul-div_left j {n = T set i} (omega (arith, room)))

  -- and what is released at tick u is job u / T
  pub job_of_release : (u : ℕ) → released set policy i u ≡ true → (u / T set i * T set i ≡ u) × (marked set policy i (u / T set i) ≡ true)
  job_of_release u r =
      let parts = and_parts (eqb (u % T set i) 0) (marked set policy i (u / T set i)) r in
      (omega (arith, eqb-true (u % T set i) 0 parts.0, div-add-mod' u (T set i)), parts.1)

  releases_apart : (u v : ℕ) → u < v → released set policy i u ≡ true → released set policy i v ≡ true → u + D set i ≤ v
  releases_apart u v less first second =
      let a = (job_of_release u first).0 in
      let b = (job_of_release v second).0 in
      let next : u / T set i + 1 ≤ v / T set i = omega (arith, lt_of_mul-lt-mul_right (T set i) {m = u / T set i} {n = v / T set i} (omega arith)) in
      omega (arith, mul-le-mul_right (T set i) next, room)

  -- the work of the task's jobs in a span, by jobs and by ticks
  module _ (s e : ℕ) where
    -- what is released at tick u, from s on
    abbrev since : ℕ → ℕ
    since u = cond (leb s u) (work_due (system set policy) e u i) 0

    since_none : (u : ℕ) → e ≤ u → since u ≡ 0
    since_none u far = beyond (leb s u) (released set policy i u) room.0
      where
        beyond : (a r : Bool) → 0 < D set i → cond a (cond (r && leb (u + D set i) e) (W set i) 0) 0 ≡ 0
        beyond a r some = grind (arith, nat_tests)

    since_multiples : (u : ℕ) → (u % T set i ≡ 0 → ⊥) → since u ≡ 0
    since_multiples u other =
        unreleased (leb s u) (eqb (u % T set i) 0) (marked set policy i (u / T set i)) (leb (u + D set i) e) (ne_eqb (u % T set i) 0 other)
      where
        unreleased : (a b m c : Bool) → b ≡ false → cond a (cond (b && m && c) (W set i) 0) 0 ≡ 0
        unreleased a b m c f = grind (arith, nat_tests)

    by_ticks : Sum (e - s) (λ k. work_due (system set policy) e (s + k) i) ≡ Sum e since
    by_ticks =
        ⊎_elim
        (λ empty. let l : e - s ≡ 0 = omega arith in
        omega (
          arith,
          ap (λ l. Sum l (λ k. work_due (system set policy) e (s + k) i)) l,
          sum_none e since (λ u h. before u (work_due (system set policy) e u i) (omega arith)),
        ))
        (λ proper. omega (
          arith,
          sum_from s e since proper,
          sum_none s since (λ u h. before u (work_due (system set policy) e u i) h),
          sum_same (e - s) (λ k. work_due (system set policy) e (s + k) i) (λ k. since (s + k)) (λ k h. after k (work_due (system set policy) e (s + k) i)),
        ))
        (cases_lt e s)
      where
        before : (u w : ℕ) → u < s → cond (leb s u) w 0 ≡ 0
        before u w h = grind (arith, nat_tests)

        after : (k w : ℕ) → w ≡ cond (leb s (s + k)) w 0
        after k w = grind (arith, nat_tests)

    by_jobs : Sum e since ≡ Sum e (λ j. cond (falls_within set policy s e i j) (W set i) 0)
    by_jobs =
        omega (
          arith,
          sum_from e (e * T set i) since (no_earlier e),
          sum_none (e * T set i - e) (λ k. since (e + k)) (λ k h. since_none (e + k) (omega arith)),
          sum_multiples (T set i) e since (omega (arith, room)) since_multiples,
          sum_same e (λ j. since (j * T set i)) (λ j. cond (falls_within set policy s e i j) (W set i) 0)
              (λ j h. regrouped (released set policy i (j * T set i)) (marked set policy i j) (leb s (j * T set i)) (leb (j * T set i + D set i) e) (release_of_job j)),
        )
      where
        regrouped : (r m a c : Bool) → r ≡ m → cond a (cond (r && c) (W set i) 0) 0 ≡ cond (m && a && c) (W set i) 0
        regrouped r m a c same = grind (arith, nat_tests)

  none_later : (s e j : ℕ) → e ≤ j → falls_within set policy s e i j ≡ false
  none_later s e j far = past (marked set policy i j) (leb s (j * T set i)) (j * T set i) (no_earlier j) room.0
    where
      past : (m a : Bool) (u : ℕ) → j ≤ u → 0 < D set i → (m && a && leb (u + D set i) e) ≡ false
      past m a u h some = grind (arith, nat_tests)

-- some job of a task is marked, and alone overloads its own span if its work is more than its deadline
pub plan_overworked : PlanOverworked
plan_overworked set policy bounded lawful i here over =
    let m = (task set i).m in
    let k = (task set i).k in
    let enough = enough_anywhere policy lawful i m k 0 (constraint_in_range set policy bounded i here) in
    let (x, _, some) = sum_some k (λ x. cond (mandatory policy i m k (0 + x)) 1 0) (omega (arith, bounded.constrained i here)) in
    let j = 0 + x in
    let s = j * T set i in
    let e = s + D set i in
    let least = room set policy bounded i here in
    let term : ℕ → ℕ = λ j. cond (falls_within set policy s e i j) (W set i) 0 in
    let counted : W set i ≡ term j = sym (cond-true (falls_within set policy s e i j) (W set i) 0 (within (marked set policy i j) s some)) in (
      s,
      e,
      record {
        proper = omega (arith, least);
        excess = omega (
          arith,
          counted,
          sum_term e term j (omega (arith, least, no_earlier set policy bounded i here j)),
          sum_term (count set) (λ i. Sum e (λ j. cond (falls_within set policy s e i j) (W set i) 0)) i here,
        );
      },
    )
  where
    within : (b : Bool) (s : ℕ) → 0 < cond b 1 0 → (b && leb s s && leb (s + D set i) (s + D set i)) ≡ true
    within b s some = grind (arith, nat_tests)

pub plan_is_sound : PlanIsSound
plan_is_sound set policy bounded = record {
  positive = λ i here. (room set policy bounded i here).0;
  apart = λ i u v here. releases_apart set policy bounded i here u v;
}

pub work_by_ticks : (set : TaskSet) (policy : Meaning) → Bounded set → (s e : ℕ) → work_of_span set policy s e ≡ span_work (system set policy) s e
work_by_ticks set policy bounded s e =
    sum_same (count set) (λ i. Sum e (λ j. cond (falls_within set policy s e i j) (W set i) 0)) (λ i. Sum (e - s) (λ k. work_due (system set policy) e (s + k) i))
    (λ i here. sym (by_ticks set policy bounded i here s e ∙ by_jobs set policy bounded i here s e))
    ∙ sum_swaps (count set) (e - s) (λ i k. work_due (system set policy) e (s + k) i)

-- the two works as functions
pub works_agree : (set : TaskSet) (policy : Meaning) → Bounded set → span_work (system set policy) ≡ work_of_span set policy
works_agree set policy bounded = fun_ext (λ s. fun_ext (λ e. sym (work_by_ticks set policy bounded s e)))

pub plan_work_by_jobs : PlanWorkByJobs
plan_work_by_jobs = record { same = work_by_ticks; all = λ set policy bounded s e i j here. none_later set policy bounded i here s e j }

pub plan_serves_by_jobs : PlanServesByJobs
plan_serves_by_jobs set policy bounded t = (
  λ serves i u here r.
      let job = job_of_release set policy bounded i here u r in
      omega (arith, serves i (u / T set i) here job.1, ap (λ v. service t i v (D set i)) job.0),
  λ serves i j here m. serves i (j * T set i) here (release_of_job set policy bounded i here j ∙ m),
)
