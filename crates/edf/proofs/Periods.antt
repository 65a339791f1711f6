-- Where the releases repeat and no job straddles the end of a cycle, one cycle decides.
use Rattle.std.proofs.Common.{◌≡◌, ℕ, zero, suc, ◌+◌, ◌-◌, ◌<◌, ◌≤◌, Bool, true, cond, ◌&&◌, leb, ◌⊎◌, ap, ◌∙◌, inl, inr, ⊎_elim, arith}
use Rattle.std.proofs.lemmas.Bool.Decides.{nat_tests}
use Rattle.std.proofs.lemmas.Bool.{cases_lt}
use Rattle.pattern.specs.Sum.{Sum}
use Rattle.edf.specs.System.{System, Sound, Overloaded, work_due, due, span_work}
use Rattle.edf.specs.Run.{silent, Misses}
use Rattle.edf.specs.Refusal.{First}
use Rattle.edf.specs.Periodic.{Periodic, PositionTellsReleases, OneCycleIsEnough, CycleDecides, CycleRunDecides}
use Rattle.pattern.specs.Sums.{sum_same}
use Rattle.edf.proofs.Positions.{at_position}
use Rattle.edf.proofs.Spans.{upto, excess_overloads, overloaded_excess}
use Rattle.edf.proofs.Miss.{late_has_cause, first_miss}
use Rattle.edf.proofs.Refuse.{refused_is_first, first_exists}

module _ (S : System) (H : ℕ) (p : Periodic S H) where
  -- the releases from H on are those from 0 on
  job_repeats : (e u i : ℕ) → i < S.count → work_due S (e + H) (u + H) i ≡ work_due S e u i
  job_repeats e u i h = moved (S.releases i (u + H)) (S.releases i u) (S.work i) (S.deadline i) (p.repeats i u h)
    where
      moved : (r r' : Bool) (W D : ℕ) → r ≡ r' → cond (r && leb (u + H + D) (e + H)) W 0 ≡ cond (r' && leb (u + D) e) W 0
      moved r r' W D same = grind (arith, nat_tests)

  span_repeats : (s e : ℕ) → span_work S (s + H) (e + H) ≡ span_work S s e
  span_repeats s e =
      let l : e + H - (s + H) ≡ e - s = omega arith in
      ap (λ x. Sum x (λ k. due S (e + H) (s + H + k))) l
      ∙ sum_same (e - s) (λ k. due S (e + H) (s + H + k)) (λ k. due S e (s + k))
      (λ k h. let m : s + H + k ≡ s + k + H = omega arith in
      ap (due S (e + H)) m ∙ sum_same S.count (work_due S (e + H) (s + k + H)) (work_due S e (s + k)) (job_repeats e (s + k)))

  overload_repeats : (s e : ℕ) → Overloaded S (s + H) (e + H) → Overloaded S s e
  overload_repeats s e o = record { proper = omega (arith, o.proper); excess = omega (arith, o.excess, span_repeats s e) }

  -- a job of the first cycle has its deadline at or before H, and so at or before any later end
  due_in_cycle : (e u : ℕ) → H ≤ e → u < H → due S e u ≡ due S H u
  due_in_cycle e u h early =
      sum_same S.count (work_due S e u) (work_due S H u)
      (λ i task. same (S.releases i u) (S.work i) (S.deadline i) (p.within i u task early))
    where
      same : (r : Bool) (W D : ℕ) → (r ≡ true → u + D ≤ H) → cond (r && leb (u + D) e) W 0 ≡ cond (r && leb (u + D) H) W 0
      same r W D within = grind (arith, nat_tests)

  upto_in_cycle : (e n : ℕ) → H ≤ e → n ≤ H → upto S e n ≡ upto S H n
  upto_in_cycle e n h early = sum_same n (due S e) (due S H) (λ u less. due_in_cycle e u h (omega arith))

  -- an overloaded span across H has an overloaded part on one side
  overload_splits : (s e : ℕ) → s ≤ H → H ≤ e → Overloaded S s e → Overloaded S s H ⊎ Overloaded S H e
  overload_splits s e a b o =
      let whole = overloaded_excess S s e o in
      let here = upto_in_cycle e H b (omega arith) in
      let start = upto_in_cycle e s b a in
      ⊎_elim
      (λ l. inl (excess_overloads S s H a l))
      (λ l. inr (excess_overloads S H e b (omega arith)))
      (cases_lt (upto S H s + H) (upto S H H + s))

  -- if no span from 0 within the first cycle is overloaded, none from 0 is
  pub from_0_in_cycle : ((e : ℕ) → e ≤ H → Overloaded S 0 e → ⊥) → (e : ℕ) → Overloaded S 0 e → ⊥
  from_0_in_cycle fits e = within_fuel e e (omega arith)
    where
      within_fuel : (b e : ℕ) → e ≤ b → Overloaded S 0 e → ⊥
      within_fuel zero e h o = omega (arith, o.proper)
      within_fuel (suc b) e h o =
          ⊎_elim
          (λ beyond. ⊎_elim
          (λ front. fits H (omega arith) front)
          (λ back.
          let from : 0 + H ≡ H = omega arith in
          let to : e - H + H ≡ e = omega arith in
          within_fuel b (e - H) (omega (arith, p.proper)) (overload_repeats 0 (e - H) (rw (from, to) back)))
          (overload_splits 0 e (omega arith) (omega arith) o))
          (λ inside. fits e inside o)
          (cases_lt H e)

  abbrev Found : ℕ → Type 0
  Found e = (s' : ℕ) × (e' : ℕ) × (e' ≤ H) × (e' ≤ e) × Overloaded S s' e'

  in_cycle : (b s e : ℕ) → e ≤ b → Overloaded S s e → Found e
  in_cycle zero s e h o = absurd (omega (arith, o.proper))
  in_cycle (suc b) s e h o =
      let later : (t : ℕ) → H ≤ t → Overloaded S t e → Found e =
      λ t far over.
      let back : t - H + H ≡ t = omega arith in
      let back' : e - H + H ≡ e = omega (arith, over.proper) in
      let f = in_cycle b (t - H) (e - H) (omega (arith, p.proper, over.proper)) (overload_repeats (t - H) (e - H) (rw (back, back') over)) in
      (f.0, f.1, f.2, omega (arith, f.3), f.4) in
      ⊎_elim
      (λ beyond. ⊎_elim
      (λ before. ⊎_elim (λ l. (s, H, omega arith, omega arith, l)) (λ r. later H (omega arith) r) (overload_splits s e (omega arith) (omega arith) o))
      (λ after. later s after o)
      (cases_lt s H))
      (λ inside. (s, e, inside, omega arith, o))
      (cases_lt H e)

pub position_tells_releases : PositionTellsReleases
position_tells_releases S H p i n h = at_position (S.releases i) H (λ u. p.repeats i u h) p.proper n

pub one_cycle_is_enough : OneCycleIsEnough
one_cycle_is_enough S H p s e o = in_cycle S H p e s e (omega arith) o

first_in_cycle : (S : System) (H : ℕ) → Periodic S H → (s e : ℕ) → First S s e → e ≤ H
first_in_cycle S H p s e f =
    let c = one_cycle_is_enough S H p s e f.overloaded in
    omega (arith, c.2, f.first_end c.0 c.1 c.4)

pub cycle_decides : CycleDecides
cycle_decides = record {
  refuses = λ S H p s e. (λ f. (refused_is_first.found S H s e).0 (f, first_in_cycle S H p s e f), λ r. ((refused_is_first.found S H s e).1 r).0);
  admits = λ S H p. (
    λ fits. (refused_is_first.none S H).0 (λ s e _. fits s e),
    λ r s e o. let c = one_cycle_is_enough S H p s e o in (refused_is_first.none S H).1 r c.0 c.1 c.2 c.4,
  );
}

first_misses : (S : System) (H : ℕ) → Sound S → Periodic S H → (s e : ℕ) → First S s e →
    (e ≤ H) × Misses S silent e × ((n : ℕ) → n < e → Misses S silent n → ⊥)
first_misses S H sound p s e f =
    let m = (first_miss S sound e).1 ((s, f.overloaded), f.first_end) in
    (first_in_cycle S H p s e f, m.0, m.1)

pub cycle_run_decides : CycleRunDecides
cycle_run_decides = record {
  late = λ S H sound p. (
    λ m. let c = late_has_cause S silent m.0 m.2 in (c.0, m.0, c.1),
    λ o.
        let f = first_exists S o.0 o.1 o.2 in
        let m = first_misses S H sound p f.0 f.1 f.2 in
        (f.1, m.0, m.1),
  );
  first = first_misses;
}
