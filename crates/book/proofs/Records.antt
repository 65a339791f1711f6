-- A task's record read, and a record's task written. Assumes nothing.
use Rattle.std.proofs.Common.{◌≡◌, ℕ, ◌+◌, ◌*◌, ◌/◌, ◌%◌, ◌<◌, ◌≤◌, true, false, not, ◌||◌, eqb, ltb, List, drop, None, refl, ap, ◌∙◌, ⊎_elim, arith}
use Rattle.std.proofs.lemmas.Bool.{cases_lt, eqb-false, le-ltb, ltb-false, ne_eqb, not-false, or_from, or_parts}
use Rattle.std.specs.Option.{option_or}
use Rattle.book.proofs.Refused.{both_pass, goes_on, went_on}
use Rattle.plan.specs.Bounds.{Timed, Constrained}
use Rattle.plan.specs.Checks.{first_error, parameters_of, refuse_if, speed_of}
use Rattle.plan.specs.TaskSet.{Parameters, paced}
use Rattle.plan.specs.declared.draft.Draft.{Draft}
use Rattle.plan.specs.declared.fault.RecordError.TheVariants.{Period, Deadline, Work, Constraint, SpeedOrRest}
use Rattle.plan.specs.declared.task.Speed.{Speed}
use Rattle.plan.specs.declared.task.Speed.TheVariants.{High, Low}
use Rattle.book.specs.Bytes.{all_zero, byte}
use Rattle.book.specs.Reading.{draft_of, record_error}
use Rattle.book.specs.Writing.{record_bytes}

-- a task's parameters keep its bounds
pub record Good (t : Parameters) : Type 0 where
  pub timed : Timed t.period t.deadline t.work
  pub constrained : Constrained t.m t.k

-- a speed's code gives the speed
speed_back : (s : Speed) → speed_of (paced s 0 1) ≡ s
speed_back High = refl
speed_back Low = refl

-- the code is 0 or 1
speed_low : (s : Speed) → paced s 0 1 ≤ 1
speed_low High = omega arith
speed_low Low = omega arith

-- the two bytes of a number give the number
two_bytes : (n : ℕ) → n ≤ 65535 → n % 256 + n / 256 % 256 * 256 ≡ n
two_bytes n fits = omega arith

-- the draft that gives a task
drafted : Parameters → Draft
drafted t = record { period = t.period; deadline = t.deadline; work = t.work; m = t.m; k = t.k; speed = paced t.speed 0 1 }

-- the record of a task holds the task's draft
draft_back : (t : Parameters) → Good t → draft_of (record_bytes t) ≡ drafted t
unfolding record_bytes drafted
draft_back t good = λ i. record {
  period = two_bytes t.period (omega (arith, good.timed)) i;
  deadline = two_bytes t.deadline (omega (arith, good.timed)) i;
  work = two_bytes t.work (omega (arith, good.timed)) i;
  m = t.m;
  k = t.k;
  speed = paced t.speed 0 1;
}

-- a draft in bounds has no error
in_bounds : (d : Draft) → Timed d.period d.deadline d.work → Constrained d.m d.k → d.speed ≤ 1 → first_error d ≡ None
in_bounds d t k s =
    goes_on Period (ne_eqb _ 0 (λ e. omega arith))
    (goes_on Deadline (or_from (eqb d.deadline 0) _ (ne_eqb _ 0 (λ e. omega arith)) (le-ltb _ _ (omega arith)))
    (goes_on Work (or_from (eqb d.work 0) _ (ne_eqb _ 0 (λ e. omega arith)) (le-ltb _ _ (omega arith)))
    (goes_on Constraint (or_from (eqb d.m 0) _ (ne_eqb _ 0 (λ e. omega arith)) (or_from (ltb d.k d.m) _ (le-ltb _ _ (omega arith)) (le-ltb _ _ (omega arith))))
    (goes_on SpeedOrRest (le-ltb 1 d.speed s) refl))))

-- the record of a task gives the task
pub task_back : (t : Parameters) → Good t → parameters_of (draft_of (record_bytes t)) ≡ t
unfolding drafted
task_back t good =
    ap parameters_of (draft_back t good) ∙
    ap (λ (s : Speed). record { period = t.period; deadline = t.deadline; work = t.work; m = t.m; k = t.k; speed = s }) (speed_back t.speed)

-- and it passes the checks
pub record_passes : (t : Parameters) → Good t → record_error (record_bytes t) ≡ None
unfolding record_bytes drafted
record_passes t good =
    ap (λ d. option_or (first_error d) None) (draft_back t good) ∙
    ap (λ o. option_or o None) (in_bounds (drafted t) good.timed good.constrained (speed_low t.speed))

-- What a record that passes its checks tells.

module _ (xs : List ℕ) (passed : record_error xs ≡ None) where
  -- it passed the checks of its numbers and of its rest
  parts : (first_error (draft_of xs) ≡ None) × (refuse_if (not (all_zero (drop 9 xs))) SpeedOrRest None ≡ None)
  parts = both_pass (first_error (draft_of xs)) (refuse_if (not (all_zero (drop 9 xs))) SpeedOrRest None) passed

  -- its rest is zero
  pub rest_passed : all_zero (drop 9 xs) ≡ true
  rest_passed = not-false (all_zero (drop 9 xs)) (went_on (not (all_zero (drop 9 xs))) SpeedOrRest None parts.1).0

  -- the checks that it passed, one by one
  record Passed (draft : Draft) : Type 0 where
    period : eqb draft.period 0 ≡ false
    deadline : (eqb draft.deadline 0 || ltb draft.period draft.deadline) ≡ false
    work : (eqb draft.work 0 || ltb draft.deadline draft.work) ≡ false
    constraint : (eqb draft.m 0 || (ltb draft.k draft.m || ltb 32 draft.k)) ≡ false
    speed : ltb 1 draft.speed ≡ false

  -- its numbers passed each check
  checks : Passed (draft_of xs)
  checks =
      let draft : Draft = draft_of xs in
      let a = went_on (eqb draft.period 0) Period _ parts.0 in
      let b = went_on (eqb draft.deadline 0 || ltb draft.period draft.deadline) Deadline _ a.1 in
      let c = went_on (eqb draft.work 0 || ltb draft.deadline draft.work) Work _ b.1 in
      let d = went_on (eqb draft.m 0 || (ltb draft.k draft.m || ltb 32 draft.k)) Constraint _ c.1 in
      let e = went_on (ltb 1 draft.speed) SpeedOrRest None d.1 in
      record { period = a.0; deadline = b.0; work = c.0; constraint = d.0; speed = e.0 }

  -- its speed is 0 or 1
  pub speed_passed : byte xs 8 ≤ 1
  speed_passed = ltb-false 1 (byte xs 8) checks.speed

  -- a word of two bytes is at most 65,535
  pub good_passed : byte xs 0 < 256 → byte xs 1 < 256 → Good (parameters_of (draft_of xs))
  good_passed low high =
      let c = checks in
      let d = or_parts _ _ c.deadline in
      let w = or_parts _ _ c.work in
      let m = or_parts _ _ c.constraint in
      let k = or_parts _ _ m.1 in
      let some_work = eqb-false _ 0 w.0 in
      let some_m = eqb-false _ 0 m.0 in
      record {
        timed = (at_least_one _ some_work, ltb-false _ _ w.1, ltb-false _ _ d.1, two_bytes_at_most (byte xs 0) (byte xs 1) low high);
        constrained = (at_least_one _ some_m, ltb-false _ _ k.0, ltb-false _ _ k.1);
      }
    where
      two_bytes_at_most : (low high : ℕ) → low < 256 → high < 256 → low + high * 256 ≤ 65535
      two_bytes_at_most low high l h = omega arith

      at_least_one : (n : ℕ) → (n ≡ 0 → ⊥) → 1 ≤ n
      at_least_one n some = ⊎_elim (λ l. l) (λ l. absurd (some (omega arith))) (cases_lt 0 n)
