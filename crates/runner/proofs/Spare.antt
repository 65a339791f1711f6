-- Past the tasks of a plan nothing is ever open, so a tick leaves the same by its number and by its position.
use Rattle.std.proofs.Common.{◌≡◌, ℕ, zero, suc, ◌-◌, ◌%◌, ◌≤◌, Bool, cond, ◌&&◌, eqb, ltb, Option, sym, refl, ap, ◌∙◌, ⊎_elim, arith}
use Rattle.std.proofs.lemmas.List.{get_or_past}
use Rattle.std.proofs.lemmas.Bool.{cases_lt}
use Rattle.std.proofs.lemmas.Bool.Decides.{nat_tests}
use Rattle.plan.specs.Bounded.{Bounded, count, absent}
use Rattle.plan.specs.TaskSet.{TaskSet, job_work}
use Rattle.pattern.specs.Policy.{Meaning}
use Rattle.edf.specs.Admission.{CycleOf}
use Rattle.edf.specs.Plans.{D, W, system, released}
use Rattle.edf.specs.Reading.{SameBelow}
use Rattle.edf.specs.Run.{Reports, done, trace}
use Rattle.edf.specs.System.{is}
use Rattle.edf.specs.Tick.{Counters, choose, drop_late, release, tick}
use Rattle.edf.proofs.Verdicts.{plan_tick_by_position}

-- no task past the first n has work or ticks left
abbrev pub NothingPast : ℕ → Counters → Type 0
NothingPast n c = (i : ℕ) → n ≤ i → (c.w i ≡ 0) × (c.d i ≡ 0)

pub same_counters : (n : ℕ) (c c' : Counters) → SameBelow n c c' → NothingPast n c → NothingPast n c' → c ≡ c'
same_counters n c c' same past past' =
    let each : (i : ℕ) → (c.w i ≡ c'.w i) × (c.d i ≡ c'.d i) =
    λ i. ⊎_elim
    (λ h. same i h)
    (λ h. ((past i h).0 ∙ sym (past' i h).0, (past i h).1 ∙ sym (past' i h).1))
    (cases_lt i n) in
    λ x. record { w = λ i. (each i).0 x; d = λ i. (each i).1 x }

module _ (set : TaskSet) (policy : Meaning) where
  absent_has_no_work : (i : ℕ) → count set ≤ i → W set i ≡ 0
  absent_has_no_work i h = ap (job_work set.p set.q) (get_or_past set.tasks i absent h)

  pub tick_past : (n : ℕ) (c : Counters) → NothingPast (count set) c → NothingPast (count set) (tick (system set policy) n c).left
  unfolding tick
  tick_past n c past i h =
      let b = is (choose (count set) (release (system set policy) n (drop_late c))) i in
      still (released set policy i n) b (c.w i) (c.d i) (W set i) (D set i) (past i h).0 (absent_has_no_work i h)
    where
      still : (r b : Bool) (w d work deadline : ℕ) → w ≡ 0 → work ≡ 0 →
          let v = cond r work (cond (ltb 0 w && eqb d 0) 0 w) in
          (cond b (v - 1) v ≡ 0) × (cond (ltb 0 (cond b (v - 1) v)) (cond r deadline d - 1) 0 ≡ 0)
      still r b w d work deadline e f = (grind (arith, nat_tests), grind (arith, nat_tests))

  done_past : (o : Option ℕ) (c : Counters) → NothingPast (count set) c → NothingPast (count set) (done o c)
  done_past o c past i h = let p = past i h in let b = is o i in (grind (arith, nat_tests), grind (arith, nat_tests))

  pub trace_past : (told : Reports) (n : ℕ) → NothingPast (count set) (trace (system set policy) told n)
  unfolding trace
  trace_past told zero i h = (refl, refl)
  trace_past told (suc n) i h =
      let c = trace (system set policy) told n in
      done_past (told n) (tick (system set policy) n c).left (tick_past n c (trace_past told n)) i h

  -- a tick leaves by its position what it leaves by its number
  pub left_by_position : (H : ℕ) → Bounded set → CycleOf set policy H → (n : ℕ) (c : Counters) → NothingPast (count set) c →
      (tick (system set policy) n c).left ≡ (tick (system set policy) (n % H) c).left
  left_by_position H bounded cycle n c past =
      same_counters (count set) (tick (system set policy) n c).left (tick (system set policy) (n % H) c).left
      (plan_tick_by_position.answers set policy H bounded cycle n c).left
      (tick_past n c past)
      (tick_past (n % H) c past)
