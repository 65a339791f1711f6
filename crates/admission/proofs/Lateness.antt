-- A mask of late tasks tells whether a tick of the run misses a deadline.
use Rattle.std.proofs.Common.{◌≡◌, ℕ, ◌+◌, ◌^◌, ◌<◌, Bool, true, false, cond, sym, refl, ap, ◌∙◌, add-one, arith, pow_pos}
use Rattle.edf.specs.Run.{silent, trace, cleared, Misses}
use Rattle.edf.specs.System.{System}
use Rattle.edf.specs.Tick.{Counters, tick}
use Rattle.edf.proofs.Below.{below_suc}
use Rattle.edf.proofs.Sums.{sum_some, sum_term}
use Rattle.service.specs.Answers.{mask, answer_of}
use Rattle.service.specs.declared.ticks.TickAnswer.{TickAnswer}

mask_some : (n : ℕ) (test : ℕ → Bool) → 0 < mask n test → (i : ℕ) × (i < n) × (test i ≡ true)
mask_some n test some = let r = sum_some n (λ i. cond (test i) (2 ^ i) 0) some in (r.0, r.1, passes (test r.0) (2 ^ r.0) r.2)
  where
    passes : (b : Bool) (x : ℕ) → 0 < cond b x 0 → b ≡ true
    passes true x h = refl
    passes false x h = absurd (omega arith)

mask_none : (n : ℕ) (test : ℕ → Bool) → mask n test ≡ 0 → (i : ℕ) → i < n → test i ≡ true → ⊥
mask_none n test none i here t =
    let bit : cond (test i) (2 ^ i) 0 ≡ 2 ^ i = ap (λ b. cond b (2 ^ i) 0) t in
    omega (arith, sum_term n (λ k. cond (test k) (2 ^ k) 0) i here, pow_pos i)

module _ (S : System) where
  pub run_begins : (c : Counters) → c ≡ cleared → c ≡ trace S silent 0
  unfolding trace
  run_begins c e = e

  pub run_goes_on : (n : ℕ) (before after : Counters) → before ≡ trace S silent n → after ≡ (tick S n before).left → after ≡ trace S silent (n + 1)
  unfolding trace
  run_goes_on n before after so_far left = left ∙ ap (λ c. (tick S n c).left) so_far ∙ sym (ap (trace S silent) (add-one n))

  module _ (n : ℕ) (before : Counters) (answer : TickAnswer) (so_far : before ≡ trace S silent n) (said : answer ≡ answer_of S.count (tick S n before)) where
    late_of : answer.late ≡ mask S.count (tick S n (trace S silent n)).missed
    late_of = ap (λ a. a.late) said ∙ ap (λ c. mask S.count (tick S n c).missed) so_far

    pub late_misses : (answer.late ≡ 0 → ⊥) → Misses S silent n
    late_misses some = mask_some S.count (tick S n (trace S silent n)).missed (omega (arith, late_of))

    pub none_late_so_far : answer.late ≡ 0 → ((k : ℕ) → k < n → Misses S silent k → ⊥) → (k : ℕ) → k < n + 1 → Misses S silent k → ⊥
    none_late_so_far none earlier k h =
        below_suc (λ k. Misses S silent k → ⊥) n earlier
        (λ m. mask_none S.count (tick S n (trace S silent n)).missed (sym late_of ∙ none) m.0 m.1 m.2)
        k (omega arith)
