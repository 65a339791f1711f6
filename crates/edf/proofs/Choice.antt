-- The task that a tick chooses is the one whose deadline comes first, and no other is.
use Rattle.std.proofs.Common.{◌≡◌, ℕ, zero, suc, ◌<◌, ◌≤◌, ◌&&◌, ltb, Some, None, Option, sym, refl, ap, ⊎_elim, not-suc-le-zero, arith}
use Rattle.std.proofs.lemmas.Bool.{cond_both, ltb-true, ltb-false, and_parts, and_cases}
use Rattle.edf.proofs.Below.{below_suc}
use Rattle.edf.specs.Tick.{Counters, better, choose}
use Rattle.edf.specs.Earliest.{Earliest, ChosenIsEarliest}

module _ (c : Counters) where
  better_earliest : (n : ℕ) (o : Option ℕ) → Earliest n c o → Earliest (suc n) c (better c o n)
  better_earliest n None idle =
      cond_both (ltb 0 (c.w n)) (Some n) None (Earliest (suc n) c)
      (λ t. record {
        here = omega arith;
        busy = ltb-true 0 (c.w n) t;
        least = below_suc (λ i. 0 < c.w i → c.d n ≤ c.d i) n (λ i l b. omega (arith, idle i l)) (λ _. omega arith);
        lowest = below_suc (λ i. 0 < c.w i → c.d i ≡ c.d n → n ≤ i) n (λ i l b. omega (arith, idle i l)) (λ _ _. omega arith);
      })
      (λ t. below_suc (λ i. c.w i ≡ 0) n idle (omega (arith, ltb-false 0 (c.w n) t)))
  better_earliest n (Some k) f =
      cond_both (ltb 0 (c.w n) && ltb (c.d n) (c.d k)) (Some n) (Some k) (Earliest (suc n) c)
      (λ t. let p = and_parts (ltb 0 (c.w n)) (ltb (c.d n) (c.d k)) t in
      let less : c.d n < c.d k = ltb-true _ _ p.1 in
      record {
        here = omega arith;
        busy = ltb-true 0 (c.w n) p.0;
        least = below_suc (λ i. 0 < c.w i → c.d n ≤ c.d i) n (λ i l b. omega (arith, f.least i l b)) (λ _. omega arith);
        lowest = below_suc (λ i. 0 < c.w i → c.d i ≡ c.d n → n ≤ i) n (λ i l b e. omega (arith, f.least i l b)) (λ _ _. omega arith);
      })
      (λ t.
      let no_less : 0 < c.w n → c.d k ≤ c.d n =
      λ b. ⊎_elim (λ z. omega (arith, ltb-false 0 (c.w n) z)) (λ z. ltb-false (c.d n) (c.d k) z) (and_cases (ltb 0 (c.w n)) (ltb (c.d n) (c.d k)) t) in
      record {
        here = omega (arith, f.here);
        busy = f.busy;
        least = below_suc (λ i. 0 < c.w i → c.d k ≤ c.d i) n f.least no_less;
        lowest = below_suc (λ i. 0 < c.w i → c.d i ≡ c.d k → k ≤ i) n f.lowest (λ _ _. omega (arith, f.here));
      })

  pub choose_earliest : (n : ℕ) → Earliest n c (choose n c)
  choose_earliest zero = λ i h. absurd (not-suc-le-zero h)
  choose_earliest (suc n) = better_earliest n (choose n c) (choose_earliest n)

  one_earliest : (n : ℕ) (o p : Option ℕ) → Earliest n c o → Earliest n c p → o ≡ p
  one_earliest n None None a b = refl
  one_earliest n None (Some k) a b = absurd (omega (arith, a k b.here, b.busy))
  one_earliest n (Some k) None a b = absurd (omega (arith, b k a.here, a.busy))
  one_earliest n (Some k) (Some j) a b =
      let same : c.d j ≡ c.d k = omega (arith, a.least j b.here b.busy, b.least k a.here a.busy) in
      ap Some (omega (arith, a.lowest j b.here b.busy same, b.lowest k a.here a.busy (sym same)))

pub chosen_is_earliest : ChosenIsEarliest
chosen_is_earliest n c o =
    (λ e. one_earliest c n o (choose n c) e (choose_earliest c n), λ p. rw p (choose_earliest c n))
