-- Laws of the finite sum.
use Rattle.std.proofs.Common.{◌≡◌, ℕ, zero, suc, ◌+◌, ◌-◌, ◌*◌, ◌%◌, ◌<◌, ◌≤◌, cond, eqb, ◌⊎◌, Some, None, Option, sym, refl, ap, ◌∙◌, inl, inr, ⊎_elim, not-suc-le-zero, add-zero, add-suc, zero-mul, arith}
use Rattle.std.proofs.lemmas.Nat.{mod-mul-add}
use Rattle.std.proofs.lemmas.Bool.Decides.{nat_tests}
use Rattle.std.proofs.lemmas.Bool.{cases_lt, cases_eq}
use Rattle.pattern.specs.Sum.{Sum}
use Rattle.edf.specs.System.{is}

pub sum_le : (n : ℕ) (f g : ℕ → ℕ) → ((i : ℕ) → i < n → f i ≤ g i) → Sum n f ≤ Sum n g
sum_le zero f g e = omega arith
sum_le (suc n) f g e = omega (arith, sum_le n f g (λ i h. e i (omega arith)), e n (omega arith))

pub sum_at_most : (n : ℕ) (f : ℕ → ℕ) (b : ℕ) → ((i : ℕ) → i < n → f i ≤ b) → Sum n f ≤ n * b
sum_at_most zero f b e = omega arith
sum_at_most (suc n) f b e = omega (arith, sum_at_most n f b (λ i h. e i (omega arith)), e n (omega arith))

pub sum_plus : (n : ℕ) (f g : ℕ → ℕ) → Sum n (λ i. f i + g i) ≡ Sum n f + Sum n g
sum_plus zero f g = refl
sum_plus (suc n) f g = omega (arith, sum_plus n f g)

pub sum_none : (n : ℕ) (f : ℕ → ℕ) → ((i : ℕ) → i < n → f i ≡ 0) → Sum n f ≡ 0
sum_none zero f e = refl
sum_none (suc n) f e = omega (arith, sum_none n f (λ i h. e i (omega arith)), e n (omega arith))

-- a term below its bound makes the whole sum smaller
pub sum_lt : (n : ℕ) (f g : ℕ → ℕ) (k : ℕ) → ((i : ℕ) → i < n → f i ≤ g i) → k < n → f k < g k → Sum n f < Sum n g
sum_lt zero f g k e h less = omega arith
sum_lt (suc n) f g k e h less =
    ⊎_elim
    (λ p. omega (arith, ap f p, ap g p, sum_le n f g (λ i l. e i (omega arith))))
    (λ ne. omega (arith, sum_lt n f g k (λ i l. e i (omega arith)) (omega arith) less, e n (omega arith)))
    (cases_eq k n)

-- a term is at most the sum
pub sum_term : (n : ℕ) (f : ℕ → ℕ) (k : ℕ) → k < n → f k ≤ Sum n f
sum_term zero f k h = absurd (not-suc-le-zero h)
sum_term (suc n) f k h = ⊎_elim (λ e. omega (arith, ap f e)) (λ ne. omega (arith, sum_term n f k (omega arith))) (cases_eq k n)

-- a sum above 0 has a term above 0
pub sum_some : (n : ℕ) (f : ℕ → ℕ) → 0 < Sum n f → (i : ℕ) × (i < n) × (0 < f i)
sum_some zero f h = absurd (not-suc-le-zero h)
sum_some (suc n) f h = at (cases_lt 0 (f n)) (sum_some n f)
  where
    at : (0 < f n) ⊎ (f n ≤ 0) → (0 < Sum n f → (i : ℕ) × (i < n) × (0 < f i)) → (i : ℕ) × (i < suc n) × (0 < f i)
    at (inl l) rest = (n, omega arith, l)
    at (inr l) rest = let r = rest (omega arith) in (r.0, omega (arith, r.1), r.2)

pub sum_splits : (m n : ℕ) (f : ℕ → ℕ) → Sum (m + n) f ≡ Sum m f + Sum n (λ k. f (m + k))
sum_splits m zero f = omega (arith, ap (λ l. Sum l f) (add-zero m))
sum_splits m (suc n) f = omega (arith, ap (λ l. Sum l f) (add-suc m n), sum_splits m n f)

-- the terms from s on, below n
pub sum_from : (s n : ℕ) (f : ℕ → ℕ) → s ≤ n → Sum n f ≡ Sum s f + Sum (n - s) (λ k. f (s + k))
sum_from s n f h = let whole : s + (n - s) ≡ n = omega arith in sym (ap (λ l. Sum l f) whole) ∙ sum_splits s (n - s) f

-- a sum of which only the first term counts
sum_first : (n : ℕ) (f : ℕ → ℕ) → 0 < n → ((k : ℕ) → 0 < k → k < n → f k ≡ 0) → Sum n f ≡ f 0
sum_first n f some none =
    omega (arith, sum_from 1 n f some, sum_none (n - 1) (λ k. f (1 + k)) (λ k h. none (1 + k) (omega arith) (omega arith)))

-- a sum over ticks of which only the multiples of T count
pub sum_multiples : (T n : ℕ) (f : ℕ → ℕ) → 0 < T → ((u : ℕ) → (u % T ≡ 0 → ⊥) → f u ≡ 0) → Sum (n * T) f ≡ Sum n (λ j. f (j * T))
sum_multiples T zero f some none = ap (λ l. Sum l f) (zero-mul T)
sum_multiples T (suc n) f some none =
    let next : suc n * T ≡ n * T + T = omega arith in
    omega (
      arith,
      ap (λ l. Sum l f) next,
      sum_splits (n * T) T f,
      sum_multiples T n f some none,
      sum_first T (λ k. f (n * T + k)) some (λ k positive below. none (n * T + k) (λ e. omega (arith, mod-mul-add n T k below))),
      ap f (add-zero (n * T)),
    )

pub sum_of_ones : (n : ℕ) (f : ℕ → ℕ) → ((i : ℕ) → f i ≤ 1) → Sum n f ≤ n
sum_of_ones zero f e = omega arith
sum_of_ones (suc n) f e = omega (arith, sum_of_ones n f e, e n)

pub sum_swaps : (m n : ℕ) (f : ℕ → ℕ → ℕ) → Sum m (λ i. Sum n (f i)) ≡ Sum n (λ k. Sum m (λ i. f i k))
sum_swaps zero n f = sym (sum_none n (λ k. 0) (λ k h. refl))
sum_swaps (suc m) n f = ap (λ x. x + Sum n (f m)) (sum_swaps m n f) ∙ sym (sum_plus n (λ k. Sum m (λ i. f i k)) (f m))

-- at most one task has a tick
pub one_at_most : (n : ℕ) (o : Option ℕ) → Sum n (λ i. cond (is o i) 1 0) ≤ 1
one_at_most n None = omega (arith, sum_none n (λ i. 0) (λ i h. refl))
one_at_most n (Some k) = (counted n).0
  where
    counted : (n : ℕ) → (Sum n (λ i. cond (eqb k i) 1 0) ≤ 1) × (n ≤ k → Sum n (λ i. cond (eqb k i) 1 0) ≡ 0)
    counted zero = (omega arith, λ _. refl)
    counted (suc n) = let r = counted n in (grind (arith, nat_tests), grind (arith, nat_tests))
