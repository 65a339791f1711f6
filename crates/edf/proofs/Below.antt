-- A test of every number below a bound: some number passes, or none does, or all do.
use Rattle.std.proofs.Common.{◌≡◌, ℕ, zero, suc, ◌<◌, Bool, true, false, ◌&&◌, ◌⊎◌, inl, inr, ⊎_elim, not-suc-le-zero, arith}
use Rattle.std.proofs.lemmas.Bool.{cases_lt, cases_Bool, and_parts}

-- what holds of each number below n, and of n, holds of each below n + 1
pub below_suc : (P : ℕ → Type 0) (n : ℕ) → ((i : ℕ) → i < n → P i) → P n → (i : ℕ) → i < suc n → P i
below_suc P n front here i h =
    ⊎_elim (λ l. front i l) (λ l. let e : n ≡ i = omega arith in rw (← e) here) (cases_lt i n)

pub some_below : (p : ℕ → Bool) (n : ℕ) → ((i : ℕ) × (i < n) × (p i ≡ true)) ⊎ ((i : ℕ) → i < n → p i ≡ false)
some_below p zero = inr (λ i h. absurd (not-suc-le-zero h))
some_below p (suc n) =
    ⊎_elim
    (λ t. inl (n, omega arith, t))
    (λ f. ⊎_elim (λ s. inl (s.0, omega (arith, s.1), s.2)) (λ none. inr (below_suc (λ i. p i ≡ false) n none f)) (some_below p n))
    (cases_Bool (p n))

-- every number below n passes
abbrev pub all_below : ℕ → (ℕ → Bool) → Bool
all_below zero p = true
all_below (suc n) p = all_below n p && p n

pub each_below : (n : ℕ) (p : ℕ → Bool) → all_below n p ≡ true → (i : ℕ) → i < n → p i ≡ true
each_below zero p t i h = absurd (omega arith)
each_below (suc n) p t i h = let parts = and_parts (all_below n p) (p n) t in below_suc (λ i. p i ≡ true) n (each_below n p parts.0) parts.1 i h
