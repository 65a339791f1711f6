-- Euclid's rule: a turn keeps the greatest common divisor.
use Rattle.std.proofs.Common.{◌≡◌, ℕ, zero, suc, ◌%◌, ◌<◌, ◌≤◌, refl, ap, mod-lt, arith}
use Rattle.edf.specs.Cycle.{gcd_in}

-- any number of steps from b on is enough
steps_enough : (k l a b : ℕ) → b ≤ k → b ≤ l → gcd_in k a b ≡ gcd_in l a b
unfolding gcd_in
steps_enough zero zero a b h m = refl
steps_enough zero (suc l) a zero h m = refl
steps_enough zero (suc l) a (suc b) h m = absurd (omega arith)
steps_enough (suc k) zero a zero h m = refl
steps_enough (suc k) zero a (suc b) h m = absurd (omega arith)
steps_enough (suc k) (suc l) a zero h m = refl
steps_enough (suc k) (suc l) a (suc b) h m =
    let less = mod-lt a {m = suc b} (omega arith) in
    steps_enough k l (suc b) (a % suc b) (omega arith) (omega arith)

-- a turn keeps the divisor
pub gcd_turns : (a b : ℕ) → 0 < b → gcd_in (a % b) b (a % b) ≡ gcd_in b a b
unfolding gcd_in
gcd_turns a zero h = absurd (omega arith)
gcd_turns a (suc b) h = let less = mod-lt a {m = suc b} (omega arith) in steps_enough (a % suc b) b (suc b) (a % suc b) (omega arith) (omega arith)

-- the last turn has found it
pub gcd_of_zero : (a b : ℕ) → b ≡ 0 → gcd_in b a b ≡ a
unfolding gcd_in
gcd_of_zero a b e = ap (λ x. gcd_in x a x) e

-- and it divides
pub gcd_positive : (k a b : ℕ) → 0 < a → 0 < gcd_in k a b
unfolding gcd_in
gcd_positive zero a b h = h
gcd_positive (suc k) a zero h = h
gcd_positive (suc k) a (suc b) h = gcd_positive k (suc b) (a % suc b) (omega arith)
