-- Laws of the finite sum, and of the number of marks, which is one. Assumes nothing.
use Rattle.std.specs.Prelude.{◌≡◌, ℕ, zero, suc, ◌+◌, ◌<◌, Bool, if◌then◌else◌, refl}
use Rattle.std.proofs.Common.{ap, arith}
use Rattle.pattern.specs.Sum.{Sum}
use Rattle.pattern.specs.Policy.{marks}

-- Sums of equal terms are equal.
pub sum_same : (n : ℕ) (f g : ℕ → ℕ) → ((i : ℕ) → i < n → f i ≡ g i) → Sum n f ≡ Sum n g
sum_same zero f g same = refl
sum_same (suc n) f g same = omega (arith, sum_same n f g (λ i h. same i (omega arith)), same n (omega arith))

-- Where f is what F rises by, the sum of f over a stretch is what F rises by over it.
pub sum_telescopes : (f F : ℕ → ℕ) → ((i : ℕ) → f i + F i ≡ F (i + 1)) → (a n : ℕ) → Sum n (λ i. f (a + i)) + F a ≡ F (a + n)
sum_telescopes f F rises a zero =
    let at_a : F a ≡ F (a + 0) = ap F (omega arith) in
    omega arith
sum_telescopes f F rises a (suc n) =
    let next : F (a + n + 1) ≡ F (a + suc n) = ap F (omega arith) in
    omega (arith, sum_telescopes f F rises a n, rises (a + n))

-- Marks that agree job by job over a stretch are equally many.
pub marks_same : (f g : ℕ → Bool) (a b n : ℕ) → ((i : ℕ) → i < n → f (a + i) ≡ g (b + i)) → marks f a n ≡ marks g b n
marks_same f g a b n same =
    sum_same n (λ i. if f (a + i) then 1 else 0) (λ i. if g (b + i) then 1 else 0) (λ i h. rw (same i h))
