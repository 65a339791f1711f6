-- How the marks of Red are counted and repeat, and that Red is lawful. Assumes nothing.
use Rattle.std.specs.Prelude.{◌≡◌, ℕ, ◌+◌, ◌*◌, ◌/◌, ◌%◌, ◌<◌, ◌≤◌, min, nat_lt, if◌then◌else◌}
use Rattle.std.proofs.Common.{⊎_elim, add-mul, mod-lt, div-add-mod', arith}
use Rattle.std.proofs.Math.Nat.{add-mod_right}
use Rattle.std.proofs.lemmas.Nat.{div-mul-add, mod-mul-add}
use Rattle.std.proofs.lemmas.Bool.{cases_lt}
use Rattle.std.proofs.lemmas.Bool.Decides.{nat_tests}
use Rattle.pattern.specs.Policy.{Lawful}
use Rattle.pattern.specs.Red.{red_marks, red, RedForEver, RedMarksMOfK}
use Rattle.pattern.specs.Sums.{sum_telescopes}
use Rattle.pattern.specs.Ranges.{ranged_for_ever, ranged_lawful}

-- The marks below job j: m for each whole k, and the first m of what remains.
abbrev red_before : (m k j : ℕ) → ℕ
red_before m k j = j / k * m + min (j % k) m

red_before_at : (m k j q r : ℕ) → r < k → j ≡ q * k + r → red_before m k j ≡ q * m + min r m
red_before_at m k j q r h e = rw (e, div-mul-add q k r h, mod-mul-add q k r h)

one_more : (r m : ℕ) → (if nat_lt r m then 1 else 0) + min r m ≡ min (r + 1) m
one_more r m = grind (arith, nat_tests)

-- The marks below job j rise by one at a marked job, and stay at any other.
red_rises : (m k j : ℕ) → 1 ≤ m → m ≤ k → (if red_marks m k j then 1 else 0) + red_before m k j ≡ red_before m k (j + 1)
red_rises m k j some within =
    let q = j / k in
    let r = j % k in
    let inside : r < k = mod-lt j (omega arith) in
    ⊎_elim
    (λ h. omega (arith, one_more r m, red_before_at m k (j + 1) q (r + 1) h (omega (arith, div-add-mod' j k))))
    (λ h. omega (arith, one_more r m, red_before_at m k (j + 1) (q + 1) 0 (omega arith) (omega (arith, div-add-mod' j k, add-mul q 1 k)), add-mul q 1 m))
    (cases_lt (r + 1) k)

pub red_marks_m_of_k : RedMarksMOfK
red_marks_m_of_k m k a some within =
    let q = a / k in
    let later : red_before m k (a + k) ≡ (q + 1) * m + min (a % k) m =
    red_before_at m k (a + k) (q + 1) (a % k) (mod-lt a (omega arith)) (omega (arith, div-add-mod' a k, add-mul q 1 k)) in
    omega (arith, sum_telescopes (λ j. if red_marks m k j then 1 else 0) (red_before m k) (λ j. red_rises m k j some within) a k, add-mul q 1 m)

red_repeats : (m k j : ℕ) → red_marks m k (j + k) ≡ red_marks m k j
red_repeats m k j = rw add-mod_right

pub red_for_ever : RedForEver
red_for_ever = ranged_for_ever (λ task m k j. red_marks m k j) (λ task m k j some within. red_repeats m k j)

pub red_lawful : Lawful red
red_lawful =
    ranged_lawful (λ task m k j. red_marks m k j)
    (λ task m k j some within. red_repeats m k j)
    (λ task m k a some within. omega (arith, red_marks_m_of_k m k a some within))
