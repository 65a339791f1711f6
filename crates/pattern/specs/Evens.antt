-- How the marks of Even are counted and repeat, and that Even is lawful. Assumes nothing.
use Rattle.std.specs.Prelude.{◌≡◌, ℕ, ◌+◌, ◌*◌, ◌/◌, ◌<◌, ◌≤◌, true, false, ◌==◌, if◌then◌else◌}
use Rattle.std.proofs.Common.{sym, ap, ◌∙◌, ⊎_elim, add-mul, mul_comm, arith}
use Rattle.std.proofs.Math.Nat.{div-eq_of_lt-le, add-mul-div_right}
use Rattle.std.proofs.lemmas.Nat.{le-div}
use Rattle.std.proofs.lemmas.Bool.{cases_lt, eq-eqb, ne_eqb}
use Rattle.std.proofs.lemmas.Bool.Decides.{nat_tests}
use Rattle.std.proofs.lemmas.Grind.{div_ceil_times}
use Rattle.pattern.specs.Policy.{Lawful}
use Rattle.plan.specs.Rounding.{ceil}
use Rattle.pattern.specs.Even.{even_marks, even, EvenForEver, EvenMarksOfAStretch, EvenMarksMOfK}
use Rattle.pattern.specs.Sums.{sum_telescopes}
use Rattle.pattern.specs.Ceilings.{ceil_is, ceil_more}
use Rattle.pattern.specs.Ranges.{ranged_for_ever, ranged_lawful}

-- q stands for ceil(j × m / k). Job j is marked exactly if the multiple q × k falls into the m numbers from j × m on.
module _ (m k j q : ℕ) (some : 1 ≤ m) (within : m ≤ k) (above : j * m ≤ q * k) (below : q * k < j * m + k) where
  rises_if_marked : q * k < (j + 1) * m → ((j == q * k / m) ≡ true) × (ceil ((j + 1) * m) k ≡ q + 1)
  rises_if_marked h = (
    eq-eqb j (q * k / m) (sym (div-eq_of_lt-le m above h)),
    ceil_is ((j + 1) * m) k (q + 1) (omega arith) (omega (arith, add-mul j 1 m, add-mul q 1 k)) (omega (arith, add-mul q 1 k)),
  )

  stays_if_unmarked : (j + 1) * m ≤ q * k → ((j == q * k / m) ≡ false) × (ceil ((j + 1) * m) k ≡ q)
  stays_if_unmarked h =
      let past : j + 1 ≤ q * k / m = le-div (j + 1) (q * k) m some h in (
        ne_eqb j (q * k / m) (λ e. omega arith),
        ceil_is ((j + 1) * m) k q (omega arith) h (omega (arith, add-mul j 1 m)),
      )

-- ceil(j × m / k) rises by one at a marked job, and stays at any other.
pub even_rises : (m k j : ℕ) → 1 ≤ m → m ≤ k → (if even_marks m k j then 1 else 0) + ceil (j * m) k ≡ ceil ((j + 1) * m) k
even_rises m k j some within =
    let q = ceil (j * m) k in
    let own = div_ceil_times (j * m) k (omega arith) in
    ⊎_elim
    (λ h. let r = rises_if_marked m k j q some within own.0 own.1 h in rw r.0 (omega (arith, r.1)))
    (λ h. let r = stays_if_unmarked m k j q some within own.0 own.1 h in rw r.0 (omega (arith, r.1)))
    (cases_lt (q * k) ((j + 1) * m))

pub even_marks_of_a_stretch : EvenMarksOfAStretch
even_marks_of_a_stretch m k a n some within =
    sum_telescopes (λ j. if even_marks m k j then 1 else 0) (λ j. ceil (j * m) k) (λ j. even_rises m k j some within) a n

-- k jobs later ceil(j × m / k) is m more.
ceil_after_k : (m k j : ℕ) → 0 < k → ceil ((j + k) * m) k ≡ ceil (j * m) k + m
ceil_after_k m k j h = ap (λ n. ceil n k) (omega (arith, add-mul j k m, mul_comm k m)) ∙ ceil_more (j * m) k m h

pub even_marks_m_of_k : EvenMarksMOfK
even_marks_m_of_k m k a some within =
    omega (arith, even_marks_of_a_stretch m k a k some within, ceil_after_k m k a (omega arith))

pub even_repeats : (m k j : ℕ) → 1 ≤ m → m ≤ k → even_marks m k (j + k) ≡ even_marks m k j
even_repeats m k j some within =
    let q = ceil (j * m) k in
    let later : ceil ((j + k) * m) k * k ≡ q * k + k * m =
    ap (λ n. n * k) (ceil_after_k m k j (omega arith)) ∙ omega (arith, add-mul q m k, mul_comm k m) in
    rw (later, add-mul-div_right (q * k) k some) (grind (arith, nat_tests))

pub even_for_ever : EvenForEver
even_for_ever = ranged_for_ever (λ task m k j. even_marks m k j) (λ task m k j. even_repeats m k j)

pub even_lawful : Lawful even
even_lawful =
    ranged_lawful (λ task m k j. even_marks m k j)
    (λ task m k j. even_repeats m k j)
    (λ task m k a some within. omega (arith, even_marks_m_of_k m k a some within))
