-- How the marks of Shifted come from those of Even, and that Shifted is lawful. Assumes nothing.
use Rattle.std.specs.Prelude.{◌≡◌, ℕ, ◌+◌, ◌≤◌, List, slice_index}
use Rattle.std.proofs.Common.{ap, ◌∙◌, arith}
use Rattle.pattern.specs.Policy.{Lawful}
use Rattle.pattern.specs.Even.{even_marks}
use Rattle.pattern.specs.Shifted.{shifted_marks, shifted, ShiftedForEver, ShiftedMarksMOfK}
use Rattle.pattern.specs.Sums.{marks_same}
use Rattle.pattern.specs.Ranges.{ranged_for_ever, ranged_lawful}
use Rattle.pattern.specs.Evens.{even_marks_m_of_k, even_repeats}

shifted_repeats : (shifts : List ℕ) (task m k j : ℕ) → 1 ≤ m → m ≤ k → shifted_marks shifts task m k (j + k) ≡ shifted_marks shifts task m k j
shifted_repeats shifts task m k j some within =
    ap (even_marks m k) (omega arith) ∙ even_repeats m k (j + slice_index shifts task) some within

pub shifted_marks_m_of_k : ShiftedMarksMOfK
shifted_marks_m_of_k shifts task m k a some within =
    let from = a + slice_index shifts task in
    marks_same (shifted_marks shifts task m k) (even_marks m k) a from k (λ i _. ap (even_marks m k) (omega arith))
    ∙ even_marks_m_of_k m k from some within

pub shifted_for_ever : ShiftedForEver
shifted_for_ever shifts = ranged_for_ever (shifted_marks shifts) (shifted_repeats shifts)

pub shifted_lawful : (shifts : List ℕ) → Lawful (shifted shifts)
shifted_lawful shifts =
    ranged_lawful (shifted_marks shifts)
    (shifted_repeats shifts)
    (λ task m k a some within. omega (arith, shifted_marks_m_of_k shifts task m k a some within))
