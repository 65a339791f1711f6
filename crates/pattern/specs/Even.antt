-- The marks of the policy Even, Ramanathan's partition, and how many there are in a stretch of jobs. Assumes nothing.
use Rattle.std.specs.Prelude.{◌≡◌, ℕ, ◌+◌, ◌*◌, ◌/◌, ◌≤◌, Bool, true, ◌==◌}
use Rattle.plan.specs.Rounding.{ceil}
use Rattle.pattern.specs.Policy.{Meaning, in_range, ranged, marks, mandatory}

-- Job j is marked exactly if j = floor(ceil(j × m / k) × k / m).
abbrev pub even_marks : (m k j : ℕ) → Bool
even_marks m k j = j == ceil (j * m) k * k / m

abbrev pub even : Meaning
even = ranged (λ task m k j. even_marks m k j)

-- The rule holds of every mandatory job, also from 2^32 on.
abbrev pub EvenForEver : Type 0
EvenForEver = (task m k j : ℕ) → in_range task m k ≡ true → mandatory even task m k j ≡ even_marks m k j

-- The marks among the n jobs from job a on are ceil((a + n) × m / k) − ceil(a × m / k).
abbrev pub EvenMarksOfAStretch : Type 0
EvenMarksOfAStretch = (m k a n : ℕ) → 1 ≤ m → m ≤ k → marks (even_marks m k) a n + ceil (a * m) k ≡ ceil ((a + n) * m) k

-- Any k jobs in a row hold exactly m marks.
abbrev pub EvenMarksMOfK : Type 0
EvenMarksMOfK = (m k a : ℕ) → 1 ≤ m → m ≤ k → marks (even_marks m k) a k ≡ m
