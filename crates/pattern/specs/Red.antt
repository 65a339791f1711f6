-- The marks of the policy Red, the first m of every k jobs. Assumes nothing.
use Rattle.std.specs.Prelude.{◌≡◌, ℕ, ◌%◌, ◌≤◌, Bool, true, nat_lt}
use Rattle.pattern.specs.Policy.{Meaning, in_range, ranged, marks, mandatory}

-- Job j is marked exactly if j mod k < m.
abbrev pub red_marks : (m k j : ℕ) → Bool
red_marks m k j = nat_lt (j % k) m

abbrev pub red : Meaning
red = ranged (λ task m k j. red_marks m k j)

-- The rule holds of every mandatory job, also from 2^32 on.
abbrev pub RedForEver : Type 0
RedForEver = (task m k j : ℕ) → in_range task m k ≡ true → mandatory red task m k j ≡ red_marks m k j

-- Any k jobs in a row hold exactly m marks.
abbrev pub RedMarksMOfK : Type 0
RedMarksMOfK = (m k a : ℕ) → 1 ≤ m → m ≤ k → marks (red_marks m k) a k ≡ m
