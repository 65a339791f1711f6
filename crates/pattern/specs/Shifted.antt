-- The marks of the policy Shifted, those of Even moved by a shift of each task's own. Assumes nothing.
use Rattle.std.specs.Prelude.{◌≡◌, ℕ, ◌+◌, ◌≤◌, Bool, true, List, slice_index}
use Rattle.pattern.specs.Policy.{Meaning, in_range, ranged, marks, mandatory}
use Rattle.pattern.specs.Even.{even_marks}

-- Job j of a task is marked exactly if Even marks job j + the task's shift.
abbrev pub shifted_marks : List ℕ → (task m k j : ℕ) → Bool
shifted_marks shifts task m k j = even_marks m k (j + slice_index shifts task)

abbrev pub shifted : List ℕ → Meaning
shifted shifts = ranged (shifted_marks shifts)

-- The rule holds of every mandatory job, also from 2^32 on.
abbrev pub ShiftedForEver : Type 0
ShiftedForEver = (shifts : List ℕ) (task m k j : ℕ) → in_range task m k ≡ true → mandatory (shifted shifts) task m k j ≡ shifted_marks shifts task m k j

-- Any k jobs in a row hold exactly m marks.
abbrev pub ShiftedMarksMOfK : Type 0
ShiftedMarksMOfK = (shifts : List ℕ) (task m k a : ℕ) → 1 ≤ m → m ≤ k → marks (shifted_marks shifts task m k) a k ≡ m
