-- What a pattern policy means, the laws of its meaning, and which jobs are mandatory under it. Assumes nothing.
use Rattle.std.specs.Prelude.{◌≡◌, ℕ, ◌+◌, ◌%◌, ◌^◌, ◌<◌, ◌≤◌, Bool, true, false, ◌&&◌, nat_le, if◌then◌else◌, IsTrue, ◌↔◌}
use Rattle.pattern.specs.Sum.{Sum}

-- Of a task number, m and k: after how many jobs the marks repeat, and whether a job is marked.
pub record Meaning : Type 0 where
  pub length : (task m k : ℕ) → ℕ
  pub mark : (task m k job : ℕ) → Bool

-- The task numbers and (m,k) constraints that a policy has to serve: tasks 0 to 29, and 1 ≤ m ≤ k ≤ 32.
abbrev pub in_range : (task m k : ℕ) → Bool
in_range task m k = nat_le task 29 && nat_le 1 m && nat_le m k && nat_le k 32

-- How many of the n jobs from job a on are marked.
abbrev pub marks : (ℕ → Bool) → (a n : ℕ) → ℕ
marks marked a n = Sum n (λ i. if marked (a + i) then 1 else 0)

-- What every policy owes. A job number has 32 bits, and no law speaks of a mark from 2^32 on.
pub record Lawful (p : Meaning) : Type 0 where
  -- the length is 1 to 64, whatever is asked
  pub some : (task m k : ℕ) → 1 ≤ p.length task m k
  pub short : (task m k : ℕ) → p.length task m k ≤ 64
  -- in range, job j + L is marked exactly if job j is
  pub repeats : (task m k j : ℕ) → in_range task m k ≡ true → j + p.length task m k < 2 ^ 32 → p.mark task m k (j + p.length task m k) ≡ p.mark task m k j
  -- in range, any k jobs in a row hold at least m marks
  pub enough : (task m k a : ℕ) → in_range task m k ≡ true → a + k ≤ 2 ^ 32 → m ≤ marks (p.mark task m k) a k
  -- out of range, the length is 1 and no job is marked
  pub one : (task m k : ℕ) → in_range task m k ≡ false → p.length task m k ≡ 1
  pub none : (task m k j : ℕ) → in_range task m k ≡ false → j < 2 ^ 32 → p.mark task m k j ≡ false

-- The policy that has in range the length k and these marks, and out of range the length 1 and no mark.
abbrev pub ranged : ((task m k job : ℕ) → Bool) → Meaning
ranged marked = record { length = λ task m k. if in_range task m k then k else 1; mark = λ task m k job. in_range task m k && marked task m k job }

-- Whether job j is mandatory, for every j: from 2^32 on the marks go on repeating by the length.
abbrev pub mandatory : Meaning → (task m k j : ℕ) → Bool
mandatory p task m k j = p.mark task m k (j % p.length task m k)

-- The test in_range is that of the four bounds.
abbrev pub InRangeDecides : Type 0
InRangeDecides = (task m k : ℕ) → IsTrue (in_range task m k) ↔ ((task ≤ 29) × (1 ≤ m) × (m ≤ k) × (k ≤ 32))

-- Below 2^32 the mandatory jobs are the marked ones.
abbrev pub MandatoryAreMarked : Type 0
MandatoryAreMarked = (p : Meaning) → Lawful p → (task m k j : ℕ) → j < 2 ^ 32 → mandatory p task m k j ≡ p.mark task m k j

-- Job j + L is mandatory exactly if job j is, for every j.
abbrev pub RepeatsForEver : Type 0
RepeatsForEver = (p : Meaning) → Lawful p → (task m k j : ℕ) → mandatory p task m k (j + p.length task m k) ≡ mandatory p task m k j

-- In range, at least m of any k jobs in a row are mandatory, wherever they begin.
abbrev pub EnoughAnywhere : Type 0
EnoughAnywhere = (p : Meaning) → Lawful p → (task m k a : ℕ) → in_range task m k ≡ true → m ≤ marks (mandatory p task m k) a k

-- Out of range no job is mandatory.
abbrev pub NoneOutside : Type 0
NoneOutside = (p : Meaning) → Lawful p → (task m k j : ℕ) → in_range task m k ≡ false → mandatory p task m k j ≡ false
