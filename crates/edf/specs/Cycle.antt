-- The cycle: the least number that each of the given numbers divides.
-- Assumes nothing.
use Rattle.std.specs.Prelude.{◌≡◌, ℕ, zero, suc, ◌*◌, ◌/◌, ◌%◌, ◌<◌, ◌≤◌, ◌↔◌}
use Rattle.std.specs.Int.{◌∣◌}

pub record Least (P : ℕ → Type 0) (h : ℕ) : Type 0 where
  pub positive : 0 < h
  pub holds : P h
  pub least : (g : ℕ) → 0 < g → P g → h ≤ g

-- h is the cycle of f 0 to f (n − 1): their least common multiple, and 1 if there are none.
abbrev pub Cycle : ℕ → (ℕ → ℕ) → ℕ → Type 0
Cycle n f = Least (λ h. (i : ℕ) → i < n → f i ∣ h)

-- h is the least common multiple of a and b.
abbrev pub Common : ℕ → ℕ → ℕ → Type 0
Common a b = Least (λ h. (a ∣ h) × (b ∣ h))

-- Euclid's rule, in at most k steps; b of them are enough.
unfoldable pub gcd_in : ℕ → ℕ → ℕ → ℕ
gcd_in zero a b = a
gcd_in (suc k) a zero = a
gcd_in (suc k) a (suc b) = gcd_in k (suc b) (a % suc b)

abbrev pub lcm : ℕ → ℕ → ℕ
lcm a b = a / gcd_in b a b * b

-- The cycle, one number after the other.
unfoldable pub cycle : ℕ → (ℕ → ℕ) → ℕ
cycle zero f = 1
cycle (suc n) f = lcm (cycle n f) (f n)

pub record CycleFound : Type 0 where
  -- of positive numbers there is one cycle, and it is the one that is computed
  pub only : (n : ℕ) (f : ℕ → ℕ) → ((i : ℕ) → i < n → 0 < f i) → (h : ℕ) → Cycle n f h ↔ (h ≡ cycle n f)
  -- of two positive numbers there is one least common multiple, and it is the one that is computed
  pub pair : (a b : ℕ) → 0 < a → 0 < b → (h : ℕ) → Common a b h ↔ (h ≡ lcm a b)
  -- one more number: the least common multiple of the cycle so far and that number
  pub grows : (n : ℕ) (f : ℕ → ℕ) (g : ℕ) → Cycle n f g → (h : ℕ) → Cycle (suc n) f h ↔ Common g (f n) h
  -- a common multiple is a multiple of the cycle
  pub divides : (n : ℕ) (f : ℕ → ℕ) (h : ℕ) → Cycle n f h → (m : ℕ) → ((i : ℕ) → i < n → f i ∣ m) → h ∣ m
  -- a cycle so far that exceeds a limit decides: the whole cycle exceeds it too
  pub decides : (m n : ℕ) (f : ℕ → ℕ) (g h limit : ℕ) → m ≤ n → Cycle m f g → Cycle n f h → limit < g → limit < h
