-- The finite sum, over jobs here and over ticks and tasks elsewhere. Assumes nothing.
use Rattle.std.specs.Prelude.{ℕ, zero, suc, ◌+◌}

-- Sum n f is f 0 + f 1 + … + f (n − 1).
abbrev pub Sum : ℕ → (ℕ → ℕ) → ℕ
Sum zero f = 0
Sum (suc n) f = Sum n f + f n
