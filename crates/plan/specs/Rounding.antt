-- Quotients that are rounded up. Assumes nothing.
use Rattle.std.specs.Prelude.{ℕ, ◌+◌, ◌/◌, ◌%◌, min}

-- n / d rounded up: one more than the quotient if something remains
abbrev pub ceil : (n d : ℕ) → ℕ
ceil n d = n / d + min 1 (n % d)
