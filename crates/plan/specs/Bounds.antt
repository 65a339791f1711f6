-- The bounds that every task and every ratio keeps, over plain numbers. Assumes nothing.
use Rattle.std.specs.Prelude.{ℕ, ◌≤◌}

-- 1 ≤ C ≤ D ≤ T ≤ 65,535, for a period T, a deadline D and a work C in ticks
abbrev pub Timed : (period deadline work : ℕ) → Type 0
Timed period deadline work = (1 ≤ work) × (work ≤ deadline) × (deadline ≤ period) × (period ≤ 65535)

-- 1 ≤ m ≤ k ≤ 32, for a task of which at least m of any k jobs in a row are mandatory
abbrev pub Constrained : (m k : ℕ) → Type 0
Constrained m k = (1 ≤ m) × (m ≤ k) × (k ≤ 32)

-- 1 ≤ q ≤ p ≤ 16, for the ratio p/q: a job takes p/q times as long at low speed
abbrev pub Geared : (p q : ℕ) → Type 0
Geared p q = (1 ≤ q) × (q ≤ p) × (p ≤ 16)
