-- When the run is on time, and where it first is not.
-- Assumes nothing.
use Rattle.std.specs.Prelude.{◌≡◌, ℕ, ◌<◌, ◌≤◌, ◌↔◌, Some}
use Rattle.edf.specs.System.{System, Sound, Overloaded, NeverOverloaded}
use Rattle.edf.specs.Run.{Reports, silent, Misses}
use Rattle.edf.specs.Refusal.{First, start_below}

-- A task is late only at the end of an overloaded span, after any ticks and done reports.
abbrev pub LateHasCause : Type 0
LateHasCause = (S : System) (told : Reports) (n : ℕ) → Misses S told n → (s : ℕ) × Overloaded S s n

-- Where no span is overloaded, nobody is ever late, after any ticks and done reports.
abbrev pub NeverLate : Type 0
NeverLate = (S : System) → NeverOverloaded S → (told : Reports) (n : ℕ) → Misses S told n → ⊥

-- Without done reports, the first late task shows at the smallest end of an overloaded span.
abbrev pub FirstMiss : Type 0
FirstMiss = (S : System) → Sound S → (e : ℕ) →
    (Misses S silent e × ((n : ℕ) → n < e → Misses S silent n → ⊥))
    ↔ (((s : ℕ) × Overloaded S s e) × ((s f : ℕ) → Overloaded S s f → e ≤ f))

-- As long as nobody was late, no overloaded span has ended.
abbrev pub OnTimeSoFar : Type 0
OnTimeSoFar = (S : System) → Sound S → (e : ℕ) → ((n : ℕ) → n ≤ e → Misses S silent n → ⊥) →
    (s f : ℕ) → f ≤ e → Overloaded S s f → ⊥

-- Where the first late task shows, the last start of an overloaded span to there gives the span that a refusal names.
abbrev pub MissNamesRefused : Type 0
MissNamesRefused = (S : System) → Sound S → (e : ℕ) → Misses S silent e → ((n : ℕ) → n < e → Misses S silent n → ⊥) →
    (s : ℕ) × (start_below S e e ≡ Some s) × First S s e
