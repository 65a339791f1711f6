-- The run of ticks and accepted done reports from cleared counters.
-- Assumes nothing.
use Rattle.std.specs.Prelude.{◌≡◌, ℕ, zero, suc, ◌<◌, true, cond, Some, None, Option}
use Rattle.edf.specs.System.{System, Timetable, is}
use Rattle.edf.specs.Tick.{Counters, tick}

-- The task whose done report was accepted between ticks n and n + 1, if any.
abbrev pub Reports : Type 0
Reports = ℕ → Option ℕ

abbrev pub silent : Reports
silent n = None

abbrev pub cleared : Counters
cleared = record { w = λ i. 0; d = λ i. 0 }

-- A done report closes the job of its task.
abbrev pub done : Option ℕ → Counters → Counters
done o c = record { w = λ i. cond (is o i) 0 (c.w i); d = λ i. cond (is o i) 0 (c.d i) }

-- The counters before tick n.
unfoldable pub trace : System → Reports → ℕ → Counters
trace S told zero = cleared
trace S told (suc n) = done (told n) (tick S n (trace S told n)).left

-- Whom each tick serves.
abbrev pub who : System → Reports → Timetable
who S told n = (tick S n (trace S told n)).served

-- Tick n reports a task late.
abbrev pub Misses : System → Reports → ℕ → Type 0
Misses S told n = (i : ℕ) × (i < S.count) × ((tick S n (trace S told n)).missed i ≡ true)

-- Each report accepted is of the task that the tick before it served, and the task has work left.
abbrev pub Proper : System → Reports → Type 0
Proper S told = (n i : ℕ) → told n ≡ Some i → (who S told n ≡ Some i) × (0 < (tick S n (trace S told n)).left.w i)
