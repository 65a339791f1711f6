-- What a tick, a run and the word met read, and so what each does not depend on.
-- Assumes nothing.
use Rattle.std.specs.Prelude.{◌≡◌, ℕ, ◌+◌, ◌<◌, ◌≤◌}
use Rattle.edf.specs.System.{System, Timetable}
use Rattle.edf.specs.Tick.{Counters, Answer, tick}
use Rattle.edf.specs.Run.{Reports, trace}
use Rattle.edf.specs.Jobs.{met}

-- The counters of the tasks below n are the same.
abbrev pub SameBelow : ℕ → Counters → Counters → Type 0
SameBelow n c c' = (i : ℕ) → i < n → (c.w i ≡ c'.w i) × (c.d i ≡ c'.d i)

-- The answers are the same, as far as they speak of the tasks below n.
pub record SameAnswer (n : ℕ) (a b : Answer) : Type 0 where
  pub served : a.served ≡ b.served
  pub finished : a.finished ≡ b.finished
  pub missed : (i : ℕ) → i < n → a.missed i ≡ b.missed i
  pub left : SameBelow n a.left b.left

-- Ticks at which the same tasks release, from the same counters, answer the same: the number of a tick tells nothing else.
abbrev pub TickReads : Type 0
TickReads = (S : System) (n n' : ℕ) (c c' : Counters) →
    ((i : ℕ) → i < S.count → S.releases i n ≡ S.releases i n') → SameBelow S.count c c' →
    SameAnswer S.count (tick S n c) (tick S n' c')

-- The counters before tick n depend only on the done reports before it.
abbrev pub TraceReads : Type 0
TraceReads = (S : System) (told told' : Reports) (n : ℕ) → ((m : ℕ) → m < n → told m ≡ told' m) → trace S told n ≡ trace S told' n

-- Whether a job is met depends only on the ticks and the done reports from its release to its deadline.
abbrev pub MetReads : Type 0
MetReads = (S : System) (served served' : Timetable) (told told' : Reports) (i u : ℕ) →
    ((n : ℕ) → u ≤ n → n < u + S.deadline i → (served n ≡ served' n) × (told n ≡ told' n)) →
    met S served told i u ≡ met S served' told' i u
