-- The task that a tick should serve: the one whose deadline comes first.
-- Assumes nothing.
use Rattle.std.specs.Prelude.{◌≡◌, ℕ, ◌<◌, ◌≤◌, ◌↔◌, Some, None, Option}
use Rattle.edf.specs.Tick.{Counters, choose}

-- Of the tasks below n, k has work left; none with work left has fewer ticks left; none with as few has a lower number.
pub record Foremost (n : ℕ) (c : Counters) (k : ℕ) : Type 0 where
  pub here : k < n
  pub busy : 0 < c.w k
  pub least : (i : ℕ) → i < n → 0 < c.w i → c.d k ≤ c.d i
  pub lowest : (i : ℕ) → i < n → 0 < c.w i → c.d i ≡ c.d k → k ≤ i

-- The right choice among the tasks below n: nobody exactly if nobody has work left.
abbrev pub Earliest : ℕ → Counters → Option ℕ → Type 0
Earliest n c None = (i : ℕ) → i < n → c.w i ≡ 0
Earliest n c (Some k) = Foremost n c k

-- The chosen task is the right choice, and no other is.
abbrev pub ChosenIsEarliest : Type 0
ChosenIsEarliest = (n : ℕ) (c : Counters) (o : Option ℕ) → Earliest n c o ↔ (o ≡ choose n c)
