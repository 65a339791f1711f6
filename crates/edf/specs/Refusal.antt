-- The span that a refusal names.
-- Assumes nothing.
use Rattle.std.specs.Prelude.{◌≡◌, ℕ, zero, suc, ◌-◌, ◌≤◌, Bool, true, false, ◌&&◌, ◌↔◌, Some, None, Option, nat_lt}
use Rattle.edf.specs.System.{System, Exceeds, Overloaded, span_work}

-- The span is overloaded; of all overloaded spans none ends earlier, and none that ends there starts later.
pub record FirstExcess (work : ℕ → ℕ → ℕ) (s e : ℕ) : Type 0 where
  pub overloaded : Exceeds work s e
  pub first_end : (s' e' : ℕ) → Exceeds work s' e' → e ≤ e'
  pub last_start : (s' : ℕ) → Exceeds work s' e → s' ≤ s

abbrev pub First : System → ℕ → ℕ → Type 0
First S = FirstExcess (span_work S)

pub record Span : Type 0 where
  pub from : ℕ
  pub to : ℕ

abbrev pub overloads : System → ℕ → ℕ → Bool
overloads S s e = nat_lt s e && nat_lt (e - s) (span_work S s e)

-- The last tick below n from which the span to e is overloaded.
unfoldable pub start_below : System → ℕ → ℕ → Option ℕ
start_below S e zero = None
start_below S e (suc n) = elim (overloads S n e) [ true ↦ Some n | false ↦ start_below S e n ]

abbrev pub ending_at : ℕ → Option ℕ → Option Span
ending_at e None = None
ending_at e (Some s) = Some (record { from = s; to = e })

-- The refused span, if one ends at or before b: the last start for the first end that has one.
unfoldable pub refused : System → ℕ → Option Span
refused S zero = None
refused S (suc b) = elim (refused S b) [ Some x ↦ Some x | None ↦ ending_at (suc b) (start_below S (suc b) (suc b)) ]

-- The refused span is the only one that is First, and there is none exactly if no span is overloaded.
pub record RefusedIsFirst : Type 0 where
  pub found : (S : System) (b s e : ℕ) → (First S s e × (e ≤ b)) ↔ (refused S b ≡ Some (record { from = s; to = e }))
  pub none : (S : System) (b : ℕ) → ((s e : ℕ) → e ≤ b → Overloaded S s e → ⊥) ↔ (refused S b ≡ None)
