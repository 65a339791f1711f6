-- Systems whose releases repeat, and what one cycle of theirs decides.
-- Assumes nothing.
use Rattle.std.specs.Prelude.{◌≡◌, ℕ, ◌+◌, ◌*◌, ◌%◌, ◌<◌, ◌≤◌, true, ◌↔◌, Some, None}
use Rattle.edf.specs.System.{System, Sound, Overloaded, NeverOverloaded}
use Rattle.edf.specs.Tick.{drop_late}
use Rattle.edf.specs.Run.{Reports, silent, trace, who, Misses}
use Rattle.edf.specs.Reading.{SameBelow}
use Rattle.edf.specs.Refusal.{First, refused}

-- The releases repeat by H, and the deadlines of the jobs released in the first cycle are at or before its end.
pub record Periodic (S : System) (H : ℕ) : Type 0 where
  pub proper : 0 < H
  pub repeats : (i u : ℕ) → i < S.count → S.releases i (u + H) ≡ S.releases i u
  pub within : (i u : ℕ) → i < S.count → u < H → S.releases i u ≡ true → u + S.deadline i ≤ H

-- What is released at a tick is what is released at its position in the cycle.
abbrev pub PositionTellsReleases : Type 0
PositionTellsReleases = (S : System) (H : ℕ) → Periodic S H → (i n : ℕ) → i < S.count → S.releases i n ≡ S.releases i (n % H)

-- If some span is overloaded, one within the first cycle is, and it ends no later.
abbrev pub OneCycleIsEnough : Type 0
OneCycleIsEnough = (S : System) (H : ℕ) → Periodic S H → (s e : ℕ) → Overloaded S s e →
    (s' : ℕ) × (e' : ℕ) × (e' ≤ H) × (e' ≤ e) × Overloaded S s' e'

-- So a look at the spans of one cycle finds the refused span, and finds none exactly if no span is overloaded.
pub record CycleDecides : Type 0 where
  pub refuses : (S : System) (H : ℕ) → Periodic S H → (s e : ℕ) → First S s e ↔ (refused S H ≡ Some (record { from = s; to = e }))
  pub admits : (S : System) (H : ℕ) → Periodic S H → NeverOverloaded S ↔ (refused S H ≡ None)

-- Running the steps through one cycle, its end included, meets a late task exactly if some span is overloaded,
-- and first where the refused span ends.
pub record CycleRunDecides : Type 0 where
  pub late : (S : System) (H : ℕ) → Sound S → Periodic S H →
      ((n : ℕ) × (n ≤ H) × Misses S silent n) ↔ ((s : ℕ) × (e : ℕ) × Overloaded S s e)
  pub first : (S : System) (H : ℕ) → Sound S → Periodic S H → (s e : ℕ) → First S s e →
      (e ≤ H) × Misses S silent e × ((n : ℕ) → n < e → Misses S silent n → ⊥)

-- At every multiple of the cycle, once step 1 has dropped the late, nothing is open: after any ticks and done reports.
abbrev pub CycleEndsEmpty : Type 0
CycleEndsEmpty = (S : System) (H : ℕ) → Sound S → Periodic S H → (told : Reports) (q i : ℕ) → i < S.count →
    ((drop_late (trace S told (q * H))).w i ≡ 0) × ((drop_late (trace S told (q * H))).d i ≡ 0)

-- Where no span is overloaded, a run without done reports repeats by the cycle.
pub record RunRepeats : Type 0 where
  pub counters : (S : System) (H : ℕ) → Sound S → Periodic S H → NeverOverloaded S → (n : ℕ) →
      SameBelow S.count (trace S silent (n + H)) (trace S silent n)
  pub served : (S : System) (H : ℕ) → Sound S → Periodic S H → NeverOverloaded S → (n : ℕ) →
      who S silent (n + H) ≡ who S silent n
