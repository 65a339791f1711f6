-- Without done reports the first late task shows where the first overloaded span ends.
use Rattle.std.proofs.Common.{◌≡◌, ℕ, zero, suc, ◌+◌, ◌<◌, ◌≤◌, true, false, cond, ◌&&◌, eqb, ltb, leb, ◌⊎◌, ap, inl, inr, ⊎_elim, arith}
use Rattle.std.proofs.lemmas.Bool.Decides.{nat_tests}
use Rattle.std.proofs.lemmas.Bool.{cases_lt, cases_Bool, both_ways}
use Rattle.edf.proofs.Below.{some_below, below_suc}
use Rattle.edf.specs.System.{System, Sound}
use Rattle.edf.specs.Tick.{late, tick}
use Rattle.edf.specs.Run.{Reports, silent, trace, Misses}
use Rattle.edf.specs.Timeliness.{LateHasCause, NeverLate, FirstMiss, OnTimeSoFar}
use Rattle.edf.proofs.Sums.{sum_some}
use Rattle.edf.proofs.Pending.{pending, pend, tick_at_least}
use Rattle.edf.proofs.Spans.{upto, overloaded_excess}
use Rattle.edf.proofs.Cause.{late_overloads}
use Rattle.edf.proofs.Owner.{free_at_release}

pub late_has_cause : LateHasCause
unfolding tick
late_has_cause S told n (i, h, l) = late_overloads S told n i h l

pub never_late : NeverLate
never_late S fits told n m = let o = late_has_cause S told n m in fits o.0 n o.1

pub on_time : (S : System) (told : Reports) (n : ℕ) → (Misses S told n → ⊥) → (i : ℕ) → i < S.count → late (trace S told n) i ≡ false
unfolding tick
on_time S told n none i h = ⊎_elim (λ t. absurd (none (i, h, t))) (λ f. f) (cases_Bool (late (trace S told n) i))

misses_decided : (S : System) (told : Reports) (n : ℕ) → Misses S told n ⊎ (Misses S told n → ⊥)
misses_decided S told n =
    ⊎_elim inl (λ none. inr (λ m. both_ways _ (none m.0 m.1) m.2)) (some_below (tick S n (trace S told n)).missed S.count)

module _ (S : System) (sound : Sound S) where
  -- the pending work is at least what was released from any tick s on, less a tick for each that passed since
  at_least : (e n : ℕ) → ((m : ℕ) → m < n → Misses S silent m → ⊥) → (s : ℕ) → s ≤ n →
      upto S e n + s ≤ pend S.count e n (trace S silent n) + upto S e s + n
  unfolding trace
  at_least e zero none s h = omega arith
  at_least e (suc n) none s h =
      let c = trace S silent n in
      let punctual = on_time S silent n (none n (omega arith)) in
      ⊎_elim
      (λ l. omega (
        arith,
        at_least e n (λ m less. none m (omega arith)) s (omega arith),
        tick_at_least S e n c punctual (λ i k. free_at_release S sound silent n i k (punctual i k)) sound.positive,
      ))
      (λ l. let same : s ≡ suc n = omega arith in omega (arith, ap (upto S e) same))
      (cases_lt s (suc n))

  pending_misses : (n : ℕ) → 0 < pend S.count n n (trace S silent n) → Misses S silent n
  unfolding tick
  pending_misses n some =
      let c = trace S silent n in
      let (i, h, l) = sum_some S.count (pending n n c) some in
      (i, h, no_ticks_left (c.w i) (c.d i) l)
    where
      no_ticks_left : (w d : ℕ) → 0 < cond (leb (n + d) n) w 0 → (ltb 0 w && eqb d 0) ≡ true
      no_ticks_left w d l = grind (arith, nat_tests)

pub on_time_so_far : OnTimeSoFar
on_time_so_far S sound e none s f h over =
    none f h (pending_misses S sound f (omega (
      arith,
      overloaded_excess S s f over,
      over.proper,
      at_least S sound f f (λ m l. none m (omega arith)) s (omega (arith, over.proper)),
    )))

pub first_miss : FirstMiss
first_miss S sound e = (
  λ m. (late_has_cause S silent e m.0, λ s f over. ⊎_elim (λ l. absurd (on_time_so_far S sound f (λ n h. m.1 n (omega arith)) s f (omega arith) over)) (λ l. l) (cases_lt f e)),
  λ o.
      let before : (n : ℕ) → n < e → Misses S silent n → ⊥ =
      λ n l m. let c = late_has_cause S silent n m in omega (arith, o.1 c.0 n c.1) in
      (⊎_elim (λ m. m) (λ none. absurd (on_time_so_far S sound e (λ n h. up_to before none n h) o.0.0 e (omega arith) o.0.1)) (misses_decided S silent e), before),
)
  where
    up_to : ((n : ℕ) → n < e → Misses S silent n → ⊥) → (Misses S silent e → ⊥) → (n : ℕ) → n ≤ e → Misses S silent n → ⊥
    up_to before here n h = below_suc (λ m. Misses S silent m → ⊥) e before here n (omega arith)
