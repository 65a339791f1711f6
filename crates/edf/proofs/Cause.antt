-- Work that is still open at its deadline has an overloaded span that ends there, after any ticks and done reports.
use Rattle.std.proofs.Common.{◌≡◌, ℕ, zero, suc, ◌+◌, ◌<◌, ◌≤◌, Bool, true, cond, ◌&&◌, eqb, ltb, leb, Option, ⊎_elim, arith}
use Rattle.std.proofs.lemmas.Bool.Decides.{nat_tests}
use Rattle.std.proofs.lemmas.Bool.{cases_lt}
use Rattle.edf.specs.System.{System, is, due, Overloaded}
use Rattle.edf.specs.Tick.{Counters, late, tick}
use Rattle.edf.specs.Run.{Reports, done, trace}
use Rattle.edf.proofs.Sums.{sum_le, sum_lt, sum_none}
use Rattle.edf.proofs.Pending.{pending, pend, tick_at_most}
use Rattle.edf.proofs.Spans.{upto, excess_overloads}

pub done_at_most : (N e n : ℕ) (o : Option ℕ) (c : Counters) → pend N e n (done o c) ≤ pend N e n c
done_at_most N e n o c = sum_le N (pending e n (done o c)) (pending e n c) (λ i h. closing (is o i) (c.w i) (c.d i))
  where
    closing : (b : Bool) (w d : ℕ) → cond (leb (n + cond b 0 d) e) (cond b 0 w) 0 ≤ cond (leb (n + d) e) w 0
    closing b w d = grind (arith, nat_tests)

pub late_pends : (N n : ℕ) (c : Counters) (i : ℕ) → i < N → late c i ≡ true → 0 < pend N n n c
late_pends N n c i h l =
    omega (arith, sum_lt N (λ _. 0) (pending n n c) i (λ _ _. omega arith) h (open_work (c.w i) (c.d i) l))
  where
    open_work : (w d : ℕ) → (ltb 0 w && eqb d 0) ≡ true → 0 < cond (leb (n + d) n) w 0
    open_work w d l = grind (arith, nat_tests)

module _ (S : System) where
  -- the pending work is at most what was released from some tick s on, less a tick for each that passed since
  abbrev pub Accounted : ℕ → ℕ → Counters → Type 0
  Accounted e n c = (s : ℕ) × (s ≤ n) × (pend S.count e n c + upto S e s + n ≤ upto S e n + s)

  tick_accounted : (e n : ℕ) (c : Counters) → Accounted e n c → Accounted e (suc n) (tick S n c).left
  tick_accounted e n c (s, early, less) =
      let fall = tick_at_most S e n c in
      ⊎_elim
      (λ some. (s, omega arith, omega arith))
      (λ none. (suc n, omega arith, omega arith))
      (cases_lt 0 (pend S.count e n c + due S e n))

  pub accounted : (told : Reports) (e n : ℕ) → Accounted e n (trace S told n)
  unfolding trace
  accounted told e zero = (0, omega arith, omega (arith, sum_none S.count (pending e 0 (trace S told 0)) (λ i h. grind (arith, nat_tests))))
  accounted told e (suc n) =
      let t = tick_accounted e n (trace S told n) (accounted told e n) in
      (t.0, t.1, omega (arith, t.2, done_at_most S.count e (suc n) (told n) (tick S n (trace S told n)).left))

  pending_overloads : (n : ℕ) (c : Counters) → Accounted n n c → 0 < pend S.count n n c → (s : ℕ) × Overloaded S s n
  pending_overloads n c (s, early, less) some = (s, excess_overloads S s n early (omega arith))

  -- also before the done report that follows the tick
  pub left_overloads : (told : Reports) (n : ℕ) → 0 < pend S.count (suc n) (suc n) (tick S n (trace S told n)).left → (s : ℕ) × Overloaded S s (suc n)
  left_overloads told n = pending_overloads (suc n) (tick S n (trace S told n)).left (tick_accounted (suc n) n (trace S told n) (accounted told (suc n) n))

  pub late_overloads : (told : Reports) (n i : ℕ) → i < S.count → late (trace S told n) i ≡ true → (s : ℕ) × Overloaded S s n
  late_overloads told n i h l = pending_overloads n (trace S told n) (accounted told n n) (late_pends S.count n (trace S told n) i h l)
