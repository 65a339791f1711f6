-- The pending work by absolute deadline, and what a tick makes of it.
use Rattle.std.proofs.Common.{◌≡◌, ℕ, suc, ◌+◌, ◌-◌, ◌<◌, ◌≤◌, Bool, true, false, cond, ◌&&◌, eqb, ltb, leb, Some, None, Option, ⊎_elim, arith}
use Rattle.std.proofs.lemmas.Bool.Decides.{nat_tests}
use Rattle.std.proofs.lemmas.Bool.{cases_lt}
use Rattle.pattern.specs.Sum.{Sum}
use Rattle.edf.specs.System.{System, is, work_due, due}
use Rattle.edf.specs.Tick.{Counters, late, drop_late, release, serve, age, tick, choose}
use Rattle.edf.specs.Earliest.{Earliest}
use Rattle.edf.proofs.Sums.{sum_le, sum_lt, sum_none, sum_plus, one_at_most}
use Rattle.edf.proofs.Choice.{choose_earliest}

-- the work left of task i at tick n, if its deadline is at or before e
abbrev pub pending : ℕ → ℕ → Counters → ℕ → ℕ
pending e n c i = cond (leb (n + c.d i) e) (c.w i) 0

-- the work left at tick n of the first N tasks' jobs with a deadline at or before e
abbrev pub pend : ℕ → ℕ → ℕ → Counters → ℕ
pend N e n c = Sum N (pending e n c)

-- the steps at one task, over plain numbers

opening_at_most : (r : Bool) (e n w d W D : ℕ) →
    cond (leb (n + cond r D d) e) (cond r W (cond (ltb 0 w && eqb d 0) 0 w)) 0 ≤ cond (leb (n + d) e) w 0 + cond (r && leb (n + D) e) W 0
opening_at_most r e n w d W D = grind (arith, nat_tests)

opening_at_least : (r : Bool) (e n w d W D : ℕ) → (ltb 0 w && eqb d 0) ≡ false → (r ≡ true → w ≡ 0) →
    cond (leb (n + d) e) w 0 + cond (r && leb (n + D) e) W 0 ≤ cond (leb (n + cond r D d) e) (cond r W (cond (ltb 0 w && eqb d 0) 0 w)) 0
opening_at_least r e n w d W D on_time free = grind (arith, nat_tests)

aging_at_most : (b : Bool) (e n w d : ℕ) →
    cond (leb (suc n + cond (ltb 0 (cond b (w - 1) w)) (d - 1) 0) e) (cond b (w - 1) w) 0 ≤ cond (leb (n + d) e) w 0
aging_at_most b e n w d = grind (arith, nat_tests)

aging_less : (e n w d : ℕ) → 0 < w → n + d ≤ e →
    cond (leb (suc n + cond (ltb 0 (w - 1)) (d - 1) 0) e) (w - 1) 0 < cond (leb (n + d) e) w 0
aging_less e n w d busy within = grind (arith, nat_tests)

aging_at_least : (b : Bool) (e n w d : ℕ) → (0 < w → 0 < d) →
    cond (leb (n + d) e) w 0 ≤ cond (leb (suc n + cond (ltb 0 (cond b (w - 1) w)) (d - 1) 0) e) (cond b (w - 1) w) 0 + cond b 1 0
aging_at_least b e n w d alive = grind (arith, nat_tests)

-- the choice and its tick, over the counters in which the releases are open

module _ (N e n : ℕ) (o : Counters) where
  served_at_most : (k : Option ℕ) → Earliest N o k → pend N e (suc n) (age (serve k o)) ≤ pend N e n o - 1
  served_at_most None idle =
      omega (arith, sum_none N (pending e (suc n) (age (serve None o))) (λ i h. grind (arith, nat_tests, idle i h)))
  served_at_most (Some k) f =
      ⊎_elim
      (λ late. omega (
        arith,
        sum_none N (pending e n o) (λ i h. grind (arith, nat_tests, f.least i h)),
        sum_le N (pending e (suc n) (age (serve (Some k) o))) (pending e n o) (λ i h. aging_at_most (eqb k i) e n (o.w i) (o.d i)),
      ))
      (λ within. omega (
        arith,
        sum_lt N (pending e (suc n) (age (serve (Some k) o))) (pending e n o) k
            (λ i h. aging_at_most (eqb k i) e n (o.w i) (o.d i)) f.here (grind (arith, nat_tests, aging_less e n (o.w k) (o.d k) f.busy within)),
      ))
      (cases_lt e (n + o.d k))

  served_at_least : (k : Option ℕ) → ((i : ℕ) → i < N → 0 < o.w i → 0 < o.d i) → pend N e n o ≤ pend N e (suc n) (age (serve k o)) + 1
  served_at_least k alive =
      omega (
        arith,
        one_at_most N k,
        sum_plus N (pending e (suc n) (age (serve k o))) (λ i. cond (is k i) 1 0),
        sum_le N (pending e n o) (λ i. pending e (suc n) (age (serve k o)) i + cond (is k i) 1 0)
            (λ i h. aging_at_least (is k i) e n (o.w i) (o.d i) (alive i h)),
      )

-- the whole tick

module _ (S : System) (e n : ℕ) (c : Counters) where
  opened_at_most : pend S.count e n (release S n (drop_late c)) ≤ pend S.count e n c + due S e n
  opened_at_most =
      omega (
        arith,
        sum_plus S.count (pending e n c) (work_due S e n),
        sum_le S.count (pending e n (release S n (drop_late c))) (λ i. pending e n c i + work_due S e n i)
            (λ i h. opening_at_most (S.releases i n) e n (c.w i) (c.d i) (S.work i) (S.deadline i)),
      )

  pub tick_at_most : pend S.count e (suc n) (tick S n c).left ≤ (pend S.count e n c + due S e n) - 1
  unfolding tick
  tick_at_most =
      let o = release S n (drop_late c) in
      omega (arith, opened_at_most, served_at_most S.count e n o (choose S.count o) (choose_earliest o S.count))

  module _ (on_time : (i : ℕ) → i < S.count → late c i ≡ false)
      (free : (i : ℕ) → i < S.count → S.releases i n ≡ true → c.w i ≡ 0)
      (positive : (i : ℕ) → i < S.count → 0 < S.deadline i) where
    pub tick_at_least : pend S.count e n c + due S e n ≤ pend S.count e (suc n) (tick S n c).left + 1
    unfolding tick
    tick_at_least =
        let o = release S n (drop_late c) in
        omega (
          arith,
          served_at_least S.count e n o (choose S.count o)
              (λ i h. grind (arith, nat_tests, on_time i h, positive i h)),
          sum_plus S.count (pending e n c) (work_due S e n),
          sum_le S.count (λ i. pending e n c i + work_due S e n i) (pending e n o)
              (λ i h. opening_at_least (S.releases i n) e n (c.w i) (c.d i) (S.work i) (S.deadline i) (on_time i h) (free i h)),
        )
