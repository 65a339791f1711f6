-- Open work belongs to a released job whose deadline is where the ticks left end.
use Rattle.std.proofs.Common.{◌≡◌, ℕ, zero, suc, ◌+◌, ◌-◌, ◌<◌, Bool, true, false, cond, ◌&&◌, eqb, ltb, Option, ◌∙◌, ⊎_elim, not-suc-le-zero, arith}
use Rattle.std.proofs.lemmas.Bool.Decides.{nat_tests}
use Rattle.std.proofs.lemmas.Bool.{cases_lt, cases_Bool, cond-true, cond-false}
use Rattle.edf.specs.System.{System, Sound, is}
use Rattle.edf.specs.Tick.{Counters, late, drop_late, release, tick, choose}
use Rattle.edf.specs.Run.{Reports, done, trace}

-- one task's work and ticks left after a tick are those of the job released just now, or of the one that was open
life : (r b : Bool) (n w d W D : ℕ) → 0 < D →
    let v = cond r W (cond (ltb 0 w && eqb d 0) 0 w) in
    let left = cond (ltb 0 (cond b (v - 1) v)) (cond r D d - 1) 0 in
    0 < cond b (v - 1) v →
    (r ≡ true → n + D ≡ suc n + left) × (r ≡ false → 0 < w) × (r ≡ false → n + d ≡ suc n + left)
life r b n w d W D positive busy = (grind (arith, nat_tests), grind (arith, nat_tests), grind (arith, nat_tests))

module _ (S : System) (sound : Sound S) where
  -- the work that task i has left at tick n belongs to a job whose deadline is n + d
  abbrev pub Owned : ℕ → Counters → ℕ → Type 0
  Owned n c i = 0 < c.w i → (u : ℕ) × (u < n) × (S.releases i u ≡ true) × (u + S.deadline i ≡ n + c.d i)

  pub tick_owned : (n : ℕ) (c : Counters) (i : ℕ) → i < S.count → Owned n c i → Owned (suc n) (tick S n c).left i
  unfolding tick
  tick_owned n c i h old busy =
      let b = is (choose S.count (release S n (drop_late c))) i in
      let l = life (S.releases i n) b n (c.w i) (c.d i) (S.work i) (S.deadline i) (sound.positive i h) busy in
      ⊎_elim
      (λ new. (n, omega arith, new, l.0 new))
      (λ kept. let u = old (l.1 kept) in (u.0, omega (arith, u.1), u.2, u.3 ∙ l.2 kept))
      (cases_Bool (S.releases i n))

  done_owned : (n : ℕ) (o : Option ℕ) (c : Counters) (i : ℕ) → Owned n c i → Owned n (done o c) i
  done_owned n o c i old busy =
      let closing : (is o i ≡ true → ⊥) = λ e. omega (arith, cond-true (is o i) 0 (c.w i) e) in
      let e : is o i ≡ false = ⊎_elim (λ t. absurd (closing t)) (λ f. f) (cases_Bool (is o i)) in
      let u = old (omega (arith, cond-false (is o i) 0 (c.w i) e)) in
      (u.0, u.1, u.2, omega (arith, u.3, cond-false (is o i) 0 (c.d i) e))

  pub owned : (told : Reports) (n i : ℕ) → i < S.count → Owned n (trace S told n) i
  unfolding trace
  owned told zero i h busy = absurd (not-suc-le-zero busy)
  owned told (suc n) i h busy =
      done_owned (suc n) (told n) (tick S n (trace S told n)).left i (tick_owned n (trace S told n) i h (owned told n i h)) busy

  -- a task that is on time has no job open when its next one is released
  pub free_at_release : (told : Reports) (n i : ℕ) → i < S.count → late (trace S told n) i ≡ false → S.releases i n ≡ true → (trace S told n).w i ≡ 0
  free_at_release told n i h on_time rel =
      ⊎_elim
      (λ busy.
      let u = owned told n i h busy in
      let none : (trace S told n).d i ≡ 0 = omega (arith, u.3, sound.apart i u.0 n h u.1 u.2 rel) in
      grind (arith, nat_tests))
      (λ idle. omega arith)
      (cases_lt 0 ((trace S told n).w i))
