-- The ticks that a job got, and the work that it has left, come to its work.
use Rattle.std.proofs.Common.{◌≡◌, ℕ, zero, suc, ◌+◌, ◌-◌, ◌<◌, ◌≤◌, Bool, true, false, cond, ◌&&◌, eqb, ltb, Some, None, Option, ap, ⊎_elim, not-suc-le-zero, add-zero, add-suc, arith}
use Rattle.std.proofs.lemmas.Bool.Decides.{nat_tests}
use Rattle.std.proofs.lemmas.Bool.{cases_Bool, eqb-true, cond-true}
use Rattle.edf.specs.System.{System, Sound, is, service}
use Rattle.edf.specs.Tick.{Counters, drop_late, release, tick, choose}
use Rattle.edf.specs.Earliest.{Earliest}
use Rattle.edf.specs.Run.{Reports, done, trace, who}
use Rattle.edf.proofs.Choice.{choose_earliest}

served_busy : (N : ℕ) (c : Counters) (o : Option ℕ) (i : ℕ) → Earliest N c o → is o i ≡ true → (i < N) × (0 < c.w i)
served_busy N c None i f t = grind arith
served_busy N c (Some k) i f t = let e : k ≡ i = eqb-true k i t in (omega (arith, f.here), rw e at f.busy)

module _ (S : System) (n : ℕ) (c : Counters) (i : ℕ) where
  unfoldable pub opened : Counters
  opened = release S n (drop_late c)

  pub tick_serves_busy : is (tick S n c).served i ≡ true → (i < S.count) × (0 < opened.w i)
  unfolding tick opened
  tick_serves_busy t = served_busy S.count (release S n (drop_late c)) (choose S.count (release S n (drop_late c))) i (choose_earliest (release S n (drop_late c)) S.count) t

  pub tick_takes : (tick S n c).left.w i + cond (is (tick S n c).served i) 1 0 ≡ opened.w i
  unfolding tick opened
  tick_takes = taken (is (tick S n c).served i) (opened.w i) (λ t. (tick_serves_busy t).1)
    where
      taken : (b : Bool) (w : ℕ) → (b ≡ true → 0 < w) → cond b (w - 1) w + cond b 1 0 ≡ w
      taken b w busy = grind (arith, nat_tests)

  tick_ages : 0 < (tick S n c).left.w i → (tick S n c).left.d i ≡ opened.d i - 1
  unfolding tick opened
  tick_ages busy = aged (is (tick S n c).served i) (opened.w i) (opened.d i) busy
    where
      aged : (b : Bool) (w d : ℕ) → 0 < cond b (w - 1) w → cond (ltb 0 (cond b (w - 1) w)) (d - 1) 0 ≡ d - 1
      aged b w d busy = grind (arith, nat_tests)

-- between two ticks of a job: a done report may close it, nobody is late and nothing is released
carried : (r t : Bool) (w d W D k : ℕ) → r ≡ false → suc k < D → (0 < w → d + suc k ≡ D) →
    let v = cond t 0 w in
    let o = cond r W (cond (ltb 0 v && eqb (cond t 0 d) 0) 0 v) in
    (o ≤ w) × (0 < o → cond r D (cond t 0 d) ≡ d) × (t ≡ false → o ≡ w) × (t ≡ true → o ≡ 0)
carried r t w d W D k e h live = (grind (arith, nat_tests), grind (arith, nat_tests), grind (arith, nat_tests), grind (arith, nat_tests))

-- the job that task i released at u, through its ticks
module _ (S : System) (sound : Sound S) (told : Reports) (i u : ℕ) (task : i < S.count) (rel : S.releases i u ≡ true) where
  -- the counters after the k-th tick of the job, before a done report
  abbrev pub at : ℕ → Counters
  at k = (tick S (u + k) (trace S told (u + k))).left

  -- with the ticks that it got so far the work left is at most the job's, and the whole of it unless it was reported done
  pub record Accounts (k : ℕ) : Type 0 where
    pub most : service (who S told) i u (suc k) + (at k).w i ≤ S.work i
    pub ticks : 0 < (at k).w i → (at k).d i + suc k ≡ S.deadline i
    pub whole : service told i u k ≡ 0 → service (who S told) i u (suc k) + (at k).w i ≡ S.work i
    pub closed : 0 < service told i u k → (at k).w i + cond (is (who S told (u + k)) i) 1 0 ≡ 0

  accounts_at_release : Accounts 0
  unfolding opened
  accounts_at_release =
      let e : S.releases i (u + 0) ≡ true = rw add-zero rel in
      let c = trace S told (u + 0) in
      let takes = tick_takes S (u + 0) c i in
      let opens = cond-true (S.releases i (u + 0)) (S.work i) ((drop_late c).w i) e in
      record {
        most = omega arith;
        ticks = λ busy. omega (arith, tick_ages S (u + 0) c i busy, cond-true (S.releases i (u + 0)) (S.deadline i) (c.d i) e, sound.positive i task);
        whole = λ _. omega arith;
        closed = λ some. absurd (not-suc-le-zero some);
      }

  accounts_next : (k : ℕ) → suc k < S.deadline i → Accounts k → Accounts (suc k)
  unfolding opened trace
  accounts_next k h a =
      let n = u + suc k in
      let c = trace S told n in
      let same : c ≡ done (told (u + k)) (at k) = ap (trace S told) (add-suc u k) in
      let none : S.releases i n ≡ false =
      ⊎_elim (λ t. absurd (omega (arith, sound.apart i u n task (omega arith) rel t))) (λ f. f) (cases_Bool (S.releases i n)) in
      let carry = carried (S.releases i n) (is (told (u + k)) i) ((at k).w i) ((at k).d i) (S.work i) (S.deadline i) k none h a.ticks in
      let work = ap (λ x. (opened S n x i).w i) same in
      let room = ap (λ x. (opened S n x i).d i) same in
      let takes = tick_takes S n c i in
      record {
        most = omega (arith, a.most, carry.0);
        ticks = λ busy. omega (arith, tick_ages S n c i busy, a.ticks (omega (arith, carry.0)), carry.1 (omega arith));
        whole = λ quiet. omega (arith, a.whole (omega arith), carry.2 (quiet_last (is (told (u + k)) i) (service told i u k) quiet));
        closed = λ some.
            ⊎_elim
            (λ now. omega (arith, carry.3 now))
            (λ not-now. omega (arith, carry.0, a.closed (some_before (is (told (u + k)) i) (service told i u k) some not-now)))
            (cases_Bool (is (told (u + k)) i));
      }
    where
      quiet_last : (b : Bool) (s : ℕ) → s + cond b 1 0 ≡ 0 → b ≡ false
      quiet_last b s e = grind (arith, nat_tests)

      some_before : (b : Bool) (s : ℕ) → 0 < s + cond b 1 0 → b ≡ false → 0 < s
      some_before b s some f = grind (arith, nat_tests)

  pub accounts : (k : ℕ) → k < S.deadline i → Accounts k
  accounts zero h = accounts_at_release
  accounts (suc k) h = accounts_next k h (accounts k (omega arith))
