-- What each job gets in a run.
use Rattle.std.proofs.Common.{◌≡◌, ℕ, suc, ◌+◌, ◌-◌, ◌<◌, ◌≤◌, Bool, true, false, cond, ◌&&◌, eqb, ltb, leb, ◌⊎◌, ◌↔◌, Some, None, Option, sym, refl, ap, ◌∙◌, inl, inr, ⊎_elim, arith}
use Rattle.std.proofs.lemmas.Bool.Decides.{nat_tests}
use Rattle.std.proofs.lemmas.Bool.{cases_lt, cases_Bool, cases_order, eq-eqb, eqb-true, lt-ltb, le-leb, or_left, or_right, cond-true}
use Rattle.edf.specs.System.{System, Sound, NeverOverloaded, Timetable, is, service}
use Rattle.edf.specs.Tick.{Counters, late, drop_late, release, choose, serve, ended, age, tick}
use Rattle.edf.specs.Run.{Reports, trace, who}
use Rattle.edf.specs.Jobs.{Belongs, job_ticks, reported}
use Rattle.edf.specs.Service.{JobsServed, JobsMet, NoJobOverserved, TicksBelong, ReportsInTime, FinishedIsLast}
use Rattle.edf.proofs.Cause.{late_pends, left_overloads}
use Rattle.edf.proofs.Locality.{met_reads}
use Rattle.edf.proofs.Owner.{owned}
use Rattle.edf.proofs.Account.{opened, tick_serves_busy, at, Accounts, accounts}

module _ (S : System) (sound : Sound S) (told : Reports) (i u : ℕ) (task : i < S.count) (rel : S.releases i u ≡ true) where
  -- the last tick before the deadline
  last : ℕ
  last = S.deadline i - 1

  all_ticks : (t : Timetable) → job_ticks S t i u ≡ service t i u (suc last)
  unfolding last
  all_ticks t = let e : S.deadline i ≡ suc (S.deadline i - 1) = omega (arith, sound.positive i task) in ap (service t i u) e

  accounts_last : Accounts S sound told i u task rel last
  unfolding last
  accounts_last = accounts S sound told i u task rel last (omega (arith, sound.positive i task))

  not_overserved : job_ticks S (who S told) i u ≤ S.work i
  not_overserved = omega (arith, all_ticks (who S told), accounts_last.most)

  served_or_reported : NeverOverloaded S → (job_ticks S (who S told) i u ≡ S.work i) ⊎ (reported S told i u ≡ true)
  unfolding last
  served_or_reported fits =
      let a = accounts_last in
      let left = at S sound told i u task rel last in
      let nothing : left.w i ≡ 0 =
      ⊎_elim
      (λ busy.
      let none : left.d i ≡ 0 = omega (arith, a.ticks busy, sound.positive i task) in
      let l : late left i ≡ true = grind (arith, nat_tests) in
      let o = left_overloads S told (u + last) (late_pends S.count (suc (u + last)) left i task l) in
      absurd (fits o.0 (suc (u + last)) o.1))
      (λ idle. omega arith)
      (cases_lt 0 (left.w i)) in
      ⊎_elim
      (λ some. inr (lt-ltb 0 (service told i u last) some))
      (λ none. inl (omega (arith, all_ticks (who S told), a.whole (omega arith))))
      (cases_lt 0 (service told i u last))

pub jobs_served : JobsServed
jobs_served S sound fits told i u task rel = served_or_reported S sound told i u task rel fits

pub jobs_met : JobsMet
jobs_met S sound fits told n served same i u task rel passed =
    let got = job_ticks S (who S told) i u in
    met_reads S served (who S told) told told i u (λ m _ before. (same m (omega arith), refl))
    ∙ ⊎_elim
    (λ e. or_left (leb (S.work i) got) (reported S told i u) (le-leb (S.work i) got (omega arith)))
    (λ r. or_right (leb (S.work i) got) (reported S told i u) r)
    (jobs_served S sound fits told i u task rel)

pub no_job_overserved : NoJobOverserved
no_job_overserved S sound told i u task rel = not_overserved S sound told i u task rel

ticks_have_a_job : (S : System) → Sound S → (told : Reports) (n i : ℕ) → who S told n ≡ Some i →
    (i < S.count) × ((u : ℕ) × (S.releases i u ≡ true) × Belongs S (who S told) i u n)
unfolding opened
ticks_have_a_job S sound told n i e =
    let c = trace S told n in
    let b = tick_serves_busy S n c i (ap (λ o. is o i) e ∙ eq-eqb i i refl) in (
      b.0,
      ⊎_elim
          (λ new. (n, new, record { serves = e; since = omega arith; before = omega (arith, sound.positive i b.0) }))
          (λ old.
          let k = kept (S.releases i n) (S.work i) (c.w i) (c.d i) old b.1 in
          let u = owned S sound told n i b.0 k.0 in
          (u.0, u.2, record { serves = e; since = omega (arith, u.1); before = omega (arith, u.3, k.1) }))
          (cases_Bool (S.releases i n)),
    )
  where
    kept : (r : Bool) (W w d : ℕ) → r ≡ false → 0 < cond r W (cond (ltb 0 w && eqb d 0) 0 w) → (0 < w) × (0 < d)
    kept r W w d f busy = (grind (arith, nat_tests), grind (arith, nat_tests))

pub ticks_belong : TicksBelong
ticks_belong = record {
  some = ticks_have_a_job;
  one = λ S sound served i u v n task r q b a.
      ⊎_elim
      (λ same. same)
      (λ apart. ⊎_elim
      (λ l. absurd (omega (arith, sound.apart i u v task l r q, b.before, a.since)))
      (λ l. absurd (omega (arith, sound.apart i v u task l q r, a.before, b.since)))
      apart)
      (cases_order u v);
}

pub reports_in_time : ReportsInTime
reports_in_time S sound fits told proper n i u t r b =
    let task = (ticks_have_a_job S sound told n i b.serves).0 in
    ⊎_elim
    (λ l. l)
    (λ last.
    let e : u + (n - u) ≡ n = omega (arith, b.since) in
    let a = accounts S sound told i u task r (n - u) (omega (arith, b.before, b.since)) in
    let left = (tick S n (trace S told n)).left in
    let busy : 0 < left.w i = (proper n i t).1 in
    let same = ap (λ m. (tick S m (trace S told m)).left.w i) e in
    let room = ap (λ m. (tick S m (trace S told m)).left.d i) e in
    let none : left.d i ≡ 0 = omega (arith, a.ticks (omega arith), b.before, b.since) in
    let o = left_overloads S told n (late_pends S.count (suc n) left i task (grind (arith, nat_tests))) in
    absurd (fits o.0 (suc n) o.1))
    (cases_lt (suc n) (u + S.deadline i))

finished_by_left : (S : System) (n : ℕ) (c : Counters) → (tick S n c).finished ≡ ended (tick S n c).served (tick S n c).left
unfolding tick
finished_by_left S n c = aging_keeps (choose S.count (release S n (drop_late c))) (serve (choose S.count (release S n (drop_late c))) (release S n (drop_late c)))
  where
    aging_keeps : (o : Option ℕ) (s : Counters) → ended o s ≡ ended o (age s)
    aging_keeps None s = refl
    aging_keeps (Some k) s = refl

finished_last : (S : System) → Sound S → (told : Reports) (n i u : ℕ) → S.releases i u ≡ true → Belongs S (who S told) i u n →
    ((tick S n (trace S told n)).finished ≡ true) ↔ (service (who S told) i u (suc n - u) ≡ S.work i)
finished_last S sound told n i u r b =
    let task = (ticks_have_a_job S sound told n i b.serves).0 in
    let k = n - u in
    let e : u + k ≡ n = omega (arith, b.since) in
    let l : suc n - u ≡ suc k = omega (arith, b.since) in
    let a = accounts S sound told i u task r k (omega (arith, b.before, b.since)) in
    let left = (tick S n (trace S told n)).left in
    let work = ap (λ m. (tick S m (trace S told m)).left.w i) e in
    let here : is (who S told (u + k)) i ≡ true = ap (λ m. is (who S told m) i) e ∙ ap (λ o. is o i) b.serves ∙ eq-eqb i i refl in
    let unreported : service told i u k ≡ 0 =
    ⊎_elim (λ some. absurd (omega (arith, a.closed some, cond-true {A = ℕ} (is (who S told (u + k)) i) 1 0 here))) (λ none. omega arith) (cases_lt 0 (service told i u k)) in
    let whole = a.whole unreported in
    let ticks = ap (service (who S told) i u) l in
    let f : (tick S n (trace S told n)).finished ≡ eqb (left.w i) 0 = finished_by_left S n (trace S told n) ∙ ap (λ o. ended o left) b.serves in
    (λ t. omega (arith, eqb-true (left.w i) 0 (sym f ∙ t)), λ t. f ∙ eq-eqb (left.w i) 0 (omega arith))

pub finished_is_last : FinishedIsLast
finished_is_last = record {
  idle = λ S told n e. finished_by_left S n (trace S told n) ∙ ap (λ o. ended o (tick S n (trace S told n)).left) e;
  last = finished_last;
}
