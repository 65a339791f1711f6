-- A runner's state follows the run of the theory: what is kept of the ticks and the reports since its plan was started.
use Rattle.std.proofs.Common.{◌≡◌, ℕ, suc, ◌%◌, ◌<◌, ◌≤◌, cond, eqb, Some, None, Option, sym, refl, ap, ◌∙◌, ap₂, ⊎_elim, not-suc-le-zero, arith}
use Rattle.std.proofs.lemmas.Bool.{cases_lt, cases_eq, cases_Bool, eq-eqb, ne_eqb, cond-true, cond-false}
use Rattle.plan.specs.Bounded.{Bounded, count}
use Rattle.plan.specs.TaskSet.{TaskSet}
use Rattle.pattern.specs.Policy.{Meaning}
use Rattle.edf.specs.Admission.{CycleOf, Fits}
use Rattle.edf.specs.Counting.{Answered}
use Rattle.edf.specs.Plans.{system}
use Rattle.edf.specs.Run.{Reports, cleared, done, trace, who}
use Rattle.edf.specs.System.{System, Timetable}
use Rattle.edf.specs.Tick.{Counters, tick, move_on}
use Rattle.edf.proofs.Locality.{trace_reads}
use Rattle.edf.proofs.Sums.{sum_none}
use Rattle.edf.proofs.Verdicts.{plan_tick_by_position, plan_never_late}
use Rattle.runner.specs.Rules.{State, fresh, closed, tick_answer, tick_state}
use Rattle.runner.proofs.Spare.{trace_past, left_by_position}

-- Whom the ticks served, once tick N has served o; what was told, once a report of i was accepted after N ticks.
abbrev pub then_served : ℕ → Option ℕ → Timetable → Timetable
then_served N o served n = cond (eqb N n) o (served n)

abbrev pub then_told : ℕ → ℕ → Reports → Reports
then_told N i told n = cond (eqb N (suc n)) (Some i) (told n)

-- N ticks were answered since the plan was started.
pub record Follows (policy : Meaning) (state : State) (N : ℕ) (served : Timetable) (told : Reports) : Type 0 where
  pub bounded : Bounded state.set
  pub fits : Fits state.set policy
  pub cycle : CycleOf state.set policy state.cycle
  pub position : state.position ≡ N % state.cycle
  pub jobs : state.jobs ≡ trace (system state.set policy) told N
  pub answered : Answered state.set policy N served told
  pub quiet : (n : ℕ) → N ≤ n → told n ≡ None
  -- the task served last is the one of the last tick, and nothing was told after that tick
  pub latest : (k : ℕ) → state.last ≡ Some k → (n : ℕ) × (N ≡ suc n) × (who (system state.set policy) told n ≡ Some k) × (told n ≡ None)

some_is_not_none : {A : Type 0} (a : A) → None ≡ Some a → ⊥
some_is_not_none a e = let z : ◌≡◌ {A = ℕ} 0 1 = cc in omega arith

-- The run goes on by a tick, where nothing is told after it.
trace_goes_on : (S : System) (told : Reports) (n : ℕ) → told n ≡ None → trace S told (suc n) ≡ (tick S n (trace S told n)).left
unfolding trace
trace_goes_on S told n none = ap (λ o. done o (tick S n (trace S told n)).left) none

trace_closes : (S : System) (told : Reports) (n i : ℕ) → told n ≡ Some i → trace S told (suc n) ≡ done (Some i) (tick S n (trace S told n)).left
unfolding trace
trace_closes S told n i some = ap (λ o. done o (tick S n (trace S told n)).left) some

trace_begins : (S : System) (told : Reports) → cleared ≡ trace S told 0
unfolding trace
trace_begins S told = refl

-- who is late does not depend on the number of the tick
late_whenever : (S : System) (n m : ℕ) (c : Counters) (i : ℕ) → (tick S n c).missed i ≡ (tick S m c).missed i
unfolding tick
late_whenever S n m c i = refl

pub starts_following : (policy : Meaning) (set : TaskSet) (H : ℕ) → Bounded set → Fits set policy → CycleOf set policy H →
    Follows policy (fresh set H) 0 (λ n. None) (λ n. None)
starts_following policy set H bounded fits cycle = record {
  bounded = bounded;
  fits = fits;
  cycle = cycle;
  position = sym (plan_tick_by_position.starts H);
  jobs = trace_begins (system set policy) (λ n. None);
  answered = record {
    ticks = λ n h. absurd (not-suc-le-zero h);
    later = λ n h. refl;
    reports = λ n i e. absurd (some_is_not_none i e);
  };
  quiet = λ n h. refl;
  latest = λ k e. absurd (some_is_not_none k e);
}

module _ (policy : Meaning) (state : State) (N : ℕ) (served : Timetable) (told : Reports) (f : Follows policy state N served told) where
  abbrev S : System
  S = system state.set policy

  -- the coming tick, by its position, is tick N of the run
  left_of_run : (tick S state.position state.jobs).left ≡ (tick S N (trace S told N)).left
  left_of_run =
      ap₂ (λ n c. (tick S n c).left) f.position f.jobs
      ∙ sym (left_by_position state.set policy state.cycle f.bounded f.cycle N (trace S told N) (trace_past state.set policy told N))

  served_of_run : (tick S state.position state.jobs).served ≡ who S told N
  served_of_run =
      ap₂ (λ n c. (tick S n c).served) f.position f.jobs
      ∙ sym (plan_tick_by_position.answers state.set policy state.cycle f.bounded f.cycle N (trace S told N)).served

  pub nobody_is_late : (tick_answer policy state).late ≡ 0
  nobody_is_late =
      sum_none (count state.set) _
      (λ i here. cond-false ((tick S state.position state.jobs).missed i) _ 0
      (⊎_elim
      (λ late. absurd (plan_never_late state.set policy f.bounded f.fits told N (i, here, same i ∙ late)))
      (λ t. t)
      (cases_Bool ((tick S state.position state.jobs).missed i))))
    where
      same : (i : ℕ) → (tick S N (trace S told N)).missed i ≡ (tick S state.position state.jobs).missed i
      same i = ap (λ c. (tick S N c).missed i) (sym f.jobs) ∙ late_whenever S N state.position state.jobs i

  pub tick_follows : Follows policy (tick_state policy state) (suc N) (then_served N (tick_answer policy state).served served) told
  tick_follows = record {
    bounded = f.bounded;
    fits = f.fits;
    cycle = f.cycle;
    position = ap (move_on state.cycle) f.position ∙ sym (plan_tick_by_position.moves state.cycle N f.cycle.positive);
    jobs = left_of_run ∙ sym (trace_goes_on S told N (f.quiet N (omega arith)));
    answered = record {
      ticks = λ n h. ⊎_elim
          (λ e. cond-true (eqb N n) (tick_answer policy state).served (served n) (eq-eqb N n e) ∙ served_of_run ∙ ap (who S told) e)
          (λ e. cond-false (eqb N n) (tick_answer policy state).served (served n) (ne_eqb N n e) ∙ f.answered.ticks n (less n h e))
          (cases_eq N n);
      later = λ n h. cond-false (eqb N n) (tick_answer policy state).served (served n) (ne_eqb N n (λ e. omega arith)) ∙ f.answered.later n (omega arith);
      reports = f.answered.reports;
    };
    quiet = λ n h. f.quiet n (omega arith);
    latest = λ k e. (N, refl, sym served_of_run ∙ e, f.quiet N (omega arith));
  }
    where
      less : (n : ℕ) → n < suc N → (N ≡ n → ⊥) → n < N
      less n h e = ⊎_elim (λ l. l) (λ l. absurd (e (omega arith))) (cases_lt n N)

-- A report of i is accepted after tick n: i was served by it and has work left.
module _ (policy : Meaning) (state : State) (n : ℕ) (served : Timetable) (told : Reports) (f : Follows policy state (suc n) served told)
    (i : ℕ) (busy : 0 < state.jobs.w i) (mine : who (system state.set policy) told n ≡ Some i) (silent : told n ≡ None) where
  abbrev now_told : Reports
  now_told = then_told (suc n) i told

  told_now : now_told n ≡ Some i
  told_now = cond-true (eqb (suc n) (suc n)) (Some i) (told n) (eq-eqb (suc n) (suc n) refl)

  told_before : (m : ℕ) → (m ≡ n → ⊥) → now_told m ≡ told m
  told_before m ne = cond-false (eqb (suc n) (suc m)) (Some i) (told m) (ne_eqb (suc n) (suc m) (λ e. ne (omega arith)))

  same_run : (m : ℕ) → m ≤ n → trace (system state.set policy) now_told m ≡ trace (system state.set policy) told m
  same_run m h = trace_reads (system state.set policy) now_told told m (λ l k. told_before l (λ e. omega arith))

  same_answer : (m : ℕ) → m ≤ n → who (system state.set policy) now_told m ≡ who (system state.set policy) told m
  same_answer m h = ap (λ c. (tick (system state.set policy) m c).served) (same_run m h)

  -- the counters that the tick left are those of the state
  left_by_tick : (tick (system state.set policy) n (trace (system state.set policy) now_told n)).left ≡ state.jobs
  left_by_tick =
      ap (λ c. (tick (system state.set policy) n c).left) (same_run n (omega arith))
      ∙ sym (trace_goes_on (system state.set policy) told n silent)
      ∙ sym f.jobs

  report_proper : (m j : ℕ) → now_told m ≡ Some j → (who (system state.set policy) now_told m ≡ Some j)
      × (0 < (tick (system state.set policy) m (trace (system state.set policy) now_told m)).left.w j)
  report_proper m j e =
      ⊎_elim
      (λ here.
      let same : now_told n ≡ Some j = ap now_told (sym here) ∙ e in
      let whose : i ≡ j = (let t = told_now in cc) in
      rw (here, ← whose) (same_answer n (omega arith) ∙ mine, rw left_by_tick busy))
      (λ other.
      let old : told m ≡ Some j = sym (told_before m other) ∙ e in
      let earlier : m ≤ n = ⊎_elim (λ l. omega arith) (λ late. absurd (some_is_not_none j (sym (f.quiet m late) ∙ old))) (cases_lt m (suc n)) in
      let p = f.answered.reports m j old in
      (same_answer m earlier ∙ p.0, rw (same_run m earlier) p.1))
      (cases_eq m n)

  pub done_follows : Follows policy (closed state i) (suc n) served now_told
  done_follows = record {
    bounded = f.bounded;
    fits = f.fits;
    cycle = f.cycle;
    position = f.position;
    jobs = ap (done (Some i)) (sym left_by_tick) ∙ sym (trace_closes (system state.set policy) now_told n i told_now);
    answered = record {
      ticks = λ m h. f.answered.ticks m h ∙ sym (same_answer m (omega arith));
      later = f.answered.later;
      reports = report_proper;
    };
    quiet = λ m h. told_before m (λ e. omega arith) ∙ f.quiet m h;
    latest = λ k e. absurd (some_is_not_none k e);
  }
