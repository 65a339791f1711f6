-- Every call keeps the runner's state in step with its log.
use Rattle.std.proofs.Common.{◌≡◌, ℕ, ◌<◌, ◌≤◌, true, not, eqb, leb, List, [], ◌∷◌, Some, None, Ok, Err, Option, Result, sym, refl, ap, ◌∙◌, subst, ⊎_elim, not-suc-le-zero, arith}
use Rattle.std.specs.List.{AllByRecursion}
use Rattle.std.proofs.lemmas.Bool.{cases_lt, eqb-true, eqb-false, not-false, false≢true}
use Rattle.plan.specs.Bounded.{Bounded, count}
use Rattle.plan.specs.Refusals.{answer, left}
use Rattle.plan.specs.TaskSet.{TaskSet, task_set, empty}
use Rattle.plan.specs.declared.plan.Plan.{Plan}
use Rattle.plan.proofs.Bounding.{plan_is_bounded}
use Rattle.book.proofs.Bounding.{decoded_is_bounded}
use Rattle.book.proofs.Refused.{went_on}
use Rattle.book.specs.Reading.{read_fault, decoded}
use Rattle.book.specs.declared.fault.BookFault.{BookFault}
use Rattle.pattern.specs.Policy.{Meaning, Lawful}
use Rattle.edf.specs.Admission.{CycleOf, Fits}
use Rattle.edf.specs.System.{is}
use Rattle.edf.proofs.Verdicts.{plan_serves_iff_fits}
use Rattle.admission.proofs.Judged.{verdict_is_right}
use Rattle.admission.specs.Verdicts.{verdict}
use Rattle.admission.specs.declared.fault.StartFault.{StartFault}
use Rattle.admission.specs.declared.fault.StartFault.TheVariants.{TooLong}
use Rattle.runner.specs.Calls.{Action, start, load, tick, done, ask, OfBytes}
use Rattle.runner.specs.Logs.{Log, plan_of, since, ticks_in, served_in, told_in, logged}
use Rattle.runner.specs.Rules.{State, made, start_state, load_answer, done_fault, closed, reply, next, run_from, replies_from}
use Rattle.runner.specs.declared.call.Answer.TheVariants as said
use Rattle.runner.specs.declared.fault.TaskFault.{TaskFault}
use Rattle.runner.specs.declared.fault.TaskFault.TheVariants.{Absent, NoWork, NotServed}
use Rattle.runner.proofs.Following.{Follows, then_told, starts_following, tick_follows, done_follows}

-- The state is that of the log's plan, and follows the ticks and reports since it was started.
pub record Kept (policy : Meaning) (log : Log) (state : State) : Type 0 where
  pub plan : state.set ≡ plan_of log
  pub follows : Follows policy state (ticks_in (since log)) (served_in (since log)) (told_in (since log))

empty_is_bounded : Bounded empty
empty_is_bounded = record {
  few = omega arith;
  timed = λ i h. absurd (not-suc-le-zero h);
  constrained = λ i h. absurd (not-suc-le-zero h);
  geared = (omega arith, omega arith, omega arith);
}

pub making_kept : (policy : Meaning) → Kept policy [] made
making_kept policy = record {
  plan = refl;
  follows = starts_following policy empty 1 empty_is_bounded
      (λ s e o. absurd (not-suc-le-zero o.excess))
      (record { positive = omega arith; holds = λ i h. absurd (not-suc-le-zero h); least = λ g some all. some });
}

is_some : (o : Option ℕ) (i : ℕ) → is o i ≡ true → o ≡ Some i
is_some None i e = absurd (false≢true e)
is_some (Some k) i e = ap Some (eqb-true k i e)

long_is_no_accept : (H : ℕ) → ◌≡◌ {A = Result ℕ StartFault} (Ok H) (Err TooLong) → ⊥
long_is_no_accept H e = let z : ◌≡◌ {A = ℕ} 0 1 = cc in omega arith

module _ (policy : Meaning) where
  -- a plan that is accepted with H has the cycle H, and no span of it is overloaded
  accepted_fits : Lawful policy → (set : TaskSet) → Bounded set → (H : ℕ) → verdict set policy ≡ Ok H → CycleOf set policy H × Fits set policy
  accepted_fits lawful set bounded H e =
      let (h, cycle, right) = verdict_is_right set policy bounded lawful in
      let same : H ≡ h = right.by_its_cycle H e in
      let short : h ≤ 1048576 = ⊎_elim (λ above. absurd (long_is_no_accept H (sym e ∙ right.too_long.1 above))) (λ l. l) (cases_lt 1048576 h) in
      (rw same cycle, (plan_serves_iff_fits set policy bounded).0 ((right.accepted short).0 (e ∙ ap Ok same)))

  module _ (lawful : Lawful policy) (log : Log) (state : State) (kept : Kept policy log state) where
    start_kept : (plan : Plan) (v : Result ℕ StartFault) → verdict (task_set plan) policy ≡ v →
        Kept policy (record { call = start plan; answer = said.Start v } ∷ log) (start_state v (task_set plan) state)
    start_kept plan (Err fault) e = record { plan = kept.plan; follows = kept.follows }
    start_kept plan (Ok H) e =
        let (cycle, fits) = accepted_fits lawful (task_set plan) (plan_is_bounded plan) H e in
        record { plan = refl; follows = starts_following policy (task_set plan) H (plan_is_bounded plan) fits cycle }

    load_kept : (book : List ℕ) (o : Option BookFault) (v : Result ℕ StartFault) → (o ≡ None → Bounded (decoded book)) → verdict (decoded book) policy ≡ v →
        Kept policy (record { call = load book; answer = said.Load (load_answer o v) } ∷ log) (left o (start_state v (decoded book) state) state)
    load_kept book (Some fault) v bounded e = record { plan = kept.plan; follows = kept.follows }
    load_kept book None (Err fault) bounded e = record { plan = kept.plan; follows = kept.follows }
    load_kept book None (Ok H) bounded e =
        let (cycle, fits) = accepted_fits lawful (decoded book) (bounded refl) H e in
        record { plan = refl; follows = starts_following policy (decoded book) H (bounded refl) fits cycle }

    -- an accepted report is of the task served last, which has work left
    allowed : (i : ℕ) → done_fault state i ≡ None → (0 < state.jobs.w i) × (state.last ≡ Some i)
    allowed i none =
        let a = went_on (leb (count state.set) i) (Absent i) _ none in
        let b = went_on (eqb (state.jobs.w i) 0) (NoWork i) _ a.1 in
        let c = went_on (not (is state.last i)) (NotServed i) None b.1 in
        let some = eqb-false (state.jobs.w i) 0 b.0 in
        (⊎_elim (λ l. l) (λ l. absurd (some (omega arith))) (cases_lt 0 (state.jobs.w i)), is_some state.last i (not-false (is state.last i) c.0))

    done_kept : (i : ℕ) (o : Option TaskFault) → done_fault state i ≡ o →
        Kept policy (record { call = done i; answer = said.Done (answer o (state.jobs.w i)) } ∷ log) (left o (closed state i) state)
    done_kept i (Some fault) e = record { plan = kept.plan; follows = kept.follows }
    done_kept i None e =
        let (busy, last) = allowed i e in
        let (n, ticks, mine, silent) = kept.follows.latest i last in
        let served = served_in (since log) in
        let told = told_in (since log) in
        record {
          plan = kept.plan;
          follows =
              subst (λ N. Follows policy (closed state i) N served (then_told N i told)) (sym ticks)
              (done_follows policy state n served told (subst (λ N. Follows policy state N served told) ticks kept.follows) i busy mine silent);
        }

    pub call_kept : (call : Action) → OfBytes call → Kept policy (record { call = call; answer = reply policy state call } ∷ log) (next policy state call)
    call_kept (start plan) _ = start_kept plan (verdict (task_set plan) policy) refl
    call_kept (load book) bytes = load_kept book (read_fault book) (verdict (decoded book) policy) (decoded_is_bounded book bytes) refl
    call_kept tick _ = record {
      plan = kept.plan;
      follows = tick_follows policy state (ticks_in (since log)) (served_in (since log)) (told_in (since log)) kept.follows;
    }
    call_kept (done i) _ = done_kept i (done_fault state i) refl
    call_kept (ask i) _ = record { plan = kept.plan; follows = kept.follows }

  pub calls_kept : Lawful policy → (calls : List Action) → AllByRecursion OfBytes calls → (log : Log) (state : State) → Kept policy log state →
      Kept policy (logged log calls (replies_from policy state calls)) (run_from policy state calls)
  unfolding logged replies_from run_from
  calls_kept lawful [] bytes log state kept = kept
  calls_kept lawful (call ∷ calls) (here, rest) log state kept =
      calls_kept lawful calls rest (record { call = call; answer = reply policy state call } ∷ log) (next policy state call) (call_kept lawful log state kept call here)
