-- The rules keep the whole promise.
use Rattle.std.proofs.Common.{◌≡◌, ℕ, ◌+◌, ◌<◌, ◌≤◌, true, List, [], ◌∷◌, refl, subst}
use Rattle.std.specs.List.{AllByRecursion}
use Rattle.plan.specs.Bounded.{count, task}
use Rattle.pattern.specs.Policy.{Meaning, Lawful}
use Rattle.edf.specs.Counting.{job_met, met_among, DeadlinePassed}
use Rattle.edf.specs.Plans.{marked}
use Rattle.edf.proofs.Counts.{mandatory_jobs_met, enough_jobs_met}
use Rattle.runner.specs.Calls.{Action, start, load, tick, done, ask, OfBytes}
use Rattle.runner.specs.Logs.{Log, plan_of, since, ticks_in, served_in, told_in, Passed, met, met_of}
use Rattle.runner.specs.Promise.{OnTime, KeepsItsPromise}
use Rattle.runner.specs.Rules.{State, made, reply, next, replies_from}
use Rattle.runner.proofs.Following.{nobody_is_late}
use Rattle.runner.proofs.Judging.{answers_right, leaves_right, log_right}
use Rattle.runner.proofs.Kept.{Kept, making_kept, call_kept, calls_kept}

module _ (policy : Meaning) where
  pub tick_on_time : (log : Log) (state : State) → Kept policy log state → OnTime (reply policy state tick)
  tick_on_time log state kept = nobody_is_late policy state (ticks_in (since log)) (served_in (since log)) (told_in (since log)) kept.follows

  call_on_time : (log : Log) (state : State) → Kept policy log state → (call : Action) → OnTime (reply policy state call)
  call_on_time log state kept (start plan) = tt
  call_on_time log state kept (load book) = tt
  call_on_time log state kept tick = tick_on_time log state kept
  call_on_time log state kept (done i) = tt
  call_on_time log state kept (ask i) = tt

  calls_on_time : Lawful policy → (calls : List Action) → AllByRecursion OfBytes calls → (log : Log) (state : State) → Kept policy log state →
      AllByRecursion OnTime (replies_from policy state calls)
  unfolding replies_from
  calls_on_time lawful [] bytes log state kept = tt
  calls_on_time lawful (call ∷ calls) (here, rest) log state kept = (
    call_on_time log state kept call,
    calls_on_time lawful calls rest (record { call = call; answer = reply policy state call } ∷ log) (next policy state call) (call_kept policy lawful log state kept call here),
  )

  module _ (log : Log) (state : State) (kept : Kept policy log state) where
    jobs_met : (i j : ℕ) → i < count (plan_of log) → marked (plan_of log) policy i j ≡ true → Passed log i j → met log i j ≡ true
    jobs_met =
        let N = ticks_in (since log) in
        let served = served_in (since log) in
        let told = told_in (since log) in
        let f = kept.follows in
        subst
        (λ set. (i j : ℕ) → i < count set → marked set policy i j ≡ true → DeadlinePassed set N i j → job_met set served told i j ≡ true)
        kept.plan
        (mandatory_jobs_met state.set policy N served told f.bounded f.fits f.answered)

    enough_met : Lawful policy → (i a : ℕ) → i < count (plan_of log) → ((x : ℕ) → x < (task (plan_of log) i).k → Passed log i (a + x)) →
        (task (plan_of log) i).m ≤ met_of log i a (task (plan_of log) i).k
    enough_met lawful =
        let N = ticks_in (since log) in
        let served = served_in (since log) in
        let told = told_in (since log) in
        let f = kept.follows in
        subst
        (λ set. (i a : ℕ) → i < count set → ((x : ℕ) → x < (task set i).k → DeadlinePassed set N i (a + x)) →
        (task set i).m ≤ met_among set served told i a (task set i).k)
        kept.plan
        (enough_jobs_met state.set policy N served told f.bounded lawful f.fits f.answered)

pub keeps_its_promise : KeepsItsPromise
keeps_its_promise policy lawful calls bytes =
    let kept = calls_kept policy lawful calls bytes [] made (making_kept policy) in
    record {
      admits_exactly_what_can_be_served = answers_right policy lawful;
      takes_only_what_it_admits = leaves_right policy;
      answers_by_the_rules = refl;
      state_by_the_rules = refl;
      admitted_rightly = log_right policy lawful calls bytes [] made tt;
      never_late = calls_on_time policy lawful calls bytes [] made (making_kept policy);
      mandatory_jobs_met = jobs_met policy _ _ kept;
      m_of_any_k_met = enough_met policy _ _ kept lawful;
    }
