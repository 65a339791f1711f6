-- Small logs of calls and answers: whether a job is met in each, and answers that break the promise. Assumes nothing.
use Rattle.std.specs.Prelude.{◌≡◌, ℕ, Bool, true, false, List, [], ◌∷◌, None, Ok, Err, Option}
use Rattle.std.specs.List.{AllByRecursion}
use Rattle.plan.specs.TaskSet.{TaskSet}
use Rattle.book.specs.Writing.{encoded}
use Rattle.pattern.specs.Even.{even}
use Rattle.edf.specs.Counted.{pair}
use Rattle.edf.specs.Meetings.{high, plain, A, B, idle}
use Rattle.admission.specs.declared.fault.StartFault.TheVariants.{TooLong}
use Rattle.runner.specs.Calls.{Action, load, tick, done, ask}
use Rattle.runner.specs.Logs.{Entry, Log, met}
use Rattle.runner.specs.Promise.{Promise}
use Rattle.runner.specs.Rules.{State}
use Rattle.runner.specs.declared.call.Answer.{Answer}
use Rattle.runner.specs.declared.call.Answer.TheVariants as said
use Rattle.runner.specs.declared.fault.LoadFault.TheVariants.{Start}
use Rattle.runner.specs.declared.fault.TaskFault.TheVariants.{NotServed}

-- A tick that served a task or nobody, and reported these late.
abbrev pub seen : Option ℕ → ℕ → Answer
seen served late = said.Tick (record { served = served; finished = false; late = late })

-- Entries: the pair (2,2,1,1,1), (4,4,2,1,1) is loaded, or its load is refused; a tick; a done report is accepted, or refused.
abbrev pub loaded : Entry
loaded = record { call = load (encoded pair); answer = said.Load (Ok 4) }

abbrev pub not_loaded : Entry
not_loaded = record { call = load (encoded pair); answer = said.Load (Err (Start TooLong)) }

abbrev pub gave : Option ℕ → Entry
gave served = record { call = tick; answer = seen served 0 }

abbrev pub reports : ℕ → Entry
reports i = record { call = done i; answer = said.Done (Ok 1) }

abbrev pub reports_in_vain : ℕ → Entry
reports_in_vain i = record { call = done i; answer = said.Done (Err (NotServed i)) }

-- A log, the newest entry first, and whether job j of task i is met in it.
pub record Case : Type 0 where
  pub log : Log
  pub i : ℕ
  pub j : ℕ
  pub met : Bool

abbrev pub CountsSo : Case → Type 0
CountsSo case = met case.log case.i case.j ≡ case.met

abbrev pub cases : List Case
cases =
    -- B has its 2 ticks, or 1 of them, or 1 of them and a report, or 1 of them and a report that was refused
    record { log = gave B ∷ gave A ∷ gave B ∷ gave A ∷ loaded ∷ []; i = 1; j = 0; met = true }
    ∷ record { log = gave idle ∷ gave A ∷ gave B ∷ gave A ∷ loaded ∷ []; i = 1; j = 0; met = false }
    ∷ record { log = gave idle ∷ gave A ∷ reports 1 ∷ gave B ∷ gave A ∷ loaded ∷ []; i = 1; j = 0; met = true }
    ∷ record { log = gave idle ∷ gave A ∷ reports_in_vain 1 ∷ gave B ∷ gave A ∷ loaded ∷ []; i = 1; j = 0; met = false }
    -- a report is for the job of the tick before it
    ∷ record { log = gave idle ∷ reports 1 ∷ gave A ∷ gave B ∷ gave A ∷ loaded ∷ []; i = 1; j = 0; met = false }
    -- the count begins anew with an accepted load, and goes on over a refused one
    ∷ record { log = gave B ∷ gave A ∷ loaded ∷ gave B ∷ gave A ∷ loaded ∷ []; i = 1; j = 0; met = false }
    ∷ record { log = gave B ∷ gave A ∷ not_loaded ∷ gave B ∷ gave A ∷ loaded ∷ []; i = 1; j = 0; met = true }
    -- before the first load nothing is counted
    ∷ record { log = loaded ∷ gave B ∷ gave A ∷ gave B ∷ gave A ∷ []; i = 1; j = 0; met = false }
    -- a tick after the deadline comes too late
    ∷ record { log = gave B ∷ gave A ∷ gave idle ∷ gave A ∷ gave B ∷ gave A ∷ loaded ∷ []; i = 1; j = 0; met = false }
    ∷ []

abbrev pub LogsCountSo : Type 0
LogsCountSo = AllByRecursion CountsSo cases

-- No state makes these answers keep the promise.
abbrev pub Break : List Action → List Answer → Type 0
Break calls answers = (state : State) → Promise even calls answers state → ⊥

-- (2,2,1,1,1), (4,4,3,1,1): the span from 0 to 4 has work 5.
abbrev pub overfull : TaskSet
overfull = plain (high 2 2 1 1 1 ∷ high 4 4 3 1 1 ∷ [])

pub record PromiseBreakers : Type 0 where
  pub somebody_late : Break (tick ∷ []) (seen idle 1 ∷ [])
  pub a_call_unanswered : Break (tick ∷ []) []
  pub an_answer_of_its_own : Break (ask 0 ∷ []) (said.Ask (Ok None) ∷ [])
  pub an_overload_accepted : Break (load (encoded overfull) ∷ []) (said.Load (Ok 4) ∷ [])
  pub a_job_forgotten : Break (load (encoded pair) ∷ tick ∷ tick ∷ tick ∷ tick ∷ []) (said.Load (Ok 4) ∷ seen A 0 ∷ seen B 0 ∷ seen A 0 ∷ seen idle 0 ∷ [])
