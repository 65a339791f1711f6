-- What a log of calls and answers tells, without a look at the runner's counters. Assumes nothing.
use Rattle.std.specs.Prelude.{ℕ, suc, Bool, cond, List, [], ◌∷◌, Some, None, Ok, Err, Option, ◌==◌}
use Rattle.plan.specs.TaskSet.{TaskSet, task_set, empty}
use Rattle.book.specs.Reading.{decoded}
use Rattle.edf.specs.Counting.{job_met, met_among, DeadlinePassed}
use Rattle.edf.specs.Run.{Reports}
use Rattle.edf.specs.System.{Timetable}
use Rattle.service.specs.declared.ticks.TickAnswer.{TickAnswer}
use Rattle.runner.specs.Calls.{Action, start, load, tick, done, ask}
use Rattle.runner.specs.declared.call.Answer.{Answer}
use Rattle.runner.specs.declared.call.Answer.TheVariants as said

-- A call and its answer.
pub record Entry : Type 0 where
  pub call : Action
  pub answer : Answer

-- The newest entry stands first.
abbrev pub Log : Type 0
Log = List Entry

-- The log of these calls and answers, of which the first were made first, on top of an older one.
unfoldable pub logged : Log → List Action → List Answer → Log
logged log [] answers = log
logged log (call ∷ calls) [] = log
logged log (call ∷ calls) (answer ∷ answers) = logged (record { call = call; answer = answer } ∷ log) calls answers

-- The plan that a start or a load is about.
abbrev pub plan_in : Action → Option TaskSet
plan_in (start plan) = Some (task_set plan)
plan_in (load book) = Some (decoded book)
plan_in tick = None
plan_in (done i) = None
plan_in (ask i) = None

-- The cycle in an answer that accepts a plan.
abbrev pub accepted : Answer → Option ℕ
accepted (said.Start (Ok H)) = Some H
accepted (said.Start (Err fault)) = None
accepted (said.Load (Ok H)) = Some H
accepted (said.Load (Err fault)) = None
accepted (said.Tick seen) = None
accepted (said.Done result) = None
accepted (said.Ask result) = None

-- The plan of an accepted start or load.
abbrev pub started : Entry → Option TaskSet
started entry = elim (accepted entry.answer) [ Some H ↦ plan_in entry.call | None ↦ None ]

-- What a tick answered.
abbrev pub tick_in : Answer → Option TickAnswer
tick_in (said.Start result) = None
tick_in (said.Load result) = None
tick_in (said.Tick seen) = Some seen
tick_in (said.Done result) = None
tick_in (said.Ask result) = None

-- The ticks saved by a done report, in an answer that accepts it.
abbrev pub saved : Answer → Option ℕ
saved (said.Start result) = None
saved (said.Load result) = None
saved (said.Tick seen) = None
saved (said.Done (Ok w)) = Some w
saved (said.Done (Err fault)) = None
saved (said.Ask result) = None

-- The task that a done report names.
abbrev pub task_in : Action → Option ℕ
task_in (start plan) = None
task_in (load book) = None
task_in tick = None
task_in (done i) = Some i
task_in (ask i) = None

-- The task of an accepted done report.
abbrev pub reported : Entry → Option ℕ
reported entry = elim (saved entry.answer) [ Some w ↦ task_in entry.call | None ↦ None ]

-- The plan of the last accepted start or load, and the entries after it; the empty plan and all entries if there was none.
abbrev pub plan_of : Log → TaskSet
plan_of [] = empty
plan_of (entry ∷ log) = elim (started entry) [ Some set ↦ set | None ↦ plan_of log ]

abbrev pub since : Log → Log
since [] = []
since (entry ∷ log) = elim (started entry) [ Some set ↦ [] | None ↦ entry ∷ since log ]

-- How many ticks were answered.
abbrev pub ticks_in : Log → ℕ
ticks_in [] = 0
ticks_in (entry ∷ log) = elim (tick_in entry.answer) [ Some seen ↦ suc (ticks_in log) | None ↦ ticks_in log ]

-- Whom tick n served: the tick that was answered after n others.
abbrev pub served_in : Log → Timetable
served_in [] n = None
served_in (entry ∷ log) n =
    elim (tick_in entry.answer) [ Some seen ↦ cond (ticks_in log == n) seen.served (served_in log n) | None ↦ served_in log n ]

-- The task of the done report that was accepted between ticks n and n + 1: when n + 1 ticks had been answered.
abbrev pub told_in : Log → Reports
told_in [] n = None
told_in (entry ∷ log) n =
    elim (reported entry) [ Some i ↦ cond (ticks_in log == suc n) (Some i) (told_in log n) | None ↦ told_in log n ]

-- Ticks and jobs are counted from the last accepted start or load on, for its plan.
module _ (log : Log) where
  -- The deadline of job j of task i has passed.
  abbrev pub Passed : (i j : ℕ) → Type 0
  Passed = DeadlinePassed (plan_of log) (ticks_in (since log))

  -- Job j of task i is met.
  abbrev pub met : (i j : ℕ) → Bool
  met = job_met (plan_of log) (served_in (since log)) (told_in (since log))

  -- How many of the n jobs from job a on are met.
  abbrev pub met_of : (i a n : ℕ) → ℕ
  met_of = met_among (plan_of log) (served_in (since log)) (told_in (since log))
