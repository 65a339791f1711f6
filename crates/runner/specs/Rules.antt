-- The rules of the runner: its state, what each call answers and what state it leaves. Assumes nothing.
use Rattle.std.specs.Prelude.{ℕ, cond, not, List, [], ◌∷◌, Some, None, Ok, Err, Option, Result, ◌==◌, nat_le, nat_lt}
use Rattle.std.specs.Result.{result_map_both}
use Rattle.plan.specs.Bounded.{count}
use Rattle.plan.specs.Checks.{refuse_if}
use Rattle.plan.specs.Refusals.{answer, left}
use Rattle.plan.specs.TaskSet.{TaskSet, task_set, empty}
use Rattle.book.specs.Reading.{read_fault, decoded}
use Rattle.book.specs.declared.fault.BookFault.{BookFault}
use Rattle.pattern.specs.Policy.{Meaning}
use Rattle.edf.specs.Plans.{system}
use Rattle.edf.specs.Run.{cleared, done as close}
use Rattle.edf.specs.System.{is}
use Rattle.edf.specs.Tick as steps
use Rattle.edf.specs.Tick.{Counters, move_on}
use Rattle.service.specs.Answers.{answer_of}
use Rattle.service.specs.declared.ticks.TickAnswer.{TickAnswer}
use Rattle.admission.specs.Verdicts.{verdict}
use Rattle.admission.specs.declared.fault.StartFault.{StartFault}
use Rattle.runner.specs.Calls.{Action, start, load, tick, done, ask}
use Rattle.runner.specs.Refusals.{by_book, by_start}
use Rattle.runner.specs.declared.call.Answer.{Answer}
use Rattle.runner.specs.declared.call.Answer.TheVariants as said
use Rattle.runner.specs.declared.fault.LoadFault.{LoadFault}
use Rattle.runner.specs.declared.fault.TaskFault.{TaskFault}
use Rattle.runner.specs.declared.fault.TaskFault.TheVariants.{Absent, NoWork, NotServed}

-- The plan that is served, its cycle, the position of the coming tick in it, the counters of the open jobs, and the task served last.
pub record State : Type 0 where
  pub set : TaskSet
  pub cycle : ℕ
  pub position : ℕ
  pub jobs : Counters
  pub last : Option ℕ

-- A plan that was just started.
abbrev pub fresh : TaskSet → ℕ → State
fresh set H = record { set = set; cycle = H; position = 0; jobs = cleared; last = None }

-- A new runner.
abbrev pub made : State
made = fresh empty 1

-- What a start leaves by the verdict on the plan, which is what it answers.
abbrev pub start_state : Result ℕ StartFault → TaskSet → State → State
start_state (Ok H) set state = fresh set H
start_state (Err fault) set state = state

-- What load answers by the fault of the book, or else by the verdict on the plan that it holds.
abbrev pub load_answer : Option BookFault → Result ℕ StartFault → Result ℕ LoadFault
load_answer (Some fault) judged = Err (by_book fault)
load_answer None judged = result_map_both (λ H. H) by_start judged

-- A done report is refused for the first of these: no such task, no work left, not the task served last.
abbrev pub done_fault : State → ℕ → Option TaskFault
done_fault state i =
    refuse_if (nat_le (count state.set) i) (Absent i)
    (refuse_if (state.jobs.w i == 0) (NoWork i)
    (refuse_if (not (is state.last i)) (NotServed i)
    None))

-- The job of the task is closed, and nobody was served last.
abbrev pub closed : State → ℕ → State
closed state i = record {
  set = state.set;
  cycle = state.cycle;
  position = state.position;
  jobs = close (Some i) state.jobs;
  last = None;
}

abbrev pub done_answer : State → ℕ → Result ℕ TaskFault
done_answer state i = answer (done_fault state i) (state.jobs.w i)

abbrev pub done_state : State → ℕ → State
done_state state i = left (done_fault state i) (closed state i) state

-- The work left and the ticks left, if any work is left.
abbrev pub asked : State → ℕ → Option (ℕ × ℕ)
asked state i = cond (nat_lt 0 (state.jobs.w i)) (Some (state.jobs.w i, state.jobs.d i)) None

abbrev pub ask_answer : State → ℕ → Result (Option (ℕ × ℕ)) TaskFault
ask_answer state i = answer (refuse_if (nat_le (count state.set) i) (Absent i) None) (asked state i)

module _ (policy : Meaning) where
  -- The steps of the coming tick.
  abbrev pub ticked : State → steps.Answer
  ticked state = steps.tick (system state.set policy) state.position state.jobs

  abbrev pub tick_answer : State → TickAnswer
  tick_answer state = answer_of (count state.set) (ticked state)

  abbrev pub tick_state : State → State
  tick_state state = record {
    set = state.set;
    cycle = state.cycle;
    position = move_on state.cycle state.position;
    jobs = (ticked state).left;
    last = (ticked state).served;
  }

  -- What a runner in that state answers.
  abbrev pub reply : State → Action → Answer
  reply state (start plan) = said.Start (verdict (task_set plan) policy)
  reply state (load book) = said.Load (load_answer (read_fault book) (verdict (decoded book) policy))
  reply state tick = said.Tick (tick_answer state)
  reply state (done i) = said.Done (done_answer state i)
  reply state (ask i) = said.Ask (ask_answer state i)

  -- The state that it is in then.
  abbrev pub next : State → Action → State
  next state (start plan) = start_state (verdict (task_set plan) policy) (task_set plan) state
  next state (load book) = left (read_fault book) (start_state (verdict (decoded book) policy) (decoded book) state) state
  next state tick = tick_state state
  next state (done i) = done_state state i
  next state (ask i) = state

  -- The same for a list of actions, the first one first.
  unfoldable pub run_from : State → List Action → State
  run_from state [] = state
  run_from state (action ∷ rest) = run_from (next state action) rest

  unfoldable pub replies_from : State → List Action → List Answer
  replies_from state [] = []
  replies_from state (action ∷ rest) = reply state action ∷ replies_from (next state action) rest

  -- From the making.
  abbrev pub run : List Action → State
  run = run_from made

  abbrev pub replies : List Action → List Answer
  replies = replies_from made
