-- The whole promise of the runner, for every lawful policy and every list of calls. Assumes nothing.
use Rattle.std.specs.Prelude.{◌≡◌, ℕ, ◌+◌, ◌<◌, ◌≤◌, true, ◌↔◌, List, [], Some, None, Ok, Err, Result}
use Rattle.std.specs.List.{AllByRecursion}
use Rattle.plan.specs.Bounded.{count, task}
use Rattle.plan.specs.TaskSet.{TaskSet, task_set}
use Rattle.book.specs.Reading.{read_fault, decoded}
use Rattle.book.specs.declared.fault.BookFault.{BookFault}
use Rattle.pattern.specs.Policy.{Meaning, Lawful}
use Rattle.edf.specs.Plans.{marked}
use Rattle.edf.specs.Run.{cleared}
use Rattle.admission.specs.Judgement.{Right}
use Rattle.admission.specs.declared.fault.StartFault.{StartFault}
use Rattle.runner.specs.Calls.{Action, start, load, tick, done, ask, OfBytes}
use Rattle.runner.specs.Logs.{Log, logged, plan_of, Passed, met, met_of}
use Rattle.runner.specs.Rules.{State, reply, next, run, replies}
use Rattle.runner.specs.declared.call.Answer.{Answer}
use Rattle.runner.specs.declared.call.Answer.TheVariants as said
use Rattle.runner.specs.declared.fault.LoadFault.{LoadFault}
use Rattle.runner.specs.declared.fault.LoadFault.TheVariants.{Book, Start}

-- `Right set policy` says when the answer to a start is right: too long exactly if the cycle H is above 1,048,576, and else
-- accepted with H exactly if some timetable serves the plan, and overloaded, with the first overload, if none does.

-- The answer to a load of the book is right.
pub record RightLoad (policy : Meaning) (book : List ℕ) (answer : Result ℕ LoadFault) : Type 0 where
  -- refused for the book exactly if the book fails a check, and for the first such check
  pub unreadable : (fault : BookFault) → (answer ≡ Err (Book fault)) ↔ (read_fault book ≡ Some fault)
  -- else accepted or refused as a start of the plan that it holds, and rightly so
  pub accepted : (H : ℕ) → answer ≡ Ok H → Right (decoded book) policy (Ok H)
  pub refused : (fault : StartFault) → answer ≡ Err (Start fault) → Right (decoded book) policy (Err fault)

-- A start or a load is answered right; of another call nothing is said here.
abbrev pub RightAnswer : Meaning → Action → Answer → Type 0
RightAnswer policy (start plan) answer = (r : Result ℕ StartFault) × (answer ≡ said.Start r) × Right (task_set plan) policy r
RightAnswer policy (load book) answer = (r : Result ℕ LoadFault) × (answer ≡ said.Load r) × RightLoad policy book r
RightAnswer policy tick answer = Unit {0}
RightAnswer policy (done i) answer = Unit {0}
RightAnswer policy (ask i) answer = Unit {0}

-- The state that an accepted plan begins with, or the state before if it was refused.
abbrev pub taken : {F : Type 0} → TaskSet → Result ℕ F → State → State
taken set (Ok H) before = record { set = set; cycle = H; position = 0; jobs = cleared; last = None }
taken set (Err fault) before = before

-- A start or a load leaves the right state.
abbrev pub RightState : (before : State) → Action → Answer → (after : State) → Type 0
RightState before (start plan) answer after = (r : Result ℕ StartFault) → answer ≡ said.Start r → after ≡ taken (task_set plan) r before
RightState before (load book) answer after = (r : Result ℕ LoadFault) → answer ≡ said.Load r → after ≡ taken (decoded book) r before
RightState before tick answer after = Unit {0}
RightState before (done i) answer after = Unit {0}
RightState before (ask i) answer after = Unit {0}

-- An answer that reports nobody late.
abbrev pub OnTime : Answer → Type 0
OnTime (said.Start r) = Unit {0}
OnTime (said.Load r) = Unit {0}
OnTime (said.Tick seen) = seen.late ≡ 0
OnTime (said.Done r) = Unit {0}
OnTime (said.Ask r) = Unit {0}

-- The log of the calls of a list and their answers.
abbrev pub log_of : List Action → List Answer → Log
log_of calls answers = logged [] calls answers

-- The calls of a list were made to a new runner with that policy, one after the other, and got these answers; this is the state then.
pub record Promise (policy : Meaning) (calls : List Action) (answers : List Answer) (state : State) : Type 0 where
  -- Admission half: in every state whatever, the rules answer every start and every load right, and leave the right state.
  pub admits_exactly_what_can_be_served : (before : State) (call : Action) → OfBytes call → RightAnswer policy call (reply policy before call)
  pub takes_only_what_it_admits : (before : State) (call : Action) → RightState before call (reply policy before call) (next policy before call)
  -- Service half: answers and state are those of the rules,
  pub answers_by_the_rules : answers ≡ replies policy calls
  pub state_by_the_rules : state ≡ run policy calls
  -- every start and every load was answered right,
  pub admitted_rightly : AllByRecursion (λ entry. RightAnswer policy entry.call entry.answer) (log_of calls answers)
  -- no tick reported anybody late,
  pub never_late : AllByRecursion OnTime answers
  -- every mandatory job of the plan whose deadline has passed is met,
  pub mandatory_jobs_met : let log = log_of calls answers in let set = plan_of log in
      (i j : ℕ) → i < count set → marked set policy i j ≡ true → Passed log i j → met log i j ≡ true
  -- and of any k jobs of a task in a row whose deadlines have passed at least m are met.
  pub m_of_any_k_met : let log = log_of calls answers in let set = plan_of log in
      (i a : ℕ) → i < count set → ((x : ℕ) → x < (task set i).k → Passed log i (a + x)) → (task set i).m ≤ met_of log i a (task set i).k

-- The rules keep it: so answers that are the rules' replies, and a state that is the rules' run, keep it.
abbrev pub KeepsItsPromise : Type 0
KeepsItsPromise = (policy : Meaning) → Lawful policy → (calls : List Action) → AllByRecursion OfBytes calls →
    Promise policy calls (replies policy calls) (run policy calls)
