-- What can be done to a runner, and the code's calls as such actions. Assumes nothing.
use Rattle.std.specs.Prelude.{ℕ, ◌<◌, List, map}
use Rattle.plan.specs.declared.plan.Plan.{Plan}
use Rattle.book.specs.Bytes.{byte}
use Rattle.runner.specs.declared.call.Call.{Call}
use Rattle.runner.specs.declared.call.Call.TheVariants as call

-- Start a plan, load a book by its bytes, tick, report a task done, ask for a task.
pub data Action : Type 0 where
  start : Plan → Action
  load : List ℕ → Action
  tick : Action
  done : ℕ → Action
  ask : ℕ → Action

-- A book is bytes: numbers below 256.
abbrev pub OfBytes : Action → Type 0
OfBytes (start plan) = Unit {0}
OfBytes (load book) = (i : ℕ) → byte book i < 256
OfBytes tick = Unit {0}
OfBytes (done i) = Unit {0}
OfBytes (ask i) = Unit {0}

abbrev pub action : Call → Action
action (call.Start plan) = start plan
action (call.Load book) = load book.now
action call.Tick = tick
action (call.Done number) = done number
action (call.Ask number) = ask number

abbrev pub actions : List Call → List Action
actions calls = map action calls
