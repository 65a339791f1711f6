-- The states that a runner can be in, and what holds in them. Assumes nothing.
use Rattle.std.specs.Prelude.{◌≡◌, List, [], ◌∷◌, ◌++◌}
use Rattle.std.specs.List.{AllByRecursion}
use Rattle.pattern.specs.Policy.{Meaning, Lawful}
use Rattle.runner.specs.Calls.{Action, OfBytes}
use Rattle.runner.specs.Promise.{Promise}
use Rattle.runner.specs.Rules.{State, made, reply, next, run, replies, tick_answer}
use Rattle.runner.specs.declared.call.Answer.{Answer}

-- Some list of calls on a new runner leads to the state.
abbrev pub Reached : Meaning → State → Type 0
Reached policy state = ∥ ((calls : List Action) × AllByRecursion OfBytes calls × (run policy calls ≡ state)) ∥₁

-- A new runner's state is reached, and so is what a call leaves of a reached one.
pub record CallsReach : Type 0 where
  pub making : (policy : Meaning) → Reached policy made
  pub calls : (policy : Meaning) (state : State) (call : Action) → OfBytes call → Reached policy state → Reached policy (next policy state call)

-- In a state that is reached a tick reports nobody late.
abbrev pub ReachedIsOnTime : Type 0
ReachedIsOnTime = (policy : Meaning) → Lawful policy → (state : State) → Reached policy state → (tick_answer policy state).late ≡ 0

-- If some calls on a new runner led to the state before, the promise holds of them and this call, with this answer and the state after.
abbrev pub PromiseGoesOn : Meaning → (before : State) → Action → Answer → (after : State) → Type 0
PromiseGoesOn policy before call answer after =
    (calls : List Action) → AllByRecursion OfBytes calls → run policy calls ≡ before → Promise policy (calls ++ (call ∷ [])) (replies policy calls ++ (answer ∷ [])) after

-- The answer and the next state of the rules keep the promise going.
abbrev pub RulesGoOn : Type 0
RulesGoOn = (policy : Meaning) → Lawful policy → (state : State) (call : Action) → OfBytes call →
    PromiseGoesOn policy state call (reply policy state call) (next policy state call)
