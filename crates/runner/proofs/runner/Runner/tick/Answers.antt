use Rattle.std.proofs.Common.{ap}
use Rattle.pattern.specs.Policy.{Meaning}
use Rattle.runner.proofs.Reaching.{goes_on}
use Rattle.runner.specs.Boards.{state}
use Rattle.runner.specs.Calls as action
use Rattle.runner.specs.Rules.{State}
use Rattle.runner.specs.declared.call.Answer.TheVariants as said
use Rattle.runner.proofs.runner.Runner.tick.Goals as goal

pub returns-clause-promise : goal.returns-clause-promise
returns-clause-promise g c =
    let policy : Meaning = g.P.Pattern.meaning c.args.self.now.policy in
    let before : State = state c.args.self.now.board in
    goes_on policy (g.met.P.Pattern.lawful c.args.self.now.policy) before action.tick tt (said.Tick c.tick.result) (state c.tick.new.self)
    (ap said.Tick c.tick.ensures.answer) c.tick.ensures.after
