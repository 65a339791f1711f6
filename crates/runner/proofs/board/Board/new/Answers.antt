use Rattle.std.proofs.Common.{None}
use Rattle.plan.specs.TaskSet.{task_set}
use Rattle.runner.proofs.board.Board.new.Goals as goal

pub returns : goal.returns
returns c =
    let cleared = c.cleared.ensures (task_set c.args.plan) in
    λ t. record { set = task_set c.args.plan; cycle = c.args.cycle; position = 0; jobs = cleared t; last = None }
