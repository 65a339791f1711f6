use Rattle.service.proofs.Stepping.{nothing_left}
use Rattle.service.proofs.backlog.Backlog.cleared.Goals as goal

pub returns : goal.returns
returns c = nothing_left
