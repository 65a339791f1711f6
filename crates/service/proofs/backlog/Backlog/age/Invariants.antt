use Rattle.service.proofs.Rowwise.{Stepped}
use Rattle.service.proofs.Stepping.{aged}
use Rattle.service.proofs.backlog.Backlog.age.Given as goal

-- the rows so far have aged
abbrev pub invariant-loop-row : goal.invariant-loop-row
invariant-loop-row l = Stepped aged l.row-index l.initial.row-items l.row-items
