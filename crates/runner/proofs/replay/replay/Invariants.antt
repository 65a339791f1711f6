use Rattle.std.proofs.Common.{take}
use Rattle.runner.proofs.Reaching.{Made}
use Rattle.runner.proofs.replay.replay.Given as goal

-- the calls so far were made, and the rest of the answers is as it was
abbrev pub invariant-loop-i : goal.invariant-loop-i
invariant-loop-i g l = Made g.P.Pattern.meaning l.initial.runner.policy l.runner (take l.i l.call-items) l.i l.initial.answers l.answers
