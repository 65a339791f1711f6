use Rattle.std.proofs.Common.{sym, ◌∙◌, arith}
use Rattle.admission.proofs.Euclid.{gcd_turns, gcd_of_zero}
use Rattle.admission.proofs.cycle.gcd.Goals as goal

pub loop-small-preserved : goal.loop-small-preserved
loop-small-preserved c = gcd_turns c.loop-small.big c.loop-small.small (omega arith) ∙ c.loop-small.invariant

pub returns : goal.returns
returns c = sym (gcd_of_zero c.loop-small.big c.loop-small.small (omega arith)) ∙ c.loop-small.invariant
