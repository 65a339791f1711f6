use Rattle.std.proofs.Common.{◌≡◌}
use Rattle.edf.specs.Cycle.{gcd_in}
use Rattle.admission.proofs.cycle.gcd.Given as goal

-- the two numbers at hand have the divisor of the two that were given
abbrev pub invariant-loop-small : goal.invariant-loop-small
invariant-loop-small l = gcd_in l.small l.big l.small ≡ gcd_in l.b l.a l.b

abbrev pub decreases-loop-small : goal.decreases-loop-small
decreases-loop-small l = l.small
