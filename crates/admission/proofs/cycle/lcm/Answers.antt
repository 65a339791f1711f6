use Rattle.std.proofs.Common.{arith}
use Rattle.admission.proofs.Euclid.{gcd_positive}
use Rattle.admission.proofs.cycle.lcm.Goals as goal

pub nonzero_div-a : goal.nonzero_div-a
nonzero_div-a c = omega (arith, gcd_positive c.args.b c.args.a c.args.b c.requires)
