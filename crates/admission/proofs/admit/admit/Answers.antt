use Rattle.std.proofs.Common.{◌≡◌, Some, None, Err, ◌∙◌, rules}
use Rattle.admission.specs.declared.fault.StartFault.TheVariants.{TooLong}
use Rattle.admission.proofs.Admitted.{right_as_defined, too_long, accepted, overloaded}
use Rattle.admission.proofs.admit.admit.Goals as goal

pub returns-in_err-cycle : goal.returns-in_err-cycle
returns-in_err-cycle g c =
    let lawful = g.met.P.Pattern.lawful c.args.policy.now in
    let none : None ≡ c.cycle.result = search rules in
    let refused : c.from_residual.result ≡ Err TooLong = search rules in
    let defined = refused ∙ too_long c.args.plan.now lawful (none ∙ c.cycle.ensures) in
    record { defined = defined; right = right_as_defined c.args.plan.now lawful _ defined }

pub returns-in-Some : goal.returns-in-Some
returns-in-Some g c =
    let lawful = g.met.P.Pattern.lawful c.args.policy.now in
    let short : Some c.in_ok-cycle.cycle ≡ c.cycle.result = search rules in
    let defined = overloaded c.args.plan.now lawful c.in_ok-cycle.cycle c.in-Some.span (short ∙ c.cycle.ensures) c.in-Some.ensures in
    record { defined = defined; right = right_as_defined c.args.plan.now lawful _ defined }

pub returns-in-None : goal.returns-in-None
returns-in-None g c =
    let lawful = g.met.P.Pattern.lawful c.args.policy.now in
    let short : Some c.in_ok-cycle.cycle ≡ c.cycle.result = search rules in
    let defined = accepted c.args.plan.now lawful c.in_ok-cycle.cycle (short ∙ c.cycle.ensures) c.in-None.ensures in
    record { defined = defined; right = right_as_defined c.args.plan.now lawful _ defined }
