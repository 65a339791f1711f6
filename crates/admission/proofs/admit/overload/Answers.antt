use Rattle.std.proofs.Common.{◌∙◌}
use Rattle.admission.proofs.Admitted.{none_refused, last_is_refused}
use Rattle.admission.proofs.admit.overload.Goals as goal

pub returns-in_err-end : goal.returns-in_err-end
returns-in_err-end g c =
    c.from_residual.ensures ∙
    none_refused c.args.load.now.plan.now (g.met.P.Pattern.lawful c.args.load.now.policy.now) c.args.cycle c.requires.cycle c.in_err-end.ensures

pub returns : goal.returns
returns g c =
    c.last_overload.ensures ∙
    last_is_refused c.args.load.now.plan.now (g.met.P.Pattern.lawful c.args.load.now.policy.now) c.args.cycle c.in_ok-end.end c.requires.cycle c.in_ok-end.ensures
