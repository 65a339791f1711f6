use Rattle.std.proofs.Common.{ℕ, ◌/◌, arith}
use Rattle.std.proofs.lemmas.Grind.{common_steps}
use Rattle.pattern.proofs.Policies.{mandatory_are_marked}
use Rattle.service.proofs.workload.Workload.releases.Goals as goal

pub returns-then-tick-period-eq0 : goal.returns-then-tick-period-eq0
returns-then-tick-period-eq0 g c =
    let job : ℕ = c.args.tick / c.args.task.now.period in
    let agree = mandatory_are_marked (g.P.Pattern.meaning c.args.self.now.policy.now) (g.met.P.Pattern.lawful c.args.self.now.policy.now)
    c.args.number c.args.task.now.m c.args.task.now.k job (omega arith) in
    grind (arith, common_steps, agree)
