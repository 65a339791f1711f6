use Rattle.std.proofs.Common.{arith}
use Rattle.plan.specs.TaskSet.{task_set}
use Rattle.edf.specs.Plans.{system}
use Rattle.service.specs.Rows.{view}
use Rattle.admission.proofs.Lateness.{run_begins, run_goes_on, late_misses, none_late_so_far}
use Rattle.admission.proofs.misses.first_miss.Goals as goal

pub loop-tick-init : goal.loop-tick-init
loop-tick-init g c =
    let set = task_set c.args.load.now.plan.now in
    let S = system set (g.P.Pattern.meaning c.args.load.now.policy.now) in
    (run_begins S (view set c.cleared-backlog.result) (c.cleared-backlog.ensures set), λ n h. absurd (omega arith))

pub returns-then-tick-ne0 : goal.returns-then-tick-ne0
returns-then-tick-ne0 g c =
    let set = task_set c.args.load.now.plan.now in
    let S = system set (g.P.Pattern.meaning c.args.load.now.policy.now) in (
      omega arith,
      late_misses S c.loop-tick.tick (view set c.loop-tick.backlog) c.tick.result c.loop-tick.invariant.0 c.tick.ensures.answer c.if-tick-ne0.true,
      c.loop-tick.invariant.1,
    )

pub loop-tick-preserved : goal.loop-tick-preserved
loop-tick-preserved g c =
    let set = task_set c.args.load.now.plan.now in
    let S = system set (g.P.Pattern.meaning c.args.load.now.policy.now) in
    let before = view set c.loop-tick.backlog in (
      run_goes_on S c.loop-tick.tick before (view set c.tick.new.self) c.loop-tick.invariant.0 c.tick.ensures.after,
      none_late_so_far S c.loop-tick.tick before c.tick.result c.loop-tick.invariant.0 c.tick.ensures.answer c.if-tick-ne0.false c.loop-tick.invariant.1,
    )

-- the last tick is the end of the cycle
pub returns-else-tick-ne0 : goal.returns-else-tick-ne0
returns-else-tick-ne0 g c =
    let set = task_set c.args.load.now.plan.now in
    let S = system set (g.P.Pattern.meaning c.args.load.now.policy.now) in
    let none =
    none_late_so_far S c.loop-tick.tick (view set c.loop-tick.backlog) c.tick.result c.loop-tick.invariant.0 c.tick.ensures.answer c.if-tick-ne0.false c.loop-tick.invariant.1 in
    λ n h. none n (omega arith)
