use Rattle.std.proofs.Common.{◌≡◌, ◌+◌, ◌-◌, ap, ◌∙◌, arith}
use Rattle.plan.specs.TaskSet.{task_set}
use Rattle.edf.specs.Plans.{system}
use Rattle.edf.specs.Refusal.{start_below}
use Rattle.edf.specs.System.{System}
use Rattle.admission.proofs.Demands.{start_earlier, not_here, here, none_below_zero, due_small, found_last, found_none}
use Rattle.admission.proofs.spans.last_overload.Goals as goal

pub overflow_add-work : goal.overflow_add-work
overflow_add-work g c =
    let small = due_small c.args.load.now.plan.now (g.P.Pattern.meaning c.args.load.now.policy.now) c.args.end (c.loop-start.start - 1) in
    omega (arith, c.loop-start.invariant.1, c.due-work.ensures)

pub returns-then-work-end : goal.returns-then-work-end
returns-then-work-end g c =
    let S : System = system (task_set c.args.load.now.plan.now) (g.P.Pattern.meaning c.args.load.now.policy.now) in
    let start = c.loop-start.start - 1 in
    let next : c.loop-start.start ≡ start + 1 = omega arith in
    let work = start_earlier S c.args.end start c.loop-start.start next c.loop-start.auto.start in
    found_last c.args.load.now.plan.now (g.P.Pattern.meaning c.args.load.now.policy.now) start c.args.end (c.loop-start.work + c.due-work.result)
    (c.loop-start.invariant.2 ∙ ap (start_below S c.args.end) next ∙ here S c.args.end start (omega arith) (omega (arith, work, c.loop-start.invariant.0, c.due-work.ensures)))
    (omega (arith, work, c.loop-start.invariant.0, c.due-work.ensures))

pub loop-start-preserved : goal.loop-start-preserved
loop-start-preserved g c =
    let S : System = system (task_set c.args.load.now.plan.now) (g.P.Pattern.meaning c.args.load.now.policy.now) in
    let start = c.loop-start.start - 1 in
    let next : c.loop-start.start ≡ start + 1 = omega arith in
    let work = start_earlier S c.args.end start c.loop-start.start next c.loop-start.auto.start in (
      omega (arith, work, c.loop-start.invariant.0, c.due-work.ensures),
      omega arith,
      c.loop-start.invariant.2 ∙ ap (start_below S c.args.end) next ∙ not_here S c.args.end start (omega (arith, work, c.loop-start.invariant.0, c.due-work.ensures)),
    )

pub returns : goal.returns
returns g c =
    let S : System = system (task_set c.args.load.now.plan.now) (g.P.Pattern.meaning c.args.load.now.policy.now) in
    let first : c.loop-start.start ≡ 0 = omega arith in
    found_none c.args.load.now.plan.now (g.P.Pattern.meaning c.args.load.now.policy.now) c.args.end
    (c.loop-start.invariant.2 ∙ ap (start_below S c.args.end) first ∙ none_below_zero S c.args.end)
