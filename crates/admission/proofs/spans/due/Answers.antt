use Rattle.std.proofs.Common.{◌∙◌, rules, tests}
use Rattle.std.proofs.lemmas.Iterator.{YieldsList-from_slice, YieldsList-from_map}
use Rattle.std.proofs.lemmas.Iterator.Consumers.{YieldsList-at, YieldsList-from_enumerate, YieldsList-from_filter_map, YieldsList-from_filter, sum_by_from_yields_List, fits_by_from_yields_list}
use Rattle.std.specs.List.{enumerate_from}
use Rattle.plan.specs.TaskSet.{TaskSet, task_set}
use Rattle.pattern.specs.Policy.{Meaning}
use Rattle.admission.proofs.Demands.{job_at, in_time, job_ticks, due_of, due_chain, due_chain_small}
use Rattle.admission.proofs.spans.due.Goals as goal

pub sum-requires-clause-fits : goal.sum-requires-clause-fits
sum-requires-clause-fits g c =
    let set : TaskSet = task_set c.args.load.now.plan.now in
    let policy : Meaning = g.P.Pattern.meaning c.args.load.now.policy.now in
    fits_by_from_yields_list job_ticks (due_of set policy c.args.tick c.args.end (enumerate_from 0 c.tasks.result.now)) c.map.result _
    (YieldsList-from_map _ job_ticks
    (YieldsList-at c.map.ensures.source (YieldsList-from_filter _ (in_time c.args.tick c.args.end)
    (YieldsList-at c.filter.ensures.source (YieldsList-from_filter_map _ (job_at set policy c.args.tick)
    (YieldsList-from_enumerate (YieldsList-from_slice c.tasks.result.now (cc)) (cc))
    c.filter_map.ensures.closure (λ x r q k. search rules)))
    c.filter.ensures.closure (λ x r q k. search (rules, tests))))
    c.map.ensures.closure (λ x r q k. search rules))
    (due_chain_small c.args.load.now.plan.now policy c.tasks.result.now c.tasks.ensures c.args.end c.args.tick)

pub returns : goal.returns
returns g c =
    let set : TaskSet = task_set c.args.load.now.plan.now in
    let policy : Meaning = g.P.Pattern.meaning c.args.load.now.policy.now in
    sum_by_from_yields_List job_ticks (due_of set policy c.args.tick c.args.end (enumerate_from 0 c.tasks.result.now)) c.map.result c.sum.result c.sum.ensures.ran
    (YieldsList-from_map _ job_ticks
    (YieldsList-at c.map.ensures.source (YieldsList-from_filter _ (in_time c.args.tick c.args.end)
    (YieldsList-at c.filter.ensures.source (YieldsList-from_filter_map _ (job_at set policy c.args.tick)
    (YieldsList-from_enumerate (YieldsList-from_slice c.tasks.result.now (cc)) (cc))
    c.filter_map.ensures.closure (λ x r q k. search rules)))
    c.filter.ensures.closure (λ x r q k. search (rules, tests))))
    c.map.ensures.closure (λ x r q k. search rules))
    ∙ due_chain c.args.load.now.plan.now policy c.tasks.result.now c.tasks.ensures c.args.end c.args.tick
