use Rattle.std.proofs.Common.{◌≡◌, ◌∙◌, arith, rules, tests}
use Rattle.std.proofs.lemmas.Iterator.{YieldsList-from_slice}
use Rattle.std.proofs.lemmas.Iterator.Consumers.{YieldsList-from_enumerate, YieldsList-from_filter}
use Rattle.std.specs.Option.{option_map}
use Rattle.plan.specs.Bounded.{count}
use Rattle.plan.specs.TaskSet.{TaskSet, task_set}
use Rattle.edf.proofs.Choice.{choose_earliest}
use Rattle.edf.specs.Tick.{Counters, choose}
use Rattle.service.proofs.Choosing.{min_by_key_picks, busy, ticks_of, chosen, number_of}
use Rattle.service.specs.Rows.{view}
use Rattle.service.proofs.backlog.Backlog.choose.Goals as goal

pub returns : goal.returns
returns c =
    let tasks : TaskSet = task_set c.args.plan.now in
    let all : Counters = view tasks c.args.self.now in
    let picked =
    min_by_key_picks (λ p. (p.0, p.1.now)) ticks_of _ _ (λ x n q k. search (rules, tests)) c.min_by_key.result c.min_by_key.ensures.ran
    (YieldsList-from_filter _ busy (YieldsList-from_enumerate (YieldsList-from_slice c.iter.result.rest.now (cc)) (cc)) c.filter.ensures.closure (λ x r q k. search (rules, tests))) in
    let number : c.map.result ≡ option_map (λ p. p.0) c.min_by_key.result = search rules in
    let answer : c.map.result ≡ choose (count tasks) all =
    number ∙ number_of tasks c.args.self.now (λ r. r.now) c.min_by_key.result (choose (count tasks) all)
    (picked ∙ chosen tasks c.args.self.now c.iter.result.rest.now c.len.result c.len.ensures.answer (omega arith) (search rules)) in
    record { answer = answer; earliest = rw answer (choose_earliest all (count tasks)) }
