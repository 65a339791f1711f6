use Rattle.std.proofs.Common.{ℕ, ◌<◌, Bool, IfSome, Option, ap, ◌∙◌}
use Rattle.plan.specs.Bounded.{count}
use Rattle.plan.specs.TaskSet.{TaskSet, task_set}
use Rattle.edf.specs.Plans.{system}
use Rattle.edf.specs.System.{System}
use Rattle.edf.specs.Tick.{Counters, release}
use Rattle.service.proofs.Choosing.{earliest_below}
use Rattle.service.proofs.Ticking.{Steps, tick_answers, tick_leaves, tick_serves_earliest}
use Rattle.service.specs.Rows.{view}
use Rattle.service.proofs.backlog.Backlog.tick.Goals as goal

pub returns : goal.returns
returns g c =
    let tasks : TaskSet = task_set c.args.load.now.plan.now in
    let S : System = system tasks (g.P.Pattern.meaning c.args.load.now.policy.now) in
    let n : ℕ = c.args.position in
    let before : Counters = view tasks c.args.self.now in
    let opened : Counters = view tasks c.release.new.self in
    let left : Counters = view tasks c.age.new.self in
    let served : Option ℕ = c.choose-served.result in
    let finished : Bool = c.serve-finished.result in
    let missed : ℕ = c.drop_late-late.result in
    let below : IfSome served (λ k. k < count tasks) = earliest_below (count tasks) opened served c.choose-served.ensures.earliest in
    let steps : Steps S n before served finished missed left = record {
      opened = opened;
      worked = view tasks c.serve-finished.new.self;
      releases = c.release.ensures.after ∙ ap (release S n) c.drop_late-late.ensures.after;
      chooses = c.choose-served.ensures.answer;
      serves = c.serve-finished.ensures.after tasks;
      finishes = c.serve-finished.ensures.finished tasks below;
      ages = c.age.ensures.after;
      misses = c.drop_late-late.ensures.missed;
    } in
    record {
      answer = tick_answers S n before served finished missed left steps;
      after = tick_leaves S n before served finished missed left steps;
      earliest = tick_serves_earliest S n before served finished missed left steps c.choose-served.ensures.earliest;
      spare = c.age.ensures.spare ∙ c.serve-finished.ensures.spare tasks below ∙ c.release.ensures.spare ∙ c.drop_late-late.ensures.spare;
    }
