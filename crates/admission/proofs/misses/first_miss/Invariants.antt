use Rattle.std.proofs.Common.{◌≡◌, ℕ, ◌<◌}
use Rattle.plan.specs.TaskSet.{task_set}
use Rattle.edf.specs.Plans.{system}
use Rattle.edf.specs.Run.{silent, trace, Misses}
use Rattle.service.specs.Rows.{view}
use Rattle.admission.proofs.misses.first_miss.Given as goal

-- the run has come to this tick, and nobody was late before
abbrev pub invariant-loop-tick : goal.invariant-loop-tick
invariant-loop-tick g l =
    let S = system (task_set l.load.plan.now) (g.P.Pattern.meaning l.load.policy.now) in
    (view (task_set l.load.plan.now) l.backlog ≡ trace S silent l.tick) × ((n : ℕ) → n < l.tick → Misses S silent n → ⊥)
