-- What the searches of an admission find. Assumes nothing.
use Rattle.std.specs.Prelude.{ℕ, ◌<◌, ◌≤◌, Some, None, Option}
use Rattle.std.specs.Option.{option_map}
use Rattle.plan.specs.TaskSet.{TaskSet}
use Rattle.plan.specs.declared.fault.Overload.{Overload}
use Rattle.pattern.specs.Policy.{Meaning}
use Rattle.edf.specs.Plans.{system}
use Rattle.edf.specs.Refusal.{start_below}
use Rattle.edf.specs.Run.{silent, Misses}
use Rattle.edf.specs.System.{System}
use Rattle.admission.specs.Verdicts.{overload_of}

-- The first tick, up to the last one, that reports a task late.
abbrev pub FirstMiss : System → (last : ℕ) → Option ℕ → Type 0
FirstMiss S last None = (n : ℕ) → n ≤ last → Misses S silent n → ⊥
FirstMiss S last (Some e) = (e ≤ last) × Misses S silent e × ((n : ℕ) → n < e → Misses S silent n → ⊥)

-- Of the overloaded spans to e the one that starts last, with its work.
abbrev pub last_overload : TaskSet → Meaning → (e : ℕ) → Option Overload
last_overload set policy e = option_map (λ s. overload_of set policy (record { from = s; to = e })) (start_below (system set policy) e e)
