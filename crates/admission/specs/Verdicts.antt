-- The verdict on a plan under a policy, as a function that computes. Assumes nothing.
use Rattle.std.specs.Prelude.{ℕ, cond, Some, None, Ok, Err, Option, Result, nat_lt}
use Rattle.plan.specs.TaskSet.{TaskSet}
use Rattle.plan.specs.declared.fault.Overload.{Overload}
use Rattle.pattern.specs.Policy.{Meaning}
use Rattle.edf.specs.Admission.{cycle_of, work_of_span}
use Rattle.edf.specs.Plans.{system}
use Rattle.edf.specs.Refusal.{Span, refused}
use Rattle.admission.specs.declared.fault.StartFault.{StartFault}
use Rattle.admission.specs.declared.fault.StartFault.TheVariants.{TooLong, Overloaded}

module _ (set : TaskSet) (policy : Meaning) where
  -- A span with its work, as a refusal carries it.
  abbrev pub overload_of : Span → Overload
  overload_of span = record { start = span.from; end = span.to; work = work_of_span set policy span.from span.to }

  -- Accepted with the cycle, or overloaded by the span that is refused.
  abbrev pub judged : Option Span → Result ℕ StartFault
  judged None = Ok (cycle_of set policy)
  judged (Some span) = Err (Overloaded (overload_of span))

  -- A cycle above 1,048,576 ticks is too long; else the spans of one cycle decide.
  unfoldable pub verdict : Result ℕ StartFault
  verdict = cond (nat_lt 1048576 (cycle_of set policy)) (Err TooLong) (judged (refused (system set policy) (cycle_of set policy)))
