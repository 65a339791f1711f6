-- The words for layers, places and refusals. Assumes nothing.
use Rattle.std.specs.Prelude.{ℕ, List, ◌++◌, codes}
use Rattle.std.specs.Fmt.{decimal}
use Rattle.plan.specs.declared.fault.Layer.{Layer}
use Rattle.plan.specs.declared.fault.Layer.TheVariants as layer
use Rattle.plan.specs.declared.fault.Place.{Place}
use Rattle.plan.specs.declared.fault.Place.TheVariants as place
use Rattle.plan.specs.declared.fault.PlanFault.{PlanFault}
use Rattle.plan.specs.declared.fault.PlanFault.TheVariants as plan
use Rattle.plan.specs.declared.fault.RecordError.{RecordError}
use Rattle.plan.specs.declared.fault.RecordError.TheVariants.{Period, Deadline, Work, Constraint, SpeedOrRest}

abbrev pub layer_name : Layer → List ℕ
layer_name layer.Record = codes "record"
layer_name layer.Book = codes "book"
layer_name layer.Plan = codes "plan"
layer_name layer.Runner = codes "runner"

-- as the end of a sentence
abbrev pub place_text : Place → List ℕ
place_text (place.Block block) = codes "in block " ++ decimal block
place_text (place.Record block record') = codes "in block " ++ (decimal block ++ (codes ", record " ++ decimal record'))
place_text (place.Task number) = codes "at task " ++ decimal number

abbrev pub record_reason : RecordError → List ℕ
record_reason Period = codes "the period is zero"
record_reason Deadline = codes "the deadline is zero or longer than the period"
record_reason Work = codes "the work is zero or longer than the deadline"
record_reason Constraint = codes "m is zero or above k, or k is above 32"
record_reason SpeedOrRest = codes "the speed is neither high nor low, or the rest of the record is not zero"

abbrev pub plan_reason : PlanFault → List ℕ
plan_reason (plan.Record fault) = record_reason fault.error
plan_reason plan.Full = codes "the plan has 30 tasks already"
plan_reason plan.Ratio = codes "the ratio of the speeds is out of range"
