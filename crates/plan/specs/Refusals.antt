-- What each refusal of the record and the plan layer says: its number, layer, place and carried values.
-- Assumes nothing.
use Rattle.std.specs.Prelude.{ℕ, Some, None, Ok, Err, Option, Result}
use Rattle.plan.specs.declared.fault.Account.{Account}
use Rattle.plan.specs.declared.fault.Layer.{Layer}
use Rattle.plan.specs.declared.fault.Layer.TheVariants as layer
use Rattle.plan.specs.declared.fault.Place.{Place}
use Rattle.plan.specs.declared.fault.Place.TheVariants as place
use Rattle.plan.specs.declared.fault.PlanFault.{PlanFault}
use Rattle.plan.specs.declared.fault.PlanFault.TheVariants as plan
use Rattle.plan.specs.declared.fault.RecordError.{RecordError}
use Rattle.plan.specs.declared.fault.RecordError.TheVariants.{Period, Deadline, Work, Constraint, SpeedOrRest}
use Rattle.plan.specs.declared.fault.RecordFault.{RecordFault}

-- a refusal that carries no overload
abbrev pub plain : ℕ → Layer → Option Place → Account
plain number from at = record { number = number; layer = from; place = at; overload = None }

abbrev pub record_number : RecordError → ℕ
record_number Period = 7
record_number Deadline = 8
record_number Work = 9
record_number Constraint = 10
record_number SpeedOrRest = 11

abbrev pub record_account : RecordFault → Account
record_account fault = plain (record_number fault.error) layer.Record fault.place

abbrev pub plan_account : PlanFault → Account
plan_account (plan.Record fault) = record_account fault
plan_account plan.Full = plain 17 layer.Plan (Some (place.Task 30))
plan_account plan.Ratio = plain 5 layer.Plan None

-- a record's fault, carried whole
abbrev pub in_plan : RecordFault → PlanFault
in_plan fault = plan.Record fault

-- the answer of a call that refuses with a fault, or else answers a
abbrev pub answer : {A F : Type 0} → Option F → A → Result A F
answer None a = Ok a
answer (Some fault) a = Err fault

-- what a call leaves: the new value, or the old one if it refuses
abbrev pub left : {A F : Type 0} → Option F → A → A → A
left None new old = new
left (Some fault) new old = old
