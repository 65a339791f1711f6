-- What each refusal of a start says: its number, layer, place and carried values, and its reason in words.
-- Assumes nothing.
use Rattle.std.specs.Prelude.{ℕ, List, Some, None, codes}
use Rattle.plan.specs.Refusals.{plain}
use Rattle.plan.specs.declared.fault.Account.{Account}
use Rattle.plan.specs.declared.fault.Layer.TheVariants as layer
use Rattle.admission.specs.declared.fault.StartFault.{StartFault}
use Rattle.admission.specs.declared.fault.StartFault.TheVariants.{TooLong, Overloaded}

abbrev pub start_account : StartFault → Account
start_account TooLong = plain 12 layer.Runner None
start_account (Overloaded span) = record { number = 13; layer = layer.Runner; place = None; overload = Some span }

-- the reason, in words
abbrev pub start_reason : StartFault → List ℕ
start_reason TooLong = codes "the cycle is longer than 1,048,576 ticks"
start_reason (Overloaded span) = codes "a span holds more work than ticks"
