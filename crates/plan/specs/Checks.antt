-- The checks of a task's numbers and of a ratio, and what adding a task and setting a ratio come to.
-- Assumes nothing.
use Rattle.std.specs.Prelude.{ℕ, Bool, cond, ◌||◌, [], ◌∷◌, ◌++◌, length, Some, None, Option, Result, ◌==◌, nat_le, nat_lt}
use Rattle.std.specs.Option.{option_map}
use Rattle.plan.specs.Refusals.{answer, in_plan}
use Rattle.plan.specs.TaskSet.{Parameters, TaskSet}
use Rattle.plan.specs.declared.draft.Draft.{Draft}
use Rattle.plan.specs.declared.fault.Place.{Place}
use Rattle.plan.specs.declared.fault.Place.TheVariants as place
use Rattle.plan.specs.declared.fault.PlanFault.{PlanFault}
use Rattle.plan.specs.declared.fault.PlanFault.TheVariants as plan
use Rattle.plan.specs.declared.fault.RecordError.{RecordError}
use Rattle.plan.specs.declared.fault.RecordError.TheVariants.{Period, Deadline, Work, Constraint, SpeedOrRest}
use Rattle.plan.specs.declared.fault.RecordFault.{RecordFault}
use Rattle.plan.specs.declared.task.Ratio.{Ratio}
use Rattle.plan.specs.declared.task.Speed.{Speed}
use Rattle.plan.specs.declared.task.Speed.TheVariants.{High, Low}

-- 0 is high, 1 is low
abbrev pub speed_of : ℕ → Speed
speed_of n = cond (n == 0) High Low

abbrev pub parameters_of : Draft → Parameters
parameters_of d = record {
  period = d.period;
  deadline = d.deadline;
  work = d.work;
  m = d.m;
  k = d.k;
  speed = speed_of d.speed;
}

-- refuses with e if something is bad, and else goes on to the rest of the checks
abbrev pub refuse_if : {E : Type 0} → Bool → E → Option E → Option E
refuse_if bad e rest = cond bad (Some e) rest

-- the check of a speed: it is 0 or 1
abbrev pub speed_error : ℕ → Option RecordError
speed_error n = refuse_if (nat_lt 1 n) SpeedOrRest None

-- the first check that the numbers of a task fail
abbrev pub first_error : Draft → Option RecordError
first_error d =
    refuse_if (d.period == 0) Period
    (refuse_if (d.deadline == 0 || nat_lt d.period d.deadline) Deadline
    (refuse_if (d.work == 0 || nat_lt d.deadline d.work) Work
    (refuse_if (d.m == 0 || (nat_lt d.k d.m || nat_lt 32 d.k)) Constraint
    (speed_error d.speed))))

-- a fault at that place
abbrev pub fault_at : Option Place → RecordError → RecordFault
fault_at at e = record { error = e; place = at }

abbrev pub record_fault : Draft → Option Place → Option RecordFault
record_fault d at = option_map (fault_at at) (first_error d)

-- the task that the numbers give, or the first fault, at the place that its reader gives
abbrev pub checked : Draft → Option Place → Result Parameters RecordFault
checked d at = answer (record_fault d at) (parameters_of d)

-- why a task cannot be added: 30 tasks first, then its numbers, at the number that it would have had
abbrev pub add_fault : TaskSet → Draft → Option PlanFault
add_fault set d =
    refuse_if (nat_le 30 (length set.tasks)) plan.Full
    (option_map in_plan (record_fault d (Some (place.Task (length set.tasks)))))

abbrev pub with_task : TaskSet → Parameters → TaskSet
with_task set t = record { tasks = set.tasks ++ (t ∷ []); p = set.p; q = set.q }

-- the number that the next task gets, or none where there are 30 already
abbrev pub next_number : TaskSet → Option ℕ
next_number set = cond (nat_le 30 (length set.tasks)) None (Some (length set.tasks))

abbrev pub appended : TaskSet → Parameters → TaskSet
appended set t = cond (nat_le 30 (length set.tasks)) set (with_task set t)

-- outside 1 ≤ q ≤ p ≤ 16
abbrev pub out_of_gear : ℕ → ℕ → Bool
out_of_gear p q = q == 0 || (nat_lt p q || nat_lt 16 p)

abbrev pub gears : Ratio → ℕ × ℕ
gears ratio = (ratio.p, ratio.q)

abbrev pub geared : ℕ → ℕ → Option (ℕ × ℕ)
geared p q = cond (out_of_gear p q) None (Some (p, q))

abbrev pub ratio_fault : ℕ → ℕ → Option PlanFault
ratio_fault p q = refuse_if (out_of_gear p q) plan.Ratio None

abbrev pub with_ratio : TaskSet → ℕ → ℕ → TaskSet
with_ratio set p q = record { tasks = set.tasks; p = p; q = q }
