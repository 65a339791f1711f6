-- What a right verdict is, in words of timetables and spans. Assumes nothing.
use Rattle.std.specs.Prelude.{◌≡◌, ℕ, ◌<◌, ◌≤◌, ◌↔◌, Ok, Err, Result}
use Rattle.plan.specs.Bounded.{Bounded}
use Rattle.plan.specs.TaskSet.{TaskSet}
use Rattle.plan.specs.declared.fault.Overload.{Overload}
use Rattle.pattern.specs.Policy.{Meaning, Lawful}
use Rattle.edf.specs.Admission.{CycleOf, ServesJobs, RefusedSpan, work_of_span}
use Rattle.edf.specs.System.{Timetable}
use Rattle.admission.specs.Verdicts.{verdict}
use Rattle.admission.specs.declared.fault.StartFault.{StartFault}
use Rattle.admission.specs.declared.fault.StartFault.TheVariants.{TooLong, Overloaded}

module _ (set : TaskSet) (policy : Meaning) where
  -- The verdict is right for the plan, whose cycle is H.
  pub record RightFor (H : ℕ) (said : Result ℕ StartFault) : Type 0 where
    -- too long exactly if the cycle is above 1,048,576 ticks
    pub too_long : (said ≡ Err TooLong) ↔ (1048576 < H)
    -- else accepted with the cycle exactly if some timetable serves the plan
    pub accepted : H ≤ 1048576 → (said ≡ Ok H) ↔ ((t : Timetable) × ServesJobs set policy t)
    pub by_its_cycle : (h : ℕ) → said ≡ Ok h → h ≡ H
    -- and overloaded exactly if none does
    pub overloaded : H ≤ 1048576 → ((o : Overload) × (said ≡ Err (Overloaded o))) ↔ ((t : Timetable) → ServesJobs set policy t → ⊥)
    -- with an overloaded span and its work; every other overloaded span ends later, or ends with it and starts earlier
    pub span : (o : Overload) → said ≡ Err (Overloaded o) → RefusedSpan set policy o.start o.end
    pub work : (o : Overload) → said ≡ Err (Overloaded o) → o.work ≡ work_of_span set policy o.start o.end

  -- The plan has a cycle, and the verdict is right for it.
  abbrev pub Right : Result ℕ StartFault → Type 0
  Right said = (H : ℕ) × CycleOf set policy H × RightFor H said

-- The defined verdict is right, for every lawful policy.
abbrev pub VerdictIsRight : Type 0
VerdictIsRight = (set : TaskSet) (policy : Meaning) → Bounded set → Lawful policy → Right set policy (verdict set policy)
