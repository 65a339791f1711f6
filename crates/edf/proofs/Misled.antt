-- The plans that fool the hurried tests, by evaluation of one cycle.
use Rattle.std.proofs.Common.{◌≡◌, ℕ, suc, ◌≤◌, true, leb, List, [], ◌∷◌, sym, refl, subst, arith}
use Rattle.std.proofs.lemmas.Bool.{leb-true}
use Rattle.plan.specs.TaskSet.{TaskSet}
use Rattle.pattern.specs.Policy.{Meaning}
use Rattle.pattern.specs.Even.{even}
use Rattle.pattern.specs.Shifted.{shifted}
use Rattle.pattern.specs.Evens.{even_lawful}
use Rattle.pattern.specs.Shifts.{shifted_lawful}
use Rattle.edf.specs.System.{Exceeds, Timetable}
use Rattle.edf.specs.Refusal.{start_below, refused}
use Rattle.edf.specs.Cycle.{gcd_in, cycle}
use Rattle.plan.specs.Bounded.{Bounded}
use Rattle.edf.specs.Plans.{system}
use Rattle.edf.specs.Admission.{CycleOf, OverloadedSpan, ServesJobs, work_of_span}
use Rattle.edf.specs.Meetings.{halves, overloaded, RefusedWith}
use Rattle.edf.specs.Mistakes.{FitsFrom0, HurriedTestsMislead}
use Rattle.edf.proofs.Below.{all_below, each_below}
use Rattle.edf.proofs.Periods.{from_0_in_cycle}
use Rattle.edf.proofs.Releases.{works_agree}
use Rattle.edf.proofs.Verdicts.{plan_is_periodic, plan_serves_iff_fits}
use Rattle.edf.proofs.Worked.{cycle_tested, tested}

-- a plan with an overloaded span is served by no timetable
unserved : (set : TaskSet) (policy : Meaning) (works : List ℕ) (s e work : ℕ) → RefusedWith set policy works s e work → (t : Timetable) → ServesJobs set policy t → ⊥
unserved set policy works s e work r t serves = (plan_serves_iff_fits set policy r.plan.bounded).0 (t, serves) s e r.span.overloaded

-- the spans from 0 to the ends of one cycle tell of all spans from 0
from_0_by_cycle : (set : TaskSet) (policy : Meaning) (H : ℕ) → Bounded set → CycleOf set policy H →
    all_below (suc H) (λ e. leb (work_of_span set policy 0 e) e) ≡ true → FitsFrom0 set policy
from_0_by_cycle set policy H bounded c t =
    subst (λ w. (e : ℕ) → Exceeds w 0 e → ⊥) (works_agree set policy bounded)
    (from_0_in_cycle (system set policy) H (plan_is_periodic set policy H bounded c)
    (subst (λ w. (e : ℕ) → e ≤ H → Exceeds w 0 e → ⊥) (sym (works_agree set policy bounded)) inside))
  where
    inside : (e : ℕ) → e ≤ H → OverloadedSpan set policy 0 e → ⊥
    inside e h o =
        omega (
          arith,
          o.excess,
          leb-true (work_of_span set policy 0 e) e (each_below (suc H) (λ e. leb (work_of_span set policy 0 e) e) t e (omega arith)),
        )

shifted_halves : RefusedWith halves (shifted (1 ∷ 1 ∷ [])) (2 ∷ 3 ∷ []) 4 8 5
unfolding refused start_below cycle gcd_in
shifted_halves = tested (overloaded halves (shifted (1 ∷ 1 ∷ [])) (2 ∷ 3 ∷ []) 4 8 5) refl

even_halves : RefusedWith halves even (2 ∷ 3 ∷ []) 0 4 5
unfolding refused start_below cycle gcd_in
even_halves = tested (overloaded halves even (2 ∷ 3 ∷ []) 0 4 5) refl

shifted_cycle : CycleOf halves (shifted (1 ∷ 1 ∷ [])) 8
unfolding cycle gcd_in
shifted_cycle = cycle_tested halves (shifted (1 ∷ 1 ∷ [])) 8 refl

pub hurried_tests_mislead : HurriedTestsMislead
hurried_tests_mislead = record {
  spans_from_0 = record {
    bounded = shifted_halves.plan.bounded;
    lawful = shifted_lawful (1 ∷ 1 ∷ []);
    passes = from_0_by_cycle halves (shifted (1 ∷ 1 ∷ [])) 8 shifted_halves.plan.bounded shifted_cycle refl;
    unserved = unserved halves (shifted (1 ∷ 1 ∷ [])) (2 ∷ 3 ∷ []) 4 8 5 shifted_halves;
  };
  shares = record {
    bounded = even_halves.plan.bounded;
    lawful = even_lawful;
    passes = omega arith;
    unserved = unserved halves even (2 ∷ 3 ∷ []) 0 4 5 even_halves;
  };
}
