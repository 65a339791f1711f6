-- The defined verdict is right: the spans of one cycle decide, and a timetable exists exactly when none is overloaded.
use Rattle.std.proofs.Common.{◌≡◌, ℕ, ◌<◌, ◌≤◌, Bool, true, false, cond, ltb, Some, None, Err, Option, refl, arith}
use Rattle.std.proofs.lemmas.Bool.{ltb-true, ltb-false}
use Rattle.plan.specs.Bounded.{Bounded}
use Rattle.plan.specs.TaskSet.{TaskSet}
use Rattle.pattern.specs.Policy.{Meaning}
use Rattle.edf.specs.Admission.{CycleOf, cycle_of, ServesJobs}
use Rattle.edf.specs.Plans.{system}
use Rattle.edf.specs.Refusal.{Span, refused}
use Rattle.edf.specs.System.{Timetable}
use Rattle.edf.proofs.Verdicts.{plan_cycle_found, plan_one_cycle_is_enough, plan_serves_iff_fits}
use Rattle.admission.specs.Judgement.{RightFor, VerdictIsRight}
use Rattle.admission.specs.Verdicts.{verdict, judged, overload_of}
use Rattle.admission.specs.declared.fault.StartFault.TheVariants.{TooLong}

module _ (set : TaskSet) (policy : Meaning) (bounded : Bounded set) (c : CycleOf set policy (cycle_of set policy)) where
  abbrev H : ℕ
  H = cycle_of set policy

  served_unless_refused : refused (system set policy) H ≡ None → (t : Timetable) × ServesJobs set policy t
  served_unless_refused none = (plan_serves_iff_fits set policy bounded).1 ((plan_one_cycle_is_enough.admits set policy H bounded c).1 none)

  never_served : (x : Span) → refused (system set policy) H ≡ Some x → (t : Timetable) → ServesJobs set policy t → ⊥
  never_served x some t serves =
      let none = (plan_one_cycle_is_enough.admits set policy H bounded c).0 ((plan_serves_iff_fits set policy bounded).0 (t, serves)) in
      cc

  right_for : (long : Bool) → ltb 1048576 H ≡ long → (x : Option Span) → refused (system set policy) H ≡ x →
      RightFor set policy H (cond long (Err TooLong) (judged set policy x))
  right_for true long x _ =
      let above : 1048576 < H = ltb-true 1048576 H long in
      record {
        too_long = (λ _. above, λ _. refl);
        accepted = λ short. absurd (omega arith);
        by_its_cycle = λ h e. cc;
        overloaded = λ short. absurd (omega arith);
        span = λ o e. cc;
        work = λ o e. cc;
      }
  right_for false short None none =
      let below : H ≤ 1048576 = ltb-false 1048576 H short in
      let t = served_unless_refused none in
      record {
        too_long = (λ e. cc, λ above. absurd (omega arith));
        accepted = λ _. (λ _. t, λ _. refl);
        by_its_cycle = λ h e. cc;
        overloaded = λ _. (λ o. cc o.1, λ never. absurd (never t.0 t.1));
        span = λ o e. cc;
        work = λ o e. cc;
      }
  right_for false short (Some x) some =
      let below : H ≤ 1048576 = ltb-false 1048576 H short in
      let carried = overload_of set policy x in
      record {
        too_long = (λ e. cc, λ above. absurd (omega arith));
        accepted = λ _. (λ e. cc, λ t. absurd (never_served x some t.0 t.1));
        by_its_cycle = λ h e. cc;
        overloaded = λ _. (λ _. never_served x some, λ _. (carried, refl));
        span = λ o e. let same : carried ≡ o = cc in rw (← same) ((plan_one_cycle_is_enough.refuses set policy H bounded c x.from x.to).1 some);
        work = λ o e. let same : carried ≡ o = cc in rw (← same) refl;
      }

pub verdict_is_right : VerdictIsRight
unfolding verdict
verdict_is_right set policy bounded lawful =
    let H = cycle_of set policy in
    let c = (plan_cycle_found.only set policy bounded lawful H).1 refl in
    (H, c, right_for set policy bounded c (ltb 1048576 H) refl (refused (system set policy) H) refl)
