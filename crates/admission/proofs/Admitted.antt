-- What the cycle, the first miss and the last overload found say is the verdict.
use Rattle.std.proofs.Common.{◌≡◌, ℕ, ◌≤◌, Bool, true, false, cond, ltb, Some, None, Ok, Err, Option, Result, sym, refl, ap, ◌∙◌, subst, arith}
use Rattle.std.specs.Option.{option_map}
use Rattle.std.proofs.lemmas.Bool.{ltb-false}
use Rattle.plan.proofs.Bounding.{plan_is_bounded}
use Rattle.plan.specs.Bounded.{Bounded}
use Rattle.plan.specs.TaskSet.{TaskSet, task_set}
use Rattle.plan.specs.declared.fault.Overload.{Overload}
use Rattle.plan.specs.declared.plan.Plan.{Plan}
use Rattle.pattern.specs.Policy.{Meaning, Lawful}
use Rattle.edf.specs.Admission.{CycleOf, cycle_of}
use Rattle.edf.specs.Plans.{system}
use Rattle.edf.specs.Refusal.{Span, refused}
use Rattle.edf.proofs.Verdicts.{plan_cycle_found, plan_one_cycle_is_enough, plan_cycle_run_decides}
use Rattle.admission.specs.Judgement.{Right}
use Rattle.admission.specs.Searches.{FirstMiss, last_overload}
use Rattle.admission.specs.Verdicts.{verdict, judged, overload_of}
use Rattle.admission.specs.declared.fault.StartFault.{StartFault}
use Rattle.admission.specs.declared.fault.StartFault.TheVariants.{TooLong, Overloaded}
use Rattle.admission.proofs.Judged.{verdict_is_right}

module _ (plan : Plan) {policy : Meaning} (lawful : Lawful policy) where
  abbrev set : TaskSet
  set = task_set plan

  bounded : Bounded set
  bounded = plan_is_bounded plan

  abbrev H : ℕ
  H = cycle_of set policy

  -- the cycle as it is found: none if it is too long
  abbrev admissible : Option ℕ
  admissible = cond (ltb 1048576 H) None (Some H)

  is_cycle : CycleOf set policy H
  is_cycle = (plan_cycle_found.only set policy bounded lawful H).1 refl

  pub right_as_defined : (said : Result ℕ StartFault) → said ≡ verdict set policy → Right set policy said
  right_as_defined said defined = subst (Right set policy) (sym defined) (verdict_is_right set policy bounded lawful)

  pub too_long : None ≡ admissible → Err TooLong ≡ verdict set policy
  unfolding verdict
  too_long none = at (ltb 1048576 H) none
    where
      at : (long : Bool) → None ≡ cond long None (Some H) → Err TooLong ≡ cond long (Err TooLong) (judged set policy (refused (system set policy) H))
      at true e = refl
      at false e = cc

  pub cycle_found : (h : ℕ) → Some h ≡ admissible → (h ≡ H) × (h ≤ 1048576) × (ltb 1048576 H ≡ false)
  cycle_found h some = at (ltb 1048576 H) refl some
    where
      at : (long : Bool) → ltb 1048576 H ≡ long → Some h ≡ cond long None (Some H) → (h ≡ H) × (h ≤ 1048576) × (long ≡ false)
      at true t e = cc
      at false f e = let same : h ≡ H = cc in (same, omega (arith, ltb-false 1048576 H f), refl)

  -- the refused span of the cycle, with its work
  abbrev carried : ℕ → Option Overload
  carried h = option_map (overload_of set policy) (refused (system set policy) h)

  -- a run that meets no late task shows that there is none
  pub none_refused : (h : ℕ) → h ≡ H → FirstMiss (system set policy) h None → None ≡ carried h
  none_refused h same never =
      let none : refused (system set policy) H ≡ None =
      (plan_one_cycle_is_enough.admits set policy H bounded is_cycle).0 (λ s e over.
      let late = (plan_cycle_run_decides.late set policy H bounded is_cycle).1 (s, e, over) in
      never late.0 (omega (arith, late.1)) late.2) in
      rw same (ap (option_map (overload_of set policy)) (sym none))

  -- and where one meets a late task first, the last overloaded span to there is it
  pub last_is_refused : (h e : ℕ) → h ≡ H → FirstMiss (system set policy) h (Some e) → last_overload set policy e ≡ carried h
  last_is_refused h e same miss =
      let last = plan_cycle_run_decides.names set policy bounded e miss.1 miss.2 in
      let some : refused (system set policy) H ≡ Some (record { from = last.0; to = e }) =
      (plan_one_cycle_is_enough.refuses set policy H bounded is_cycle last.0 e).0 last.2 in
      ap (option_map (λ s. overload_of set policy (record { from = s; to = e }))) last.1
      ∙ rw same (ap (option_map (overload_of set policy)) (sym some))

  -- the verdict by the refused span
  verdict_by : (h : ℕ) → Some h ≡ admissible → judged set policy (refused (system set policy) h) ≡ verdict set policy
  unfolding verdict
  verdict_by h some =
      let found = cycle_found h some in
      ap (λ k. judged set policy (refused (system set policy) k)) found.0
      ∙ ap (λ b. cond b (Err TooLong) (judged set policy (refused (system set policy) H))) (sym found.2)

  pub accepted : (h : ℕ) → Some h ≡ admissible → None ≡ carried h → Ok h ≡ verdict set policy
  accepted h some none = at (refused (system set policy) h) none ∙ verdict_by h some
    where
      at : (x : Option Span) → None ≡ option_map (overload_of set policy) x → Ok h ≡ judged set policy x
      at None e = ap Ok (cycle_found h some).0
      at (Some x) e = cc

  pub overloaded : (h : ℕ) (o : Overload) → Some h ≡ admissible → Some o ≡ carried h → Err (Overloaded o) ≡ verdict set policy
  overloaded h o some found = at (refused (system set policy) h) found ∙ verdict_by h some
    where
      at : (x : Option Span) → Some o ≡ option_map (overload_of set policy) x → Err (Overloaded o) ≡ judged set policy x
      at None e = cc
      at (Some x) e = cc
