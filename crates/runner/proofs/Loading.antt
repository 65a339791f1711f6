-- What a load answers and leaves, by what reading and starting did.
use Rattle.std.proofs.Common.{◌≡◌, ℕ, ◌<◌, List, Ok, Result, sym, ap, ◌∙◌, subst}
use Rattle.std.specs.Result.{result_map_both}
use Rattle.plan.proofs.Answered.{fault_of_ok, left_accepted}
use Rattle.plan.specs.Refusals.{answer, left}
use Rattle.plan.specs.TaskSet.{TaskSet}
use Rattle.book.specs.Bytes.{byte}
use Rattle.book.specs.Reading.{read_fault, decoded}
use Rattle.book.specs.declared.fault.BookFault.{BookFault}
use Rattle.pattern.specs.Policy.{Meaning, Lawful}
use Rattle.admission.specs.Verdicts.{verdict}
use Rattle.admission.specs.declared.fault.StartFault.{StartFault}
use Rattle.runner.proofs.Judging.{right_load}
use Rattle.runner.specs.Promise.{RightLoad}
use Rattle.runner.specs.Refusals.{by_start}
use Rattle.runner.specs.Rules.{load_answer}
use Rattle.runner.specs.declared.fault.LoadFault.{LoadFault}

-- reading answered that the book passes
abbrev pub Passed : List ℕ → Type 0
Passed book = ◌≡◌ {A = Result (Unit {0}) BookFault} (Ok tt) (answer (read_fault book) tt)

-- what reading leaves, if it passes, is what the book holds
pub held : (book : List ℕ) (set old : TaskSet) → Passed book → set ≡ left (read_fault book) (decoded book) old → set ≡ decoded book
held book set old passed after = after ∙ sym (left_accepted (decoded book) old (fault_of_ok (read_fault book) tt tt passed))

module _ (policy : Meaning) (book : List ℕ) (r : Result ℕ LoadFault) where
  abbrev pub ByTheRules : Type 0
  ByTheRules = r ≡ load_answer (read_fault book) (verdict (decoded book) policy)

  -- the book was read, and its plan started
  pub read_and_started : (set old : TaskSet) (s : Result ℕ StartFault) → Passed book → set ≡ left (read_fault book) (decoded book) old →
      s ≡ verdict set policy → r ≡ result_map_both (λ H. H) by_start s → ByTheRules
  read_and_started set old s passed after started carried =
      carried
      ∙ ap (result_map_both (λ H. H) by_start) (started ∙ ap (λ x. verdict x policy) (held book set old passed after))
      ∙ ap (λ o. load_answer o (verdict (decoded book) policy)) (sym (fault_of_ok (read_fault book) tt tt passed))

  pub answered_right : Lawful policy → ((i : ℕ) → byte book i < 256) → ByTheRules → RightLoad policy book r
  answered_right lawful bytes e = subst (RightLoad policy book) (sym e) (right_load policy book lawful bytes)
