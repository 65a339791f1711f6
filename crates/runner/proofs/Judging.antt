-- Starts and loads are answered right and leave the right state, from every state.
use Rattle.std.proofs.Common.{◌≡◌, ℕ, ◌<◌, List, [], ◌∷◌, Some, None, Ok, Err, Option, Result, refl, ap, ◌∙◌, subst, arith}
use Rattle.std.specs.List.{AllByRecursion}
use Rattle.std.specs.Result.{result_map_both}
use Rattle.plan.specs.Refusals.{left}
use Rattle.plan.specs.TaskSet.{TaskSet, task_set}
use Rattle.plan.specs.declared.plan.Plan.{Plan}
use Rattle.plan.proofs.Bounding.{plan_is_bounded}
use Rattle.book.proofs.Bounding.{decoded_is_bounded}
use Rattle.book.specs.Bytes.{byte}
use Rattle.book.specs.Reading.{read_fault, decoded}
use Rattle.book.specs.declared.fault.BookFault.{BookFault}
use Rattle.pattern.specs.Policy.{Meaning, Lawful}
use Rattle.admission.proofs.Judged.{verdict_is_right}
use Rattle.admission.specs.Judgement.{Right}
use Rattle.admission.specs.Verdicts.{verdict}
use Rattle.admission.specs.declared.fault.StartFault.{StartFault}
use Rattle.runner.specs.Calls.{Action, start, load, tick, done, ask, OfBytes}
use Rattle.runner.specs.Logs.{Entry, Log, logged}
use Rattle.runner.specs.Promise.{taken, RightLoad, RightAnswer, RightState}
use Rattle.runner.specs.Refusals.{by_start}
use Rattle.runner.specs.Rules.{State, start_state, load_answer, reply, next, replies_from}
use Rattle.runner.specs.declared.fault.LoadFault.TheVariants.{Book}

module _ (policy : Meaning) (book : List ℕ) where
  -- a book that is read is answered as a start of its plan
  right_if_read : (r : Result ℕ StartFault) → read_fault book ≡ None → Right (decoded book) policy r → RightLoad policy book (result_map_both (λ H. H) by_start r)
  right_if_read (Ok h) e right = record {
    unreadable = λ f. (λ same. let z : ◌≡◌ {A = ℕ} 0 1 = cc in absurd (omega arith), λ same. let z : ◌≡◌ {A = ℕ} 0 1 = cc in absurd (omega arith));
    accepted = λ H same. let g : h ≡ H = cc in subst (λ x. Right (decoded book) policy (Ok x)) g right;
    refused = λ f same. let z : ◌≡◌ {A = ℕ} 0 1 = cc in absurd (omega arith);
  }
  right_if_read (Err fault) e right = record {
    unreadable = λ f. (λ same. let z : ◌≡◌ {A = ℕ} 0 1 = cc in absurd (omega arith), λ same. let z : ◌≡◌ {A = ℕ} 0 1 = cc in absurd (omega arith));
    accepted = λ H same. let z : ◌≡◌ {A = ℕ} 0 1 = cc in absurd (omega arith);
    refused = λ f same. let g : fault ≡ f = cc in subst (λ x. Right (decoded book) policy (Err x)) g right;
  }

  right_if_refused : (fault : BookFault) (v : Result ℕ StartFault) → read_fault book ≡ Some fault → RightLoad policy book (load_answer (Some fault) v)
  right_if_refused fault v e = record {
    unreadable = λ f. (λ same. let g : fault ≡ f = cc in e ∙ ap Some g, λ same. let g : fault ≡ f = cc in ap (λ x. Err (Book x)) g);
    accepted = λ H same. let z : ◌≡◌ {A = ℕ} 0 1 = cc in absurd (omega arith);
    refused = λ f same. let z : ◌≡◌ {A = ℕ} 0 1 = cc in absurd (omega arith);
  }

  right_by_fault : Lawful policy → ((i : ℕ) → byte book i < 256) → (o : Option BookFault) → read_fault book ≡ o →
      RightLoad policy book (load_answer o (verdict (decoded book) policy))
  right_by_fault lawful bytes None e =
      right_if_read (verdict (decoded book) policy) e (verdict_is_right (decoded book) policy (decoded_is_bounded book bytes e) lawful)
  right_by_fault lawful bytes (Some fault) e = right_if_refused fault (verdict (decoded book) policy) e

  pub right_load : Lawful policy → ((i : ℕ) → byte book i < 256) → RightLoad policy book (load_answer (read_fault book) (verdict (decoded book) policy))
  right_load lawful bytes = right_by_fault lawful bytes (read_fault book) refl

-- a start and a load leave what `taken` says of their answer
pub started_or_kept : (set : TaskSet) (before : State) (v : Result ℕ StartFault) → start_state v set before ≡ taken set v before
started_or_kept set before (Ok H) = refl
started_or_kept set before (Err fault) = refl

pub loaded_or_kept : (set : TaskSet) (before : State) (o : Option BookFault) (v : Result ℕ StartFault) → left o (start_state v set before) before ≡ taken set (load_answer o v) before
loaded_or_kept set before (Some fault) v = refl
loaded_or_kept set before None (Ok H) = refl
loaded_or_kept set before None (Err fault) = refl

module _ (policy : Meaning) where
  -- a start's answer is right
  pub right_start : Lawful policy → (plan : Plan) → Right (task_set plan) policy (verdict (task_set plan) policy)
  right_start lawful plan = verdict_is_right (task_set plan) policy (plan_is_bounded plan) lawful

  pub answers_right : Lawful policy → (before : State) (call : Action) → OfBytes call → RightAnswer policy call (reply policy before call)
  answers_right lawful before (start plan) _ = (verdict (task_set plan) policy, refl, right_start lawful plan)
  answers_right lawful before (load book) bytes = (load_answer (read_fault book) (verdict (decoded book) policy), refl, right_load policy book lawful bytes)
  answers_right lawful before tick _ = tt
  answers_right lawful before (done i) _ = tt
  answers_right lawful before (ask i) _ = tt

  pub leaves_right : (before : State) (call : Action) → RightState before call (reply policy before call) (next policy before call)
  leaves_right before (start plan) =
      let v = verdict (task_set plan) policy in
      λ r e. let same : v ≡ r = cc in started_or_kept (task_set plan) before v ∙ ap (λ x. taken (task_set plan) x before) same
  leaves_right before (load book) =
      let o = read_fault book in
      let v = verdict (decoded book) policy in
      λ r e. let same : load_answer o v ≡ r = cc in loaded_or_kept (decoded book) before o v ∙ ap (λ x. taken (decoded book) x before) same
  leaves_right before tick = tt
  leaves_right before (done i) = tt
  leaves_right before (ask i) = tt

  -- so is every start and load in a log
  abbrev pub Rightly : Entry → Type 0
  Rightly entry = RightAnswer policy entry.call entry.answer

  pub log_right : Lawful policy → (calls : List Action) → AllByRecursion OfBytes calls → (log : Log) (state : State) → AllByRecursion Rightly log →
      AllByRecursion Rightly (logged log calls (replies_from policy state calls))
  unfolding logged replies_from
  log_right lawful [] bytes log state right = right
  log_right lawful (call ∷ calls) (here, rest) log state right =
      log_right lawful calls rest (record { call = call; answer = reply policy state call } ∷ log) (next policy state call) (answers_right lawful state call here, right)
