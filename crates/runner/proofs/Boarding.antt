-- A done report on a board, row by row.
use Rattle.std.proofs.Common.{◌≡◌, ℕ, ◌<◌, Bool, true, false, cond, not, eqb, ltb, leb, List, length, get_or, set, Some, None, Ok, sym, refl, ap, ◌∙◌, ⊎_elim, arith, get_or-set_other, get_or-set_same}
use Rattle.std.proofs.lemmas.Bool.{cases_eq, cond-true, lt-ltb, lt-leb, leb-false, eq-eqb, ne_eqb}
use Rattle.plan.specs.Bounded.{count}
use Rattle.plan.specs.Checks.{refuse_if}
use Rattle.plan.specs.Refusals.{answer}
use Rattle.plan.specs.TaskSet.{TaskSet, task_set}
use Rattle.edf.specs.Run as run
use Rattle.edf.specs.System.{is}
use Rattle.edf.specs.Tick.{Counters}
use Rattle.service.specs.Rows.{idle, row}
use Rattle.service.specs.declared.backlog.Pending.{Pending}
use Rattle.runner.specs.Boards.{state, pending_answer}
use Rattle.runner.specs.Rules.{done_fault}
use Rattle.runner.specs.declared.board.Board.{Board}
use Rattle.runner.specs.declared.fault.TaskFault.TheVariants.{Absent, NoWork, NotServed}

-- a row that was found belongs to a task of the plan
module _ (board : Board) (i : ℕ) (p : Pending) (found : Ok p ≡ pending_answer board i) where
  found_parts : (b : Bool) → leb (count (task_set board.plan)) i ≡ b → Ok p ≡ answer (refuse_if b (Absent i) None) (row board.backlog i) →
      (leb (count (task_set board.plan)) i ≡ false) × (p ≡ row board.backlog i)
  found_parts true e f = let z : ◌≡◌ {A = ℕ} 0 1 = cc in absurd (omega arith)
  found_parts false e f = (e, cc)

  pub found_here : i < count (task_set board.plan)
  found_here = leb-false (count (task_set board.plan)) i (found_parts (leb (count (task_set board.plan)) i) refl found).0

  pub found_row : p ≡ row board.backlog i
  found_row = (found_parts (leb (count (task_set board.plan)) i) refl found).1

  pub found_work : (state board).jobs.w i ≡ p.work
  found_work =
      cond-true (ltb i (count (task_set board.plan))) (row board.backlog i).work 0 (lt-ltb i (count (task_set board.plan)) found_here)
      ∙ ap (λ (x : Pending). x.work) (sym found_row)

  -- with work left, and served last, the report is accepted
  pub done_accepted : (p.work ≡ 0 → ⊥) → board.last ≡ Some i → None ≡ done_fault (state board) i
  done_accepted some last =
      let here = lt-leb (count (task_set board.plan)) i found_here in
      let busy : eqb ((state board).jobs.w i) 0 ≡ false = ne_eqb ((state board).jobs.w i) 0 (λ e. some (sym found_work ∙ e)) in
      let served : is board.last i ≡ true = ap (λ o. is o i) last ∙ eq-eqb i i refl in
      λ t. refuse_if (sym here t) (Absent i) (refuse_if (sym busy t) (NoWork i) (refuse_if (not (sym served t)) (NotServed i) None))

-- the counters when the row of task i is closed
pub closed_rows : (tasks : TaskSet) (rows : List Pending) (i : ℕ) → i < length rows →
    ◌≡◌ {A = Counters}
    (record { w = λ k. cond (ltb k (count tasks)) (get_or (set rows i idle) k idle).work 0; d = λ k. cond (ltb k (count tasks)) (get_or (set rows i idle) k idle).ticks 0 })
    (run.done (Some i) (record { w = λ k. cond (ltb k (count tasks)) (get_or rows k idle).work 0; d = λ k. cond (ltb k (count tasks)) (get_or rows k idle).ticks 0 }))
closed_rows tasks rows i h = λ t. record { w = λ k. at k (λ (p : Pending). p.work) refl t; d = λ k. at k (λ (p : Pending). p.ticks) refl t }
  where
    none : (b : Bool) → ◌≡◌ {A = ℕ} (cond b 0 0) 0
    none true = refl
    none false = refl

    at : (k : ℕ) (part : Pending → ℕ) → part idle ≡ 0 →
        cond (ltb k (count tasks)) (part (get_or (set rows i idle) k idle)) 0 ≡ cond (eqb i k) 0 (cond (ltb k (count tasks)) (part (get_or rows k idle)) 0)
    at k part zero =
        ⊎_elim
        (λ e. rw e (
        ap (λ (p : Pending). cond (ltb i (count tasks)) (part p) 0) (get_or-set_same rows i idle idle h) ∙ ap (λ x. cond (ltb i (count tasks)) x 0) zero
        ∙ none (ltb i (count tasks)) ∙ ap (λ b. cond b 0 (cond (ltb i (count tasks)) (part (get_or rows i idle)) 0)) (sym (eq-eqb i i refl))
        ))
        (λ ne. ap (λ (p : Pending). cond (ltb k (count tasks)) (part p) 0) (get_or-set_other rows i k idle idle ne)
        ∙ ap (λ b. cond b 0 (cond (ltb k (count tasks)) (part (get_or rows k idle)) 0)) (sym (ne_eqb i k (λ e. ne (sym e)))))
        (cases_eq k i)
