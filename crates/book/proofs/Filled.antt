-- Adding the records of an opened book to a plan, one after the other. Assumes nothing.
use Rattle.std.proofs.Common.{◌≡◌, ℕ, zero, suc, ◌+◌, ◌-◌, ◌<◌, ◌≤◌, Bool, true, false, cond, ltb, leb, List, [], length, Some, None, Ok, Err, Option, sym, refl, ap, ◌∙◌, inl, inr, add-one, arith}
use Rattle.std.proofs.lemmas.List.FromFn.{length-map-range_with_len, map-range_with_len_more}
use Rattle.std.proofs.lemmas.Bool.{ltb-true, ltb-false, lt-ltb, lt-leb}
use Rattle.std.proofs.lemmas.Option.{cond_some}
use Rattle.std.specs.Option.{option_or}
use Rattle.plan.proofs.Answered.{fault_of_err, fault_of_ok, value_of_ok}
use Rattle.plan.specs.Checks.{appended, parameters_of, with_task}
use Rattle.plan.specs.Refusals.{answer}
use Rattle.plan.specs.TaskSet.{Parameters, TaskSet}
use Rattle.plan.specs.declared.fault.Place.{Place}
use Rattle.plan.specs.declared.fault.Place.TheVariants as place
use Rattle.plan.specs.declared.fault.RecordFault.{RecordFault}
use Rattle.book.proofs.Sound.{opened_is}
use Rattle.book.proofs.Walked.{opened_has, lone_count, first_count, second_count, records_of_lone, records_of_two}
use Rattle.book.specs.Cursors.{Walk, Seen, begun, has, handed_out, record_seen, stepped}
use Rattle.book.specs.Reading.{draft_of, fault_of, first_fault, holding, open_fault, record_fault, records, task_at, tasks_of}

-- the task set that has taken the first n records
abbrev pub taken : List ℕ → ℕ → ℕ → ℕ → TaskSet
taken book p q n = record { tasks = tasks_of book n; p = p; q = q }

-- the plan has taken the records before the cursor's place, and none of them has a fault
pub record Filling (book : List ℕ) (p q : ℕ) (w : Walk) (held : TaskSet) : Type 0 where
  pub same : w.book ≡ book
  pub within : w.next ≤ records book
  pub clean : first_fault book w.next ≡ None
  pub holds : held ≡ taken book p q w.next

-- a choice that gave nothing was not made
not_chosen : {A : Type 0} (b : Bool) (x : A) → cond b (Some x) None ≡ None → b ≡ false
not_chosen true x e = cc
not_chosen false x e = refl

-- the first fault among one record more, by its definition
first_suc : (book : List ℕ) (n : ℕ) → first_fault book (suc n) ≡ option_or (first_fault book n) (fault_of book n)
unfolding first_fault
first_suc book n = refl

-- the first fault among one record more
pub first_more : (book : List ℕ) (n : ℕ) → first_fault book (n + 1) ≡ option_or (first_fault book n) (fault_of book n)
first_more book n = ap (first_fault book) (add-one n) ∙ first_suc book n

-- a fault stays the first however many records follow
first_stays : (book : List ℕ) (f : RecordFault) (n k : ℕ) → first_fault book n ≡ Some f → first_fault book (n + k) ≡ Some f
first_stays book f n zero e = ap (first_fault book) (omega arith) ∙ e
first_stays book f n (suc k) e =
    let next : n + suc k ≡ (n + k) + 1 = omega arith in
    ap (first_fault book) next ∙ first_more book (n + k) ∙ ap (λ o. option_or o (fault_of book (n + k))) (first_stays book f n k e)

-- an opened book has at most 30 records
pub at_most_30 : (book : List ℕ) → open_fault book ≡ None → records book ≤ 30
at_most_30 book none =
    elim (opened_is book none) [
      | inl b ↦ omega (arith, lone_count book b, records_of_lone book b.long)
      | inr b ↦ omega (arith, first_count book b, second_count book b, records_of_two book b.long)
    ]

-- where a record that was handed out stands
at_seen : Seen → Option Place
at_seen s = Some (place.Record s.block s.number)

module _ (book : List ℕ) (none : open_fault book ≡ None) (p q : ℕ) (w : Walk) (held : TaskSet) (f : Filling book p q w held) where
  -- the step's test, at the cursor's place
  here : has w.book w.next ≡ ltb w.next (records book)
  here = ap (λ b. has b w.next) f.same ∙ opened_has book none w.next

  -- what a step handed out is the next record
  is_next : (s : Seen) → Some s ≡ handed_out w → (w.next < records book) × (record_seen book w.next ≡ s)
  is_next s e =
      let c = cond_some (has w.book w.next) (record_seen w.book w.next) s (sym e) in
      (ltb-true _ _ (sym here ∙ c.0), ap (λ b. record_seen b w.next) (sym f.same) ∙ c.1)

  -- the fault of what was handed out is that of the next record
  the_fault : (s : Seen) → Some s ≡ handed_out w → record_fault s.bytes (at_seen s) ≡ fault_of book w.next
  unfolding at_seen
  the_fault s e = ap (λ x. record_fault x.bytes (at_seen x)) (sym (is_next s e).1)

  -- a record that is refused has the first fault of the book
  pub refused_is_first : (s : Seen) (t : Parameters) (x : RecordFault) → Some s ≡ handed_out w → Err x ≡ answer (record_fault s.bytes (Some (place.Record s.block s.number))) t → first_fault book (records book) ≡ Some x
  unfolding at_seen
  refused_is_first s t x e refused =
      let n = is_next s e in
      let fault : fault_of book w.next ≡ Some x = sym (the_fault s e) ∙ fault_of_err _ t x refused in
      let first : first_fault book (w.next + 1) ≡ Some x = first_more book w.next ∙ ap (λ o. option_or o (fault_of book w.next)) f.clean ∙ fault in
      let rest : (w.next + 1) + (records book - (w.next + 1)) ≡ records book = omega (arith, n.0) in
      sym (ap (first_fault book) rest) ∙ first_stays book x (w.next + 1) (records book - (w.next + 1)) first

  -- a record that passes is one more
  pub filled_more : (s : Seen) (t : Parameters) (v : Walk) (more : TaskSet) → Some s ≡ handed_out w → v ≡ stepped w
      → Ok t ≡ answer (record_fault s.bytes (Some (place.Record s.block s.number))) (parameters_of (draft_of s.bytes))
      → more ≡ appended held t → Filling book p q v more
  unfolding at_seen
  filled_more s t v more e step passed grown =
      let n = is_next s e in
      let moved : v.next ≡ w.next + 1 = ap (λ x. x.next) step ∙ ap (λ b. cond b (w.next + 1) w.next) (here ∙ lt-ltb _ _ n.0) in
      let fault : fault_of book w.next ≡ None = sym (the_fault s e) ∙ fault_of_ok _ _ t passed in
      let value : t ≡ task_at book w.next = value_of_ok (record_fault s.bytes (at_seen s)) (parameters_of (draft_of s.bytes)) t passed ∙ ap (λ x. parameters_of (draft_of x.bytes)) (sym n.1) in
      let count : length held.tasks ≡ w.next = ap (λ x. length x.tasks) f.holds ∙ length-map-range_with_len (task_at book) 0 w.next in
      let room : leb 30 (length held.tasks) ≡ false = lt-leb 30 _ (omega (arith, n.0, at_most_30 book none)) in
      record {
        same = ap (λ x. x.book) step ∙ f.same;
        within = omega (arith, n.0);
        clean = ap (first_fault book) moved ∙ first_more book w.next ∙ ap (λ o. option_or o (fault_of book w.next)) f.clean ∙ fault;
        holds =
            grown ∙ ap (λ b. cond b held (with_task held t)) room ∙
            ap (λ x. with_task x t) f.holds ∙
            ap (λ x. with_task (taken book p q w.next) x) value ∙
            ap (λ (ts : List Parameters). record { tasks = ts; p = p; q = q }) (sym (map-range_with_len_more (task_at book) 0 w.next w.next (omega arith))) ∙
            ap (taken book p q) (sym moved);
      }

  -- where nothing is handed out, every record was
  at_end : None ≡ handed_out w → w.next ≡ records book
  at_end e =
      let past : records book ≤ w.next = ltb-false _ _ (sym here ∙ not_chosen _ _ (sym e)) in
      omega (arith, f.within)

  -- then no record has a fault
  pub clean_all : None ≡ handed_out w → first_fault book (records book) ≡ None
  clean_all e = sym (ap (first_fault book) (at_end e)) ∙ f.clean

  -- and the plan holds what the book holds
  pub filled_all : None ≡ handed_out w → held ≡ holding book p q
  filled_all e = f.holds ∙ ap (taken book p q) (at_end e)

-- a new plan, at the first record
pub filled_none : (book : List ℕ) (set : TaskSet) (w : Walk) → w ≡ begun book → set.tasks ≡ [] → Filling book set.p set.q w set
unfolding first_fault
filled_none book set w start none =
    let next : w.next ≡ 0 = ap (λ x. x.next) start in
    record {
      same = ap (λ x. x.book) start;
      within = omega arith;
      clean = ap (first_fault book) next;
      holds = ap (λ (ts : List Parameters). record { tasks = ts; p = set.p; q = set.q }) (none ∙ ap (tasks_of book) (sym next));
    }
