-- What the checks of the blocks and of the records make of the whole book. Assumes nothing.
use Rattle.std.proofs.Common.{◌≡◌, ℕ, false, cond, List, Some, None, Ok, Err, sym, ap, ◌∙◌, inl, inr, arith}
use Rattle.std.proofs.lemmas.Bool.{not-true}
use Rattle.std.specs.Option.{option_map, option_or}
use Rattle.plan.proofs.Answered.{fault_of_err, fault_of_ok, value_of_ok}
use Rattle.plan.specs.Checks.{out_of_gear, geared}
use Rattle.plan.specs.Refusals.{answer}
use Rattle.plan.specs.TaskSet.{TaskSet}
use Rattle.plan.specs.declared.fault.RecordFault.{RecordFault}
use Rattle.book.proofs.Sound.{opened_is}
use Rattle.book.proofs.Walked.{byte_of_block}
use Rattle.book.specs.Bytes.{byte}
use Rattle.book.specs.Cursors.{Walk, begun}
use Rattle.book.specs.Reading.{block_of, decoded, first_fault, holding, open_fault, read_fault, records}
use Rattle.book.specs.Refusals.{in_book}
use Rattle.book.specs.declared.fault.BookFault.{BookFault}

module _ (book : List ℕ) where
  -- a fault of the blocks comes first
  pub refused_at_blocks : {f : BookFault} → open_fault book ≡ Some f → read_fault book ≡ Some f
  refused_at_blocks e = ap (λ o. option_or o (option_map in_book (first_fault book (records book)))) e

  -- blocks that pass leave it to the records
  pub then_records : open_fault book ≡ None → read_fault book ≡ option_map in_book (first_fault book (records book))
  then_records e = ap (λ o. option_or o (option_map in_book (first_fault book (records book)))) e

  -- then the first fault of a record is the book's
  pub refused_at_record : {f : RecordFault} → open_fault book ≡ None → first_fault book (records book) ≡ Some f → read_fault book ≡ Some (in_book f)
  refused_at_record e f = then_records e ∙ ap (option_map in_book) f

  -- blocks and records that pass make an accepted book
  pub accepted : open_fault book ≡ None → first_fault book (records book) ≡ None → read_fault book ≡ None
  accepted e f = then_records e ∙ ap (option_map in_book) f

  -- an opened book has a ratio
  pub opened_in_gear : open_fault book ≡ None → out_of_gear (byte book 4) (byte book 5) ≡ false
  opened_in_gear none =
      elim (opened_is book none) [
        | inl b ↦ not-true _ b.sound.ratio
        | inr b ↦ sym (ap (λ p. out_of_gear p (byte book 5)) (byte_of_block book 0 4 (omega arith))) ∙
            sym (ap (λ q. out_of_gear (byte (block_of book 0) 4) q) (byte_of_block book 0 5 (omega arith))) ∙
            not-true _ b.first.ratio
      ]

  -- its ratio is the one that its bytes give
  pub opened_geared : open_fault book ≡ None → geared (byte book 4) (byte book 5) ≡ Some (byte book 4, byte book 5)
  opened_geared none = ap (λ b. cond b None (Some (byte book 4, byte book 5))) (opened_in_gear none)

-- A cursor was opened over the book.
module _ (book : List ℕ) (w : Walk) (opened : Ok w ≡ answer (open_fault book) (begun book)) where
  -- the blocks passed
  pub passed_blocks : open_fault book ≡ None
  passed_blocks = fault_of_ok (open_fault book) (begun book) w opened

  -- the cursor stands at the first record
  started : w ≡ begun book
  started = value_of_ok (open_fault book) (begun book) w opened

  -- so the cursor's own book passed
  pub its_book_passed : open_fault w.book ≡ None
  its_book_passed = ap (λ x. open_fault x.book) started ∙ passed_blocks

  -- and the cursor begins at it
  pub it_begins : w ≡ begun w.book
  it_begins = started ∙ ap (λ x. begun x.book) (sym started)

  -- the ratio cannot be missing
  pub has_a_ratio : None ≡ geared (byte book 4) (byte book 5) → ⊥
  has_a_ratio e =
      let g = opened_geared book passed_blocks in
      cc

  -- the cursor's book has the first fault of the book
  first_there : first_fault w.book (records w.book) ≡ first_fault book (records book)
  first_there = ap (λ x. first_fault x.book (records x.book)) started

  -- a record's fault is the book's
  pub refused_by_record : (set : TaskSet) (f : RecordFault) → Err f ≡ answer (first_fault w.book (records w.book)) set → read_fault book ≡ Some (in_book f)
  refused_by_record set f e = refused_at_record book passed_blocks (sym first_there ∙ fault_of_err _ set f e)

  module _ (ratio : ℕ × ℕ) (set : TaskSet) (geared_so : Some ratio ≡ geared (byte book 4) (byte book 5))
      (all : Ok set ≡ answer (first_fault w.book (records w.book)) (holding w.book ratio.0 ratio.1)) where
    -- records that pass make the book accepted
    pub passed_all : read_fault book ≡ None
    passed_all = accepted book passed_blocks (sym first_there ∙ fault_of_ok _ (holding w.book ratio.0 ratio.1) set all)

    -- and the plan holds what the book holds
    pub holds_it : set ≡ decoded book
    holds_it =
        let pair : ratio ≡ (byte book 4, byte book 5) = (let g = opened_geared book passed_blocks in cc) in
        value_of_ok _ (holding w.book ratio.0 ratio.1) set all ∙
        ap (λ x. holding x.book ratio.0 ratio.1) started ∙
        ap (λ r. holding book r.0 r.1) pair
