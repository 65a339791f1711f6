-- The tasks and the ratio of an accepted book keep the bounds of a plan. Assumes nothing.
use Rattle.std.proofs.Common.{◌≡◌, ℕ, ◌<◌, List, None, sym, subst, ⊎_elim, arith}
use Rattle.std.proofs.lemmas.List.FromFn.{get_or-map-range_with_len, length-map-range_with_len}
use Rattle.std.proofs.lemmas.Bool.{cases_lt, eqb-false, ltb-false, or_parts}
use Rattle.plan.specs.Bounded.{absent, count, task}
use Rattle.plan.specs.Bounds.{Geared}
use Rattle.book.proofs.Filled.{at_most_30}
use Rattle.book.proofs.Readings.{opened_in_gear}
use Rattle.book.proofs.Records.{Good, good_passed}
use Rattle.book.proofs.Refused.{both_pass}
use Rattle.book.proofs.Rewritten.{Bytes, bytes_of_part, records_pass}
use Rattle.book.specs.Bytes.{byte}
use Rattle.book.specs.Decoded.{DecodedIsBounded}
use Rattle.book.specs.Reading.{decoded, offset, open_fault, read_fault, record_at, records, task_at}

-- the ratio of an opened book
in_gear : (book : List ℕ) → open_fault book ≡ None → Geared (byte book 4) (byte book 5)
in_gear book opened =
    let q = or_parts _ _ (opened_in_gear book opened) in
    let p = or_parts _ _ q.1 in
    let some = eqb-false (byte book 5) 0 q.0 in
    (⊎_elim (λ l. l) (λ l. absurd (some (omega arith))) (cases_lt 0 (byte book 5)), ltb-false _ _ p.0, ltb-false _ _ p.1)

module _ (book : List ℕ) (bytes : Bytes book) (passed : read_fault book ≡ None) where
  -- as many tasks as records
  counted : count (decoded book) ≡ records book
  counted = length-map-range_with_len (task_at book) 0 (records book)

  -- each of them keeps its bounds
  good : (i : ℕ) → i < count (decoded book) → Good (task (decoded book) i)
  good i here =
      let below : i < records book = omega (arith, counted) in
      let same : task (decoded book) i ≡ task_at book i = get_or-map-range_with_len (task_at book) 0 (records book) i i absent below (omega arith) in
      subst Good (sym same)
      (good_passed (record_at book i) (records_pass book bytes passed i below)
      (bytes_of_part book (offset i) 32 bytes 0) (bytes_of_part book (offset i) 32 bytes 1))

-- so all that an accepted book holds is in bounds
pub decoded_is_bounded : DecodedIsBounded
decoded_is_bounded book bytes passed =
    let opened = (both_pass (open_fault book) _ passed).0 in
    record {
      few = omega (arith, counted book bytes passed, at_most_30 book opened);
      timed = λ i here. (good book bytes passed i here).timed;
      constrained = λ i here. (good book bytes passed i here).constrained;
      geared = in_gear book opened;
    }
