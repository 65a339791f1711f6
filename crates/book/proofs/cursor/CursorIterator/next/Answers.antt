use Rattle.std.proofs.Common.{ℕ, ◌+◌, ◌/◌, ◌%◌, cond, List, Some, None, Option, sym, ap, ◌∙◌, arith}
use Rattle.book.proofs.Walked.{has_not, has_this, row_is_record}
use Rattle.book.specs.Cursors.{Seen, record_seen}
use Rattle.book.proofs.cursor.CursorIterator.next.Goals as goal

pub returns-then-number-from-clause-steps : goal.returns-then-number-from-clause-steps
returns-then-number-from-clause-steps c =
    let book : List ℕ = c.args.self.now.book.now in
    let n : ℕ = c.args.self.now.place in
    let none : Option Seen = None in
    let past = has_not book n c.as_chunks.result.0.now c.in_ok-bytes.bytes.now c.as_chunks.ensures.front (omega (arith, c.in_ok-bytes.ensures.lookup)) c.in_ok-bytes.ensures.lookup.1 (omega arith) in
    record {
      handed = sym (ap (λ b. cond b (Some (record_seen book n)) none) past);
      after = sym (ap (λ b. record { book = book; next = cond b (n + 1) n }) past);
    }

pub returns-clause-steps : goal.returns-clause-steps
returns-clause-steps c =
    let book : List ℕ = c.args.self.now.book.now in
    let n : ℕ = c.args.self.now.place in
    let none : Option Seen = None in
    let here = has_this book n c.as_chunks.result.0.now c.in_ok-bytes.bytes.now c.as_chunks.ensures.front (omega (arith, c.in_ok-bytes.ensures.lookup)) c.in_ok-bytes.ensures.lookup.1 (omega arith) (omega arith) in
    let row = row_is_record book n c.as_chunks.result.0.now c.in_ok-bytes.bytes.now c.as_chunks.ensures.front (omega (arith, c.in_ok-bytes.ensures.lookup)) c.in_ok-bytes.ensures.lookup.1 c.as_chunks-2.result.0.now c.as_chunks-2.ensures.front in
    record {
      handed =
          ap (λ (bytes : List ℕ). Some (record { bytes = bytes; block = n / 15; number = n % 15 })) row ∙
          sym (ap (λ b. cond b (Some (record_seen book n)) none) here);
      after = sym (ap (λ b. record { book = book; next = cond b (n + 1) n }) here);
    }
