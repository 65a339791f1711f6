-- A cursor over an opened book hands out its records in turn, and then nothing. Assumes nothing.
use Rattle.std.proofs.Common.{◌≡◌, ℕ, zero, suc, ◌+◌, ◌*◌, ◌/◌, ◌%◌, ◌<◌, ◌≤◌, min, true, false, cond, ltb, leb, ◌⊎◌, List, [], length, get_or, Some, None, sym, ap, ◌∙◌, inl, inr, add-zero, arith}
use Rattle.std.proofs.lemmas.Bool.{and_from, lt-ltb, le-ltb, le-leb, eq-eqb, ne_eqb, cases_lt, ltb-true, leb-true, eqb-true, and_parts, cases_Bool}
use Rattle.std.proofs.lemmas.Bool.Decides.{nat_tests}
use Rattle.std.specs.Simd.{first_chunks}
use Rattle.book.proofs.Chunks.{chunk_at}
use Rattle.book.proofs.Turns.{byte_of_part, part_long, part_of_part}
use Rattle.book.proofs.Sound.{Lone, Two, opened_is}
use Rattle.book.specs.Bytes.{byte, part}
use Rattle.book.specs.Cursors.{Walk, begun, has, handed_out, record_seen, stepped, steps, InOrder}
use Rattle.book.specs.Reading.{block_of, open_fault, records, record_at}

-- what makes the test of a step true
pub has_it : (book : List ℕ) (n : ℕ) → n < 30 → 512 * (n / 15) + 512 ≤ length book → n % 15 < byte book (512 * (n / 15) + 3) → has book n ≡ true
has_it book n few block counted =
    and_from (ltb n 30) _ (lt-ltb n 30 few) (and_from (leb (512 * (n / 15) + 512) (length book)) _ (le-leb _ _ block) (lt-ltb _ _ counted))

-- a byte of a block, in the book
pub byte_of_block : (book : List ℕ) (i at : ℕ) → at < 512 → byte (block_of book i) at ≡ byte book (512 * i + at)
byte_of_block book i at inside = byte_of_part book (512 * i) 512 at inside

-- the records of a book of one block
pub records_of_lone : (book : List ℕ) → length book ≡ 512 → records book ≡ byte book 3
records_of_lone book long = ap (λ b. byte book 3 + cond b (byte book 515) 0) (ne_eqb _ 1024 (λ e. omega arith)) ∙ add-zero (byte book 3)

-- the records of a book of two
pub records_of_two : (book : List ℕ) → length book ≡ 1024 → records book ≡ byte book 3 + byte book 515
records_of_two book long = ap (λ b. byte book 3 + cond b (byte book 515) 0) (eq-eqb _ 1024 long)

-- how many records the checks leave room for
pub lone_count : (book : List ℕ) → Lone book → byte book 3 ≤ 15
lone_count book b = leb-true _ 15 b.sound.count

-- 15 in the first of two
pub first_count : (book : List ℕ) → Two book → byte book 3 ≡ 15
first_count book b = sym (byte_of_block book 0 3 (omega arith)) ∙ eqb-true _ 15 b.first.count

-- 1 to 15 in the second
pub second_count : (book : List ℕ) → Two book → (1 ≤ byte book 515) × (byte book 515 ≤ 15)
second_count book b =
    let parts = and_parts (leb 1 (byte (block_of book 1) 3)) _ b.second.count in
    let same = byte_of_block book 1 3 (omega arith) in
    (omega (arith, same, leb-true 1 (byte (block_of book 1) 3) parts.0), omega (arith, same, leb-true (byte (block_of book 1) 3) 15 parts.1))

-- what the test of a step says
has_parts : (book : List ℕ) (n : ℕ) → has book n ≡ true → (512 * (n / 15) + 512 ≤ length book) × (n % 15 < byte book (512 * (n / 15) + 3)) × (n < 30)
has_parts book n here =
    let outer = and_parts (ltb n 30) _ here in
    let inner = and_parts (leb (512 * (n / 15) + 512) (length book)) _ outer.1 in
    (leb-true _ _ inner.0, ltb-true _ _ inner.1, ltb-true _ _ outer.0)

-- A step looks into the block of record n, cut into rows of 32 bytes.
module _ (book : List ℕ) (n : ℕ) (blocks : List (List ℕ)) (bytes : List ℕ) (cut : blocks ≡ first_chunks 512 (length book / 512) book)
    (inside : n / 15 < length book / 512) (found : bytes ≡ get_or blocks (n / 15) bytes) where
  -- the block that was cut out is a block of the book
  its_block : bytes ≡ block_of book (n / 15)
  its_block = found ∙ ap (λ bs. get_or bs (n / 15) bytes) cut ∙ chunk_at 512 (length book / 512) (n / 15) book bytes inside

  -- its number of records stands in the book
  its_count : byte bytes 3 ≡ byte book (512 * (n / 15) + 3)
  its_count = ap (λ b. byte b 3) its_block ∙ byte_of_block book (n / 15) 3 (omega arith)

  -- a record that is not counted is not there
  pub has_not : byte bytes 3 ≤ n % 15 → has book n ≡ false
  has_not past = elim (cases_Bool (has book n)) [
    | inl yes' ↦ absurd (omega (arith, (has_parts book n yes').1, its_count))
    | inr no' ↦ no'
  ]

  -- one that is counted is
  pub has_this : n < 30 → n % 15 < byte bytes 3 → has book n ≡ true
  has_this few counted = has_it book n few (omega arith) (omega (arith, its_count))

  -- and its row is the record
  pub row_is_record : (rows : List (List ℕ)) → rows ≡ first_chunks 32 (length bytes / 32) bytes → get_or rows (1 + n % 15) [] ≡ record_at book n
  row_is_record rows parted =
      let long : length bytes ≡ 512 = ap length its_block ∙ part_long book (512 * (n / 15)) 512 (omega arith) in
      ap (λ rs. get_or rs (1 + n % 15) []) parted ∙
      chunk_at 32 (length bytes / 32) (1 + n % 15) bytes [] (omega arith) ∙
      ap (λ b. part b (32 * (1 + n % 15)) 32) its_block ∙
      part_of_part book (512 * (n / 15)) 512 (32 * (1 + n % 15)) 32 (omega arith) ∙
      ap (λ a. part book a 32) (omega arith)

-- a byte by an equal place
byte_at : (book : List ℕ) {i j : ℕ} → i ≡ j → byte book i ≡ byte book j
byte_at book e = ap (byte book) e

-- in a lone block, and in the first and the second of two
has_in_block : (book : List ℕ) (b : Lone book ⊎ Two book) (n : ℕ) → n < records book → has book n ≡ true
has_in_block book (inl b) n below =
    let zeroth : n / 15 ≡ 0 = omega (arith, lone_count book b, records_of_lone book b.long) in
    let start : 512 * (n / 15) + 3 ≡ 3 = omega arith in
    has_it book n (omega (arith, lone_count book b, records_of_lone book b.long)) (omega (arith, b.long))
    (omega (arith, byte_at book start, records_of_lone book b.long))
has_in_block book (inr b) n below =
    let few : n < 30 = omega (arith, first_count book b, second_count book b, records_of_two book b.long) in
    elim (cases_lt n 15) [
      | inl low ↦ (let start : 512 * (n / 15) + 3 ≡ 3 = omega arith in
          has_it book n few (omega (arith, b.long)) (omega (arith, byte_at book start, first_count book b)))
      | inr high ↦ (let start : 512 * (n / 15) + 3 ≡ 515 = omega arith in
          has_it book n few (omega (arith, b.long)) (omega (arith, byte_at book start, records_of_two book b.long, first_count book b)))
    ]

-- and only the records that a block counts are there
only_in_block : (book : List ℕ) (b : Lone book ⊎ Two book) (n : ℕ) → has book n ≡ true → n < records book
only_in_block book (inl b) n here =
    let parts = has_parts book n here in
    let zeroth : n / 15 ≡ 0 = omega (arith, b.long, parts.0) in
    let start : 512 * (n / 15) + 3 ≡ 3 = omega arith in
    omega (arith, parts.1, byte_at book start, records_of_lone book b.long)
only_in_block book (inr b) n here =
    let parts = has_parts book n here in
    elim (cases_lt n 15) [
      | inl low ↦ omega (arith, first_count book b, second_count book b, records_of_two book b.long)
      | inr high ↦ (let start : 512 * (n / 15) + 3 ≡ 515 = omega (arith, b.long, parts.0) in
          omega (arith, parts.1, byte_at book start, first_count book b, records_of_two book b.long))
    ]

-- an opened book has exactly the records that it counts
pub opened_has : (book : List ℕ) → open_fault book ≡ None → (n : ℕ) → has book n ≡ ltb n (records book)
opened_has book none n =
    let b = opened_is book none in
    elim (cases_lt n (records book)) [
      | inl below ↦ has_in_block book b n below ∙ sym (lt-ltb n (records book) below)
      | inr past ↦ elim (cases_Bool (has book n)) [
        | inl yes' ↦ (let below = only_in_block book b n yes' in absurd (omega arith))
        | inr no' ↦ no' ∙ sym (le-ltb n (records book) past)
      ]
    ]

module _ (book : List ℕ) (none : open_fault book ≡ None) where
  -- where a cursor stands after n steps
  at_step : ℕ → Walk
  at_step n = record { book = book; next = min n (records book) }

  -- the steps lead there
  walked : (n : ℕ) → steps n (begun book) ≡ at_step n
  unfolding steps at_step
  walked zero = ap (λ (k : ℕ). record { book = book; next = k }) (omega arith)
  walked (suc n) =
      ap stepped (walked n) ∙
      ap (λ (k : ℕ). record { book = book; next = k })
      (ap (λ b. cond b (min n (records book) + 1) (min n (records book))) (opened_has book none (min n (records book))) ∙ grind (arith, nat_tests))

  -- so it hands out the records in order
  pub in_order : InOrder book
  unfolding at_step
  in_order n =
      ap handed_out (walked n) ∙
      ap (λ b. cond b (Some (record_seen book (min n (records book)))) None) (opened_has book none (min n (records book))) ∙
      elim (cases_lt n (records book)) [
        | inl below ↦ (let same : min n (records book) ≡ n = omega arith in
            ap (λ k. cond (ltb k (records book)) (Some (record_seen book k)) None) same)
        | inr past ↦ (let same : min n (records book) ≡ records book = omega arith in
            ap (λ b. cond b (Some (record_seen book (min n (records book)))) None) (le-ltb _ _ (omega arith)) ∙
            sym (ap (λ b. cond b (Some (record_seen book n)) None) (le-ltb n (records book) past)))
      ]
