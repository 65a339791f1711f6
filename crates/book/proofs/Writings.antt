-- Writing parts of a block over what stood there. Assumes nothing.
use Rattle.std.proofs.Common.{◌≡◌, ℕ, zero, suc, ◌+◌, ◌*◌, ◌<◌, ◌≤◌, cond, List, [], ◌++◌, length, take, drop, Some, None, Option, Ok, sym, refl, ap, ◌∙◌, mul-zero, mul-suc, add-one, arith}
use borrow.Rule.Slice.PartMut.{put_mid}
use Rattle.std.proofs.lemmas.List.{append_assoc, drop_at, drop-drop, length-append, take-append-drop, take_at}
use Rattle.std.proofs.lemmas.Bool.{le-leb, le-ltb, lt-leb, lt-ltb}
use Rattle.std.specs.List.{slice_get}
use Rattle.plan.proofs.Answered.{answer_accepted, left_accepted, left_refused}
use Rattle.plan.specs.Checks.{refuse_if}
use Rattle.plan.specs.Refusals.{answer, left}
use Rattle.plan.specs.TaskSet.{Parameters, TaskSet}
use Rattle.book.specs.Bytes.{bytes32, total}
use Rattle.book.specs.Writing.{block_bytes, blocks_for, check_of, encoded, head_of, in_turn, over, record_bytes, records_of, slot, slot_at, write_fault}
use Rattle.book.specs.declared.fault.BookFault.TheVariants.{Buffer}

-- a write to a part of a slice
pub put_is_over : (at k : ℕ) (xs ys zs : List ℕ) → zs ≡ ys → k ≡ length ys → put_mid at k xs zs ≡ over xs at ys
put_is_over at k xs ys zs same size =
    ap (λ z. take at xs ++ (z ++ drop k (drop at xs))) same ∙
    ap (λ d. take at xs ++ (ys ++ d)) (drop-drop k at xs ∙ ap (λ n. drop (at + n) xs) size)

-- what is written after a front leaves the front
pub over_after : (front back ys : List ℕ) (n : ℕ) → length front ≡ n → over (front ++ back) n ys ≡ front ++ (ys ++ drop (length ys) back)
over_after front back ys n long =
    ap (λ t. t ++ (ys ++ drop (n + length ys) (front ++ back))) (take_at front back n long) ∙
    ap (λ d. front ++ (ys ++ d)) (sym (drop-drop (length ys) n (front ++ back)) ∙ ap (drop (length ys)) (drop_at front back n long))

-- a record has 32 bytes
pub record_long : (t : Parameters) → length (record_bytes t) ≡ 32
unfolding record_bytes
record_long t = refl

-- and so has an unused one
pub slot_long : (o : Option Parameters) → length (slot o) ≡ 32
slot_long (Some t) = record_long t
slot_long None = refl

module _ (f : ℕ → List ℕ) where
  -- one string more, by its definition
  pub turn_suc : (n : ℕ) → in_turn f (suc n) ≡ in_turn f n ++ f n
  unfolding in_turn
  turn_suc n = refl

  -- no strings
  pub turn_none : in_turn f 0 ≡ []
  unfolding in_turn
  turn_none = refl

  -- one string more
  pub turn_more : (n : ℕ) → in_turn f (n + 1) ≡ in_turn f n ++ f n
  turn_more n = ap (in_turn f) (add-one n) ∙ turn_suc n

  -- how long n strings of width w are
  pub turn_long : (w : ℕ) → ((r : ℕ) → length (f r) ≡ w) → (n : ℕ) → length (in_turn f n) ≡ w * n
  turn_long w each zero = ap length turn_none ∙ sym (mul-zero w)
  turn_long w each (suc n) =
      ap length (turn_suc n) ∙ length-append (in_turn f n) (f n) ∙ omega (arith, turn_long w each n, each n, mul-suc w n)

-- the records of a block have 480 bytes
pub records_long : (set : TaskSet) (i : ℕ) → length (records_of set i) ≡ 480
records_long set i = turn_long (slot_at set i) 32 (λ r. slot_long (slice_get set.tasks (15 * i + r))) 15

-- a block has 512 bytes
pub block_long : (set : TaskSet) (i blocks : ℕ) → length (block_bytes set i blocks) ≡ 512
unfolding block_bytes
block_long set i blocks =
    let check : List ℕ = bytes32 (check_of (total (head_of set i blocks) 7 + total (records_of set i) 120)) in
    length-append (head_of set i blocks) (check ++ records_of set i) ∙
    ap (λ k. 28 + k) (length-append check (records_of set i) ∙ ap (λ k. 4 + k) (records_long set i))

module _ (set : TaskSet) where
  -- a book has 512 bytes for each block
  pub book_long : length (encoded set) ≡ 512 * blocks_for set
  unfolding encoded
  book_long = turn_long (λ i. block_bytes set i (blocks_for set)) 512 (λ i. block_long set i (blocks_for set)) (blocks_for set)

  -- one block for up to 15 tasks, and else two
  pub one_block : length set.tasks ≤ 15 → encoded set ≡ block_bytes set 0 1
  unfolding encoded in_turn
  one_block few =
      let one : blocks_for set ≡ 1 = ap (λ b. cond b 1 2) (le-leb (length set.tasks) 15 few) in
      ap (λ n. in_turn (λ i. block_bytes set i n) n) one

  -- the book of more than 15 tasks
  pub two_blocks : 15 < length set.tasks → encoded set ≡ block_bytes set 0 2 ++ block_bytes set 1 2
  unfolding encoded in_turn
  two_blocks many =
      let two : blocks_for set ≡ 2 = ap (λ b. cond b 1 2) (lt-leb (length set.tasks) 15 many) in
      ap (λ n. in_turn (λ i. block_bytes set i n) n) two

  -- up to 15 tasks are one block, and more are two
  pub one_for : length set.tasks ≤ 15 → 1 ≡ blocks_for set
  one_for few = sym (ap (λ b. cond b 1 2) (le-leb (length set.tasks) 15 few))

  pub two_for : 15 < length set.tasks → 2 ≡ blocks_for set
  two_for many = sym (ap (λ b. cond b 1 2) (lt-leb (length set.tasks) 15 many))

  -- two blocks that were written one after the other over the front of a buffer are that book
  pub pair_is : (a b B : List ℕ) → a ≡ block_bytes set 0 2 → b ≡ block_bytes set 1 2 → 15 < length set.tasks
      → a ++ (b ++ drop 512 (drop 512 B)) ≡ encoded set ++ drop 1024 B
  pair_is a b B first second many =
      ap (λ x. x ++ (b ++ drop 512 (drop 512 B))) first ∙ ap (λ y. block_bytes set 0 2 ++ (y ++ drop 512 (drop 512 B))) second ∙
      ap (λ d. block_bytes set 0 2 ++ (block_bytes set 1 2 ++ d)) (drop-drop 512 512 B) ∙
      sym (append_assoc (block_bytes set 0 2) (block_bytes set 1 2) (drop 1024 B)) ∙ ap (λ b. b ++ drop 1024 B) (sym (two_blocks many))

  -- a book that is put over the front of a buffer with room for it
  module _ (B : List ℕ) (n : ℕ) (size : n ≡ blocks_for set) (room : 512 * n ≤ length B) where
    -- the buffer is not refused
    pub fits : write_fault set (length B) ≡ None
    fits = ap (λ b. refuse_if b Buffer None) (le-ltb (length B) (512 * blocks_for set) (omega (arith, size, room)))

    -- what the call answers
    pub put_answers : Ok (512 * n) ≡ answer (write_fault set (length B)) (512 * blocks_for set)
    put_answers = ap (λ k. Ok (512 * k)) size ∙ answer_accepted (512 * blocks_for set) fits

    -- what it leaves in the buffer
    pub put_leaves : (now : List ℕ) → now ≡ encoded set ++ drop (512 * n) B → now ≡ left (write_fault set (length B)) (over B 0 (encoded set)) B
    put_leaves now written =
        written ∙ ap (λ k. encoded set ++ drop k B) (omega (arith, size, book_long)) ∙ left_accepted (over B 0 (encoded set)) B fits

  -- a buffer that is too short for two blocks stays as it was, in its two parts
  pub short_stays : (B front back : List ℕ) → front ≡ take 512 B → back ≡ drop 512 B → 15 < length set.tasks → length B < 1024
      → front ++ back ≡ left (write_fault set (length B)) (over B 0 (encoded set)) B
  short_stays B front back first rest many short =
      ap (λ f. f ++ back) first ∙ ap (λ b. take 512 B ++ b) rest ∙ take-append-drop 512 B ∙
      left_refused (over B 0 (encoded set)) B
      (ap (λ b. refuse_if b Buffer None) (lt-ltb (length B) (512 * blocks_for set) (omega (arith, two_for many, short))))
