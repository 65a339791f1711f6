-- An accepted book, written again, has the same bytes. Assumes nothing.
use Rattle.std.proofs.Common.{◌≡◌, ℕ, zero, suc, ◌+◌, ◌-◌, ◌*◌, ◌/◌, ◌%◌, ◌<◌, ◌≤◌, true, cond, eqb, List, [], ◌∷◌, ◌++◌, length, take, drop, replicate, Some, None, Option, sym, refl, ap, ◌∙◌, subst, inl, inr, ⊎_elim, zero-add, add-one, arith}
use Rattle.std.proofs.lemmas.List.FromFn.{get_or-map-range_with_len, length-map-range_with_len}
use Rattle.std.proofs.Math.Seq.{take-add}
use Rattle.std.proofs.lemmas.List.{drop-drop, get_or_past, length-drop, length-take, length-take-le, take_all, take-append-drop, take_more}
use Rattle.std.proofs.lemmas.Nat.{le_bytes_4}
use Rattle.std.proofs.lemmas.Option.{slice_get-get_or, slice_get_past}
use Rattle.std.proofs.lemmas.Bool.{and_parts, cases_lt, eqb-true, le-leb, lt-leb}
use Rattle.std.specs.List.{slice_get}
use Rattle.std.specs.Option.{option_map}
use Rattle.book.proofs.Refused.{both_pass}
use Rattle.plan.specs.Checks.{fault_at, parameters_of, speed_of}
use Rattle.plan.specs.TaskSet.{TaskSet, paced}
use Rattle.plan.specs.declared.fault.Place.TheVariants as place
use Rattle.book.proofs.Filled.{first_more}
use Rattle.book.proofs.Opened.{lone_block}
use Rattle.book.proofs.Records.{rest_passed, speed_passed}
use Rattle.book.proofs.Sound.{Sound, opened_is}
use Rattle.book.proofs.Sums.{total_append, total_more, total_none}
use Rattle.book.proofs.Turns.{byte_of_part, part_long, part_of_part, parts_in_turn, turn_same, zero_part, zeros_are_zero}
use Rattle.book.proofs.Walked.{byte_of_block, first_count, lone_count, records_of_lone, records_of_two, second_count}
use Rattle.book.specs.Bytes.{all_zero, byte, bytes32, part, total, word32}
use Rattle.book.specs.Reading.{block_of, decoded, draft_of, fault_of, first_fault, open_fault, read_fault, record_at, record_error, records, task_at, tasks_of}
use Rattle.book.specs.Refusals.{in_book}
use Rattle.book.specs.Writing.{block_bytes, blocks_for, check_of, encoded, head_of, in_turn, record_bytes, records_of, slot, slot_at, used}

-- every byte is below 256
abbrev pub Bytes : List ℕ → Type 0
Bytes xs = (i : ℕ) → byte xs i < 256

-- the bytes of a part are bytes
pub bytes_of_part : (xs : List ℕ) (a n : ℕ) → Bytes xs → Bytes (part xs a n)
bytes_of_part xs a n fit i =
    elim (cases_lt i n) [
      | inl inside ↦ subst (λ b. b < 256) (sym (byte_of_part xs a n i inside)) (fit (a + i))
      | inr past ↦ subst (λ b. b < 256) (sym (get_or_past (part xs a n) i 0 (simp length-take (omega arith)))) (omega arith)
    ]

-- the first bytes, one by one
front_4 : (xs : List ℕ) → 4 ≤ length xs → take 4 xs ≡ byte xs 0 ∷ byte xs 1 ∷ byte xs 2 ∷ byte xs 3 ∷ []
front_4 xs long =
    take_more xs 3 0 (omega arith) ∙
    ap (λ t. t ++ (byte xs 3 ∷ [])) (take_more xs 2 0 (omega arith) ∙
    ap (λ t. t ++ (byte xs 2 ∷ [])) (take_more xs 1 0 (omega arith) ∙
    ap (λ t. t ++ (byte xs 1 ∷ [])) (take_more xs 0 0 (omega arith))))

-- six of them
front_6 : (xs : List ℕ) → 6 ≤ length xs → take 6 xs ≡ byte xs 0 ∷ byte xs 1 ∷ byte xs 2 ∷ byte xs 3 ∷ byte xs 4 ∷ byte xs 5 ∷ []
front_6 xs long =
    take_more xs 5 0 (omega arith) ∙
    ap (λ t. t ++ (byte xs 5 ∷ [])) (take_more xs 4 0 (omega arith) ∙
    ap (λ t. t ++ (byte xs 4 ∷ [])) (front_4 xs (omega arith)))

-- nine of them
front_9 : (xs : List ℕ) → 9 ≤ length xs → take 9 xs ≡ byte xs 0 ∷ byte xs 1 ∷ byte xs 2 ∷ byte xs 3 ∷ byte xs 4 ∷ byte xs 5 ∷ byte xs 6 ∷ byte xs 7 ∷ byte xs 8 ∷ []
front_9 xs long =
    take_more xs 8 0 (omega arith) ∙
    ap (λ t. t ++ (byte xs 8 ∷ [])) (take_more xs 7 0 (omega arith) ∙
    ap (λ t. t ++ (byte xs 7 ∷ [])) (take_more xs 6 0 (omega arith) ∙
    ap (λ t. t ++ (byte xs 6 ∷ [])) (front_6 xs (omega arith))))

-- One record.

-- a speed that was read is written as the same code
speed_byte : (s : ℕ) → s ≤ 1 → paced (speed_of s) 0 1 ≡ s
speed_byte zero low = refl
speed_byte (suc zero) low = refl
speed_byte (suc (suc s)) low = absurd (omega arith)

-- the low byte of a word of two bytes
low_byte : (a b : ℕ) → a < 256 → b < 256 → (a + b * 256) % 256 ≡ a
low_byte a b p q = omega arith

-- its high byte
high_byte : (a b : ℕ) → a < 256 → b < 256 → (a + b * 256) / 256 % 256 ≡ b
high_byte a b p q = omega arith

-- a record that passed is written with the same bytes
pub record_again : (xs : List ℕ) → length xs ≡ 32 → Bytes xs → record_error xs ≡ None → record_bytes (parameters_of (draft_of xs)) ≡ xs
unfolding record_bytes
record_again xs long fit passed =
    let rest : replicate 23 0 ≡ drop 9 xs =
    ap (λ n. replicate n 0) (sym (length-drop 9 xs ∙ ap (λ n. n - 9) long)) ∙ sym (zeros_are_zero (drop 9 xs) (rest_passed xs passed)) in
    (λ i.
    low_byte (byte xs 0) (byte xs 1) (fit 0) (fit 1) i ∷ high_byte (byte xs 0) (byte xs 1) (fit 0) (fit 1) i ∷
    low_byte (byte xs 2) (byte xs 3) (fit 2) (fit 3) i ∷ high_byte (byte xs 2) (byte xs 3) (fit 2) (fit 3) i ∷
    low_byte (byte xs 4) (byte xs 5) (fit 4) (fit 5) i ∷ high_byte (byte xs 4) (byte xs 5) (fit 4) (fit 5) i ∷
    byte xs 6 ∷ byte xs 7 ∷ speed_byte (byte xs 8) (speed_passed xs passed) i ∷ rest i) ∙
    ap (λ t. t ++ drop 9 xs) (sym (front_9 xs (omega arith))) ∙
    take-append-drop 9 xs

-- One word.

-- a word is written with the same bytes
word_again : (xs : List ℕ) → length xs ≡ 4 → Bytes xs → bytes32 (word32 xs 0) ≡ xs
word_again xs long fit = le_bytes_4 xs (word32 xs 0) long fit refl

-- One block.

module _ (b : List ℕ) (long : length b ≡ 512) (fit : Bytes b) (i n : ℕ) (sound : Sound b i n) (set : TaskSet)
    (count : used set i ≡ byte b 3) (p : cond (eqb i 0) set.p 0 ≡ byte b 4) (q : cond (eqb i 0) set.q 0 ≡ byte b 5)
    (slots : (r : ℕ) → r < 15 → slot_at set i r ≡ part b (32 + 32 * r) 32) where
  -- the zeros of the head are those of the block
  zeros_22 : replicate 22 0 ≡ part b 6 22
  zeros_22 = sym (zeros_are_zero (part b 6 22) sound.reserved ∙ ap (λ k. replicate k 0) (part_long b 6 22 (omega arith)))

  -- the head is written with the same bytes
  head_again : head_of set i n ≡ take 28 b
  head_again =
      (λ j. sym sound.kind j ∷ sym sound.place j ∷ sym sound.among j ∷ count j ∷ p j ∷ q j ∷ zeros_22 j) ∙
      ap (λ t. t ++ part b 6 22) (sym (front_6 b (omega arith))) ∙
      sym (take-add 6 22 b)

  -- the records are written with the same bytes
  records_again : records_of set i ≡ drop 32 b
  records_again =
      turn_same (slot_at set i) (λ r. part (drop 32 b) (32 * r) 32) 15 (λ r below. slots r below ∙ ap (take 32) (sym (drop-drop (32 * r) 32 b))) ∙
      parts_in_turn (drop 32 b) 32 15 ∙
      take_all 480 (drop 32 b) (simp length-drop (omega arith))

  -- the check and the records are the rest of the block
  rest : part b 28 4 ++ drop 32 b ≡ drop 28 b
  rest = ap (λ t. take 4 (drop 28 b) ++ t) (sym (drop-drop 4 28 b)) ∙ take-append-drop 4 (drop 28 b)

  -- head, check and records are the block
  whole : take 28 b ++ (part b 28 4 ++ drop 32 b) ≡ b
  whole = ap (λ t. take 28 b ++ t) rest ∙ take-append-drop 28 b

  -- the check that was read is the one that is asked for
  check_value : word32 (part b 28 4) 0 ≡ check_of (total (head_of set i n) 7 + total (records_of set i) 120)
  check_value =
      let parts : total b 128 ≡ total (take 28 b) 7 + (total (part b 28 4) 1 + total (drop 32 b) 120) =
      ap (λ x. total x 128) (sym whole) ∙
      total_append (take 28 b) (part b 28 4 ++ drop 32 b) 7 121 (length-take-le 28 b (omega arith)) ∙
      ap (λ t. total (take 28 b) 7 + t) (total_append (part b 28 4) (drop 32 b) 1 120 (part_long b 28 4 (omega arith))) in
      let word : total (part b 28 4) 1 ≡ word32 (part b 28 4) 0 = total_more (part b 28 4) 0 ∙ ap (λ t. t + word32 (part b 28 4) 0) (total_none (part b 28 4)) ∙ zero-add (word32 (part b 28 4) 0) in
      let small : word32 (part b 28 4) 0 < 4294967296 =
      omega (arith, bytes_of_part b 28 4 fit 0, bytes_of_part b 28 4 fit 1, bytes_of_part b 28 4 fit 2, bytes_of_part b 28 4 fit 3) in
      omega (arith, sound.sum, parts, word, ap (λ x. total x 7) head_again, ap (λ x. total x 120) records_again)

  -- so the block is written with the same bytes
  pub block_again : block_bytes set i n ≡ b
  unfolding block_bytes
  block_again =
      ap (λ c. head_of set i n ++ (bytes32 c ++ records_of set i)) (sym check_value) ∙
      ap (λ w. head_of set i n ++ (w ++ records_of set i)) (word_again (part b 28 4) (part_long b 28 4 (omega arith)) (bytes_of_part b 28 4 fit)) ∙
      ap (λ h. h ++ (part b 28 4 ++ records_of set i)) head_again ∙
      ap (λ r. take 28 b ++ (part b 28 4 ++ r)) records_again ∙
      whole

-- The whole book.

-- where nothing came out of a map, nothing went in
none_before : {A B : Type 0} (g : A → B) (o : Option A) → option_map g o ≡ None → o ≡ None
none_before g None e = refl
none_before g (Some a) e = cc

-- if no fault is among the first n records, none of them has one
all_clean : (book : List ℕ) (n k : ℕ) → k < n → first_fault book n ≡ None → fault_of book k ≡ None
all_clean book zero k below clean = absurd (omega arith)
all_clean book (suc n) k below clean =
    let both = both_pass (first_fault book n) (fault_of book n) (sym (first_more book n) ∙ ap (first_fault book) (add-one n) ∙ clean) in
    ⊎_elim (λ before. all_clean book n k before both.0) (λ last. let same : k ≡ n = omega arith in ap (fault_of book) same ∙ both.1) (cases_lt k n)

module _ (book : List ℕ) (fit : Bytes book) (passed : read_fault book ≡ None) where
  -- an accepted book passed the checks of its blocks
  opened : open_fault book ≡ None
  opened = (both_pass (open_fault book) (option_map in_book (first_fault book (records book))) passed).0

  -- its records have no fault
  clean : first_fault book (records book) ≡ None
  clean = none_before in_book (first_fault book (records book)) (both_pass (open_fault book) (option_map in_book (first_fault book (records book))) passed).1

  -- how many records it has
  N : ℕ
  N = records book

  -- what it holds
  set : TaskSet
  set = decoded book

  -- as many tasks as records
  counted : length set.tasks ≡ N
  unfolding N set
  counted = length-map-range_with_len (task_at book) 0 (records book)

  -- each record passes its checks
  pub records_pass : (k : ℕ) → k < records book → record_error (record_at book k) ≡ None
  records_pass k below = none_before (fault_at (Some (place.Record (k / 15) (k % 15)))) (record_error (record_at book k)) (all_clean book (records book) k below clean)

  -- the same, by the number of records
  record_clean : (k : ℕ) → k < N → record_error (record_at book k) ≡ None
  unfolding N
  record_clean k below = records_pass k below

  -- the task of each record
  its_task : (k : ℕ) → k < N → slice_get set.tasks k ≡ Some (task_at book k)
  unfolding N set
  its_task k below =
      slice_get-get_or (tasks_of book (records book)) k (task_at book k) (omega (arith, counted)) ∙
      ap Some (get_or-map-range_with_len (task_at book) 0 (records book) k k (task_at book k) below (omega arith))

  -- a block of the book
  module _ (i n : ℕ) (b : List ℕ) (same : block_of book i ≡ b) (long : length b ≡ 512) (inside : 512 * i + 512 ≤ length book) (sound : Sound b i n)
      (most : byte b 3 ≤ 15) (in_set : (r : ℕ) → r < byte b 3 → 15 * i + r < N) (past_set : (r : ℕ) → byte b 3 ≤ r → r < 15 → N ≤ 15 * i + r) where
    -- its bytes are bytes
    block_fits : Bytes b
    block_fits j = ⊎_elim
        (λ below. subst (λ x. x < 256) (sym (byte_of_block book i j below) ∙ ap (λ x. byte x j) same) (fit (512 * i + j)))
        (λ past. subst (λ x. x < 256) (sym (get_or_past b j 0 (omega arith))) (omega arith))
        (cases_lt j 512)

    -- its records stand in the book
    there : (r : ℕ) → r < 15 → record_at book (15 * i + r) ≡ part b (32 + 32 * r) 32
    there r below =
        let q : (15 * i + r) / 15 ≡ i = omega arith in
        let m : (15 * i + r) % 15 ≡ r = omega arith in
        sym (part_of_part book (512 * ((15 * i + r) / 15)) 512 (32 + 32 * ((15 * i + r) % 15)) 32 (omega arith)) ∙
        ap (λ x. part (block_of book x) (32 + 32 * ((15 * i + r) % 15)) 32) q ∙
        ap (λ x. part (block_of book i) (32 + 32 * x) 32) m ∙
        ap (λ x. part x (32 + 32 * r) 32) same

    -- each of its slots is written with the same bytes
    its_slot : (r : ℕ) → r < 15 → slot_at set i r ≡ part b (32 + 32 * r) 32
    unfolding N
    its_slot r below = ⊎_elim
        (λ low. ap slot (its_task (15 * i + r) (in_set r low)) ∙
        ap (λ x. record_bytes (parameters_of (draft_of x))) (there r below) ∙
        record_again (part b (32 + 32 * r) 32) (part_long b (32 + 32 * r) 32 (omega arith)) (bytes_of_part b (32 + 32 * r) 32 block_fits)
        (sym (ap record_error (there r below)) ∙ record_clean (15 * i + r) (in_set r low)))
        (λ high. ap slot (slice_get_past set.tasks (15 * i + r) (omega (arith, counted, past_set r high below))) ∙
        sym (zeros_are_zero (part b (32 + 32 * r) 32) (zero_there r high) ∙ ap (λ k. replicate k 0) (part_long b (32 + 32 * r) 32 (omega arith))))
        (cases_lt r (byte b 3))
      where
        zero_there : (r : ℕ) → byte b 3 ≤ r → all_zero (part b (32 + 32 * r) 32) ≡ true
        zero_there r high =
            let at : 32 + 32 * byte b 3 + 32 * (r - byte b 3) ≡ 32 + 32 * r = omega arith in
            ap (λ k. all_zero (take 32 (drop k b))) (sym at) ∙
            ap (λ x. all_zero (take 32 x)) (sym (drop-drop (32 * (r - byte b 3)) (32 + 32 * byte b 3) b)) ∙
            zero_part (drop (32 + 32 * byte b 3) b) (32 * (r - byte b 3)) 32 sound.unused

    -- so the block is written with the same bytes
    one_again : used set i ≡ byte b 3 → cond (eqb i 0) set.p 0 ≡ byte b 4 → cond (eqb i 0) set.q 0 ≡ byte b 5 → block_bytes set i n ≡ b
    one_again count p q = block_again b long block_fits i n sound set count p q its_slot

  -- and so is the book
  pub written_again : encoded (decoded book) ≡ book
  unfolding encoded in_turn N set
  written_again =
      elim (opened_is book opened) [
        | inl l ↦ (let few = lone_count book l in
            let all = records_of_lone book l.long in
            let one : blocks_for set ≡ 1 = ap (λ x. cond x 1 2) (le-leb (length set.tasks) 15 (omega (arith, counted))) in
            ap (λ n. in_turn (λ i. block_bytes set i n) n) one ∙
            one_again 0 1 book (lone_block book l.long) l.long (omega (arith, l.long)) l.sound few
            (λ r low. omega (arith, all)) (λ r high within. omega (arith, all)) (omega (arith, counted, all)) refl refl)
        | inr t ↦ (let first = first_count book t in
            let second = second_count book t in
            let all = records_of_two book t.long in
            let two : blocks_for set ≡ 2 = ap (λ x. cond x 1 2) (lt-leb (length set.tasks) 15 (omega (arith, counted, all, first, second))) in
            let b0 = byte_of_block book 0 3 (omega arith) in
            let b1 = byte_of_block book 1 3 (omega arith) in
            let ratio = and_parts (eqb (byte (block_of book 1) 4) 0) (eqb (byte (block_of book 1) 5) 0) t.second.ratio in
            let long-0 : length (block_of book 0) ≡ 512 = part_long book 0 512 (omega (arith, t.long)) in
            let long-1 : length (block_of book 1) ≡ 512 = part_long book 512 512 (omega (arith, t.long)) in
            ap (λ n. in_turn (λ i. block_bytes set i n) n) two ∙
            ap (λ x. x ++ block_bytes set 1 2)
            (one_again 0 2 (block_of book 0) refl long-0 (omega (arith, t.long)) t.first (omega (arith, b0, first))
            (λ r low. omega (arith, all, b0, first, second)) (λ r high within. absurd (omega (arith, b0, first)))
            (omega (arith, counted, all, b0, first, second)) (sym (byte_of_block book 0 4 (omega arith))) (sym (byte_of_block book 0 5 (omega arith)))) ∙
            ap (λ x. block_of book 0 ++ x)
            (one_again 1 2 (block_of book 1) refl long-1 (omega (arith, t.long)) t.second (omega (arith, b1, second))
            (λ r low. omega (arith, all, b1, first)) (λ r high within. omega (arith, all, b1, first))
            (omega (arith, counted, all, b1, first)) (sym (eqb-true _ 0 ratio.0)) (sym (eqb-true _ 0 ratio.1))) ∙
            ap (λ x. take 512 book ++ x) (take_all 512 (drop 512 book) (simp length-drop (omega (arith, t.long)))) ∙
            take-append-drop 512 book)
      ]
