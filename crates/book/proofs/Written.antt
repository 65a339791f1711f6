-- The book of a plan is accepted, and holds the plan's task set. Assumes nothing.
use Rattle.std.proofs.Common.{◌≡◌, ℕ, zero, suc, ◌+◌, ◌*◌, ◌/◌, ◌%◌, ◌<◌, ◌≤◌, true, cond, eqb, ltb, leb, List, length, get_or, take, drop, Some, None, Option, Result, sym, refl, ap, ◌∙◌, subst, inl, inr, zero-add, arith}
use Rattle.std.proofs.lemmas.List.FromFn.{get_or-map-range_with_len, length-map-range_with_len}
use Rattle.std.proofs.lemmas.List.{drop_at, drop-drop, same_lists, take_all, take_at}
use Rattle.std.proofs.lemmas.Option.{slice_get-get_or, slice_get_past}
use Rattle.std.proofs.lemmas.Bool.{and_from, cases_lt, eq-eqb, le-leb, le-ltb, lt-leb, ne_eqb, not_from_false, or_from}
use Rattle.std.specs.List.{slice_get}
use Rattle.std.specs.Option.{option_map, option_or}
use Rattle.std.specs.Result.{IfOk}
use Rattle.plan.specs.Bounded.{Bounded, absent, task}
use Rattle.plan.specs.Bounds.{Geared}
use Rattle.plan.specs.Checks.{fault_at, out_of_gear, parameters_of}
use Rattle.plan.proofs.Bounding.{plan_is_bounded}
use Rattle.plan.specs.Refusals.{answer, left}
use Rattle.plan.specs.TaskSet.{Parameters, TaskSet, task_set}
use Rattle.plan.specs.declared.fault.Place.TheVariants as place
use Rattle.plan.specs.declared.plan.Plan.{Plan}
use Rattle.book.proofs.Mended.{mended_fits}
use Rattle.book.proofs.Opened.{lone_block, open_at_512, open_at_1024}
use Rattle.book.proofs.Readings.{accepted}
use Rattle.book.proofs.Records.{Good, record_passes, task_back}
use Rattle.book.proofs.Sound.{Sound, sound_passes}
use Rattle.book.proofs.Turns.{part_of_part, turn_part, zero_after}
use Rattle.book.proofs.Walked.{byte_of_block, records_of_lone, records_of_two}
use Rattle.book.proofs.Writings.{block_long, book_long, one_block, slot_long, two_blocks}
use Rattle.book.specs.Bytes.{all_zero, byte, part}
use Rattle.book.specs.Reading.{block_fault, block_of, count_fits, draft_of, fault_of, first_fault, open_fault, ratio_fits, record_at, record_fault, records, task_at, tasks_of}
use Rattle.book.specs.RoundTrip.{ReadsAs}
use Rattle.book.specs.Writing.{block_bytes, blocks_for, encoded, head_of, over, record_bytes, records_of, slot, slot_at, used}

-- each slot of a block has 32 bytes
each_slot : (set : TaskSet) (i r : ℕ) → length (slot_at set i r) ≡ 32
each_slot set i r = slot_long (slice_get set.tasks (15 * i + r))

-- One block.

module _ (set : TaskSet) (i n : ℕ) where
  -- its records stand after 32 bytes
  block_tail : drop 32 (block_bytes set i n) ≡ records_of set i
  unfolding block_bytes
  block_tail = refl

  -- after the records that are used there are zeros
  block_unused : all_zero (drop (32 + 32 * used set i) (block_bytes set i n)) ≡ true
  block_unused =
      ap all_zero (sym (drop-drop (32 * used set i) 32 (block_bytes set i n)) ∙ ap (drop (32 * used set i)) block_tail) ∙
      zero_after (slot_at set i) 32 (each_slot set i) (used set i) 15 (omega arith)
      (λ r low high. ap (λ o. all_zero (slot o)) (slice_get_past set.tasks (15 * i + r) (omega arith)))

  -- so the block is sound, if its count and its ratio fit
  block_sound : count_fits (used set i) i n ≡ true → ratio_fits (cond (eqb i 0) set.p 0) (cond (eqb i 0) set.q 0) i ≡ true → Sound (block_bytes set i n) i n
  unfolding block_bytes
  block_sound count ratio = record {
    sum = mended_fits (head_of set i n) (records_of set i) refl;
    kind = refl;
    place = refl;
    among = refl;
    count = count;
    ratio = ratio;
    reserved = refl;
    unused = block_unused;
  }

  -- its records stand in it one after the other
  pub block_record : (r : ℕ) → r < 15 → part (block_bytes set i n) (32 + 32 * r) 32 ≡ slot_at set i r
  block_record r below =
      ap (take 32) (sym (drop-drop (32 * r) 32 (block_bytes set i n)) ∙ ap (drop (32 * r)) block_tail) ∙
      turn_part (slot_at set i) 32 (each_slot set i) 15 r below

-- a ratio in range fits
in_gear : (p q : ℕ) → Geared p q → ratio_fits p q 0 ≡ true
in_gear p q g =
    not_from_false (out_of_gear p q) (or_from (eqb q 0) _ (ne_eqb q 0 (λ e. omega arith)) (or_from (ltb p q) _ (le-ltb p q (omega arith)) (le-ltb 16 p (omega arith))))

-- The whole book.

module _ (set : TaskSet) (o : Bounded set) where
  -- how many tasks there are
  abbrev N : ℕ
  N = length set.tasks

  -- the book
  abbrev book : List ℕ
  book = encoded set

  -- the length of a book of one block
  long_of_one : N ≤ 15 → length book ≡ 512
  long_of_one few = ap length (one_block set few) ∙ block_long set 0 1

  -- the length of a book of two
  long_of_two : 15 < N → length book ≡ 1024
  long_of_two many = book_long set ∙ ap (λ b. 512 * cond b 1 2) (lt-leb N 15 many)

  -- the first of two blocks
  first_of_two : 15 < N → block_of book 0 ≡ block_bytes set 0 2
  first_of_two many = ap (take 512) (two_blocks set many) ∙ take_at (block_bytes set 0 2) (block_bytes set 1 2) 512 (block_long set 0 2)

  -- the second of two
  second_of_two : 15 < N → block_of book 1 ≡ block_bytes set 1 2
  second_of_two many =
      ap (λ b. take 512 (drop 512 b)) (two_blocks set many) ∙
      ap (take 512) (drop_at (block_bytes set 0 2) (block_bytes set 1 2) 512 (block_long set 0 2)) ∙
      take_all 512 (block_bytes set 1 2) (omega (arith, block_long set 1 2))

  -- the book passes the checks of its blocks
  opens : open_fault book ≡ None
  opens =
      elim (cases_lt 15 N) [
        | inl many ↦ open_at_1024 book (long_of_two many) ∙
            ap (λ b. option_or (block_fault b 0 2) (block_fault (block_of book 1) 1 2)) (first_of_two many) ∙
            ap (λ x. option_or x (block_fault (block_of book 1) 1 2)) (sound_passes _ 0 2 (block_sound set 0 2 (eq-eqb _ 15 (omega arith)) (in_gear set.p set.q o.geared))) ∙
            ap (λ b. block_fault b 1 2) (second_of_two many) ∙
            sound_passes _ 1 2 (block_sound set 1 2 (second_count many) refl)
        | inr few ↦ open_at_512 book (long_of_one few) ∙
            ap (λ b. block_fault b 0 1) (one_block set few) ∙
            sound_passes _ 0 1 (block_sound set 0 1 (le-leb _ 15 (omega arith)) (in_gear set.p set.q o.geared))
      ]
    where
      second_count : 15 < N → count_fits (used set 1) 1 2 ≡ true
      second_count many = and_from (leb 1 (used set 1)) _ (le-leb 1 _ (omega (arith, o.few))) (le-leb _ 15 (omega arith))

  -- byte 3 of a block is how many of its records are used
  used_byte : (i n : ℕ) → byte (block_bytes set i n) 3 ≡ used set i
  unfolding block_bytes
  used_byte i n = refl

  -- it has as many records as there are tasks
  counts : records book ≡ N
  counts =
      elim (cases_lt 15 N) [
        | inl many ↦ records_of_two book (long_of_two many) ∙
            omega (
              arith,
              o.few,
              byte_of_block book 0 3 (omega arith),
              ap (λ b. byte b 3) (first_of_two many),
              used_byte 0 2,
              byte_of_block book 1 3 (omega arith),
              ap (λ b. byte b 3) (second_of_two many),
              used_byte 1 2,
            )
        | inr few ↦ records_of_lone book (long_of_one few) ∙ ap (λ b. byte b 3) (one_block set few) ∙ used_byte 0 1 ∙ omega arith
      ]

  -- record n, in its block
  in_block : (n : ℕ) → record_at book n ≡ part (block_of book (n / 15)) (32 + 32 * (n % 15)) 32
  in_block n = sym (part_of_part book (512 * (n / 15)) 512 (32 + 32 * (n % 15)) 32 (omega arith))

  -- record n is the slot of task n
  slot_of : (n : ℕ) → n < N → record_at book n ≡ slot (slice_get set.tasks n)
  slot_of n below =
      let here : 15 * (n / 15) + n % 15 ≡ n = omega arith in
      in_block n ∙
      elim (cases_lt 15 N) [
        | inl many ↦ elim (cases_lt n 15) [
          | inl low ↦ (let at : n / 15 ≡ 0 = omega arith in
              ap (λ i. part (block_of book i) (32 + 32 * (n % 15)) 32) at ∙
              ap (λ b. part b (32 + 32 * (n % 15)) 32) (first_of_two many) ∙
              block_record set 0 2 (n % 15) (omega arith) ∙
              ap (λ k. slot (slice_get set.tasks k)) (omega arith))
          | inr high ↦ (let at : n / 15 ≡ 1 = omega (arith, o.few) in
              ap (λ i. part (block_of book i) (32 + 32 * (n % 15)) 32) at ∙
              ap (λ b. part b (32 + 32 * (n % 15)) 32) (second_of_two many) ∙
              block_record set 1 2 (n % 15) (omega arith) ∙
              ap (λ k. slot (slice_get set.tasks k)) (omega arith))
        ]
        | inr few ↦ (let at : n / 15 ≡ 0 = omega arith in
            ap (λ i. part (block_of book i) (32 + 32 * (n % 15)) 32) at ∙
            ap (λ b. part b (32 + 32 * (n % 15)) 32) (lone_block book (long_of_one few) ∙ one_block set few) ∙
            block_record set 0 1 (n % 15) (omega arith) ∙
            ap (λ k. slot (slice_get set.tasks k)) (omega arith))
      ]

  module _ (n : ℕ) (t : Parameters) (below : n < N) (here : slice_get set.tasks n ≡ Some t) where
    -- the task keeps its bounds
    good : Good t
    good =
        let listed : slice_get set.tasks n ≡ Some (task set n) = slice_get-get_or set.tasks n absent below in
        let same : task set n ≡ t = cc in
        subst Good same (record { timed = o.timed n below; constrained = o.constrained n below })

    -- its record has the task's bytes
    bytes_of : record_at book n ≡ record_bytes t
    bytes_of = slot_of n below ∙ ap slot here

    -- the record gives the task
    pub task_of : task_at book n ≡ t
    task_of = ap (λ b. parameters_of (draft_of b)) bytes_of ∙ task_back t good

    -- and has no fault
    pub no_fault : fault_of book n ≡ None
    no_fault =
        ap (λ b. record_fault b (Some (place.Record (n / 15) (n % 15)))) bytes_of ∙
        ap (option_map (fault_at (Some (place.Record (n / 15) (n % 15))))) (record_passes t good)

  -- so no record has a fault
  clean : (n : ℕ) → n ≤ N → first_fault book n ≡ None
  unfolding first_fault
  clean zero most = refl
  clean (suc n) most =
      ap (λ x. option_or x (fault_of book n)) (clean n (omega arith)) ∙
      no_fault n (task set n) (omega arith) (slice_get-get_or set.tasks n absent (omega arith))

  -- and the book holds the tasks
  tasks_back : tasks_of book N ≡ set.tasks
  tasks_back =
      same_lists _ _ (length-map-range_with_len (task_at book) 0 N)
      (λ k d below. get_or-map-range_with_len (task_at book) 0 N k k d (omega (arith, length-map-range_with_len (task_at book) 0 N)) (omega arith) ∙
      task_of k (get_or set.tasks k d) (omega (arith, length-map-range_with_len (task_at book) 0 N)) (slice_get-get_or set.tasks k d (omega (arith, length-map-range_with_len (task_at book) 0 N))))

  -- the ratio stands in the first block
  byte_of_first : (at : ℕ) → at < 512 → byte book at ≡ byte (block_bytes set 0 (blocks_for set)) at
  byte_of_first at inside =
      elim (cases_lt 15 N) [
        | inl many ↦ ap (byte book) (sym (zero-add at)) ∙ sym (byte_of_block book 0 at inside) ∙ ap (λ b. byte b at) (first_of_two many) ∙ ap (λ n. byte (block_bytes set 0 n) at) (sym (ap (λ b. cond b 1 2) (lt-leb N 15 many)))
        | inr few ↦ ap (λ b. byte b at) (one_block set few) ∙ ap (λ n. byte (block_bytes set 0 n) at) (sym (ap (λ b. cond b 1 2) (le-leb N 15 few)))
      ]

  -- its p
  ratio_p : byte (block_bytes set 0 (blocks_for set)) 4 ≡ set.p
  unfolding block_bytes
  ratio_p = refl

  -- its q
  ratio_q : byte (block_bytes set 0 (blocks_for set)) 5 ≡ set.q
  unfolding block_bytes
  ratio_q = refl

  -- so the book is accepted, and holds the task set
  pub reads_back : ReadsAs (encoded set) set
  reads_back = record {
    accepted = accepted book opens (ap (first_fault book) counts ∙ clean N (omega arith));
    holds = λ i. record {
      tasks = (ap (tasks_of book) counts ∙ tasks_back) i;
      p = (byte_of_first 4 (omega arith) ∙ ratio_p) i;
      q = (byte_of_first 5 (omega arith) ∙ ratio_q) i;
    };
  }

-- a call that answers how many bytes it wrote of a plan's book, or refuses
pub written_reads_back : {F : Type 0} (plan : Plan) (B now : List ℕ) (fault : Option F) (r : Result ℕ F) → r ≡ answer fault (512 * blocks_for (task_set plan))
    → now ≡ left fault (over B 0 (encoded (task_set plan))) B → IfOk r (λ n. ReadsAs (take n now) (task_set plan))
written_reads_back plan B now (Some f) r answered wrote = subst (λ x. IfOk x (λ n. ReadsAs (take n now) (task_set plan))) (sym answered) tt
written_reads_back plan B now None r answered wrote =
    let front : take (512 * blocks_for (task_set plan)) now ≡ encoded (task_set plan) =
    ap (take (512 * blocks_for (task_set plan))) wrote ∙
    take_at (encoded (task_set plan)) (drop (0 + length (encoded (task_set plan))) B) (512 * blocks_for (task_set plan)) (book_long (task_set plan)) in
    subst (λ x. IfOk x (λ n. ReadsAs (take n now) (task_set plan))) (sym answered)
    (subst (λ b. ReadsAs b (task_set plan)) (sym front) (reads_back (task_set plan) (plan_is_bounded plan)))
