-- The bytes of a task set's book. Assumes nothing.
use Rattle.std.specs.Prelude.{ℕ, zero, suc, ◌+◌, ◌-◌, ◌*◌, ◌%◌, min, cond, List, [], ◌∷◌, ◌++◌, length, take, drop, replicate, Some, None, Option, ◌==◌, nat_le, nat_lt}
use Rattle.std.specs.List.{slice_get}
use Rattle.plan.specs.Checks.{refuse_if}
use Rattle.plan.specs.TaskSet.{Parameters, TaskSet, paced}
use Rattle.book.specs.Bytes.{bytes16, bytes32, total}
use Rattle.book.specs.declared.fault.BookFault.{BookFault}
use Rattle.book.specs.declared.fault.BookFault.TheVariants.{Buffer}

-- a byte string with others written over it from a place on
abbrev pub over : List ℕ → ℕ → List ℕ → List ℕ
over xs at ys = take at xs ++ (ys ++ drop (at + length ys) xs)

-- The 32 bytes of a record: T, D and C in two bytes each, m, k, the speed, and zeros.
unfoldable pub record_bytes : Parameters → List ℕ
record_bytes t = bytes16 t.period ++ (bytes16 t.deadline ++ (bytes16 t.work ++ (t.m ∷ t.k ∷ paced t.speed 0 1 ∷ replicate 23 0)))

-- the record of a task, or an unused one
abbrev pub slot : Option Parameters → List ℕ
slot (Some t) = record_bytes t
slot None = replicate 32 0

-- the byte strings f 0 to f (n − 1), one after the other
unfoldable pub in_turn : (ℕ → List ℕ) → ℕ → List ℕ
in_turn f zero = []
in_turn f (suc n) = in_turn f n ++ f n

-- record r of block i
abbrev pub slot_at : TaskSet → ℕ → ℕ → List ℕ
slot_at set i r = slot (slice_get set.tasks (15 * i + r))

-- The 15 records of block i.
abbrev pub records_of : TaskSet → ℕ → List ℕ
records_of set i = in_turn (slot_at set i) 15

-- how many of them are used
abbrev pub used : TaskSet → ℕ → ℕ
used set i = min 15 (length set.tasks - 15 * i)

-- The first 28 bytes of block i of so many: kind, place, blocks, records, the ratio in block 0, and zeros.
abbrev pub head_of : TaskSet → ℕ → ℕ → List ℕ
head_of set i blocks = 1 ∷ i ∷ blocks ∷ used set i ∷ cond (i == 0) set.p 0 ∷ cond (i == 0) set.q 0 ∷ replicate 22 0

-- what makes the sum of a block's words come out as 0 modulo 2^32
abbrev pub check_of : ℕ → ℕ
check_of sum = (4294967296 - sum % 4294967296) % 4294967296

-- a block with the word at byte 28 that makes its words add up to 0 modulo 2^32, whatever stood there
abbrev pub mended : List ℕ → List ℕ
mended block = over block 28 (bytes32 (check_of (total block 7 + total (drop 32 block) 120)))

-- Block i of so many: its head, the word that makes the check come out, its records.
unfoldable pub block_bytes : TaskSet → ℕ → ℕ → List ℕ
block_bytes set i blocks =
    head_of set i blocks ++ (bytes32 (check_of (total (head_of set i blocks) 7 + total (records_of set i) 120)) ++ records_of set i)

-- one block for up to 15 tasks, two for more
abbrev pub blocks_for : TaskSet → ℕ
blocks_for set = cond (nat_le (length set.tasks) 15) 1 2

unfoldable pub encoded : TaskSet → List ℕ
encoded set = in_turn (λ i. block_bytes set i (blocks_for set)) (blocks_for set)

-- a buffer with that much room is shorter than a book of that size
abbrev pub room_fault : ℕ → ℕ → Option BookFault
room_fault size room = refuse_if (nat_lt room size) Buffer None

-- the buffer is shorter than the written book
abbrev pub write_fault : TaskSet → ℕ → Option BookFault
write_fault set room = room_fault (512 * blocks_for set) room
