-- What a byte string means as a book: the first check that it fails, or the task set that it holds.
-- Assumes nothing.
use Rattle.std.specs.Prelude.{ℕ, zero, suc, ◌+◌, ◌*◌, ◌/◌, ◌%◌, Bool, cond, not, ◌&&◌, List, map, length, drop, Some, None, Option, ◌==◌, nat_le}
use Rattle.std.specs.List.{range_with_len}
use Rattle.std.specs.Option.{option_map, option_or}
use Rattle.plan.specs.Checks.{first_error, fault_at, out_of_gear, parameters_of, refuse_if}
use Rattle.plan.specs.TaskSet.{Parameters, TaskSet}
use Rattle.plan.specs.declared.draft.Draft.{Draft}
use Rattle.plan.specs.declared.fault.Place.{Place}
use Rattle.plan.specs.declared.fault.Place.TheVariants as place
use Rattle.plan.specs.declared.fault.RecordError.{RecordError}
use Rattle.plan.specs.declared.fault.RecordError.TheVariants.{SpeedOrRest}
use Rattle.plan.specs.declared.fault.RecordFault.{RecordFault}
use Rattle.book.specs.Bytes.{byte, word16, part, total, all_zero}
use Rattle.book.specs.Refusals.{in_book}
use Rattle.book.specs.declared.fault.BookFault.{BookFault}
use Rattle.book.specs.declared.fault.BookFault.TheVariants.{Length, Sum, Head, Count, Ratio, Reserved}

-- One block, of 512 bytes, at its place among one or two.

-- the 128 words add up to 0 modulo 2^32
abbrev pub sum_fits : List ℕ → Bool
sum_fits block = total block 128 % 4294967296 == 0

-- kind 1, then the block's place, then the number of blocks
abbrev pub head_fits : List ℕ → ℕ → ℕ → Bool
head_fits block at blocks = byte block 0 == 1 && (byte block 1 == at && byte block 2 == blocks)

-- 0 to 15 records in a lone block, 15 in the first of two, 1 to 15 in the second
abbrev pub count_fits : ℕ → ℕ → ℕ → Bool
count_fits count at blocks =
    cond (blocks == 1) (nat_le count 15)
    (cond (at == 0) (count == 15) (nat_le 1 count && nat_le count 15))

-- the ratio in block 0, zero in block 1
abbrev pub ratio_fits : ℕ → ℕ → ℕ → Bool
ratio_fits p q at = cond (at == 0) (not (out_of_gear p q)) (p == 0 && q == 0)

-- bytes 6 to 27, and the records that are not used, are zero
abbrev pub zeros_fault : List ℕ → ℕ → Option BookFault
zeros_fault block at =
    refuse_if (not (all_zero (part block 6 22))) (Reserved at)
    (refuse_if (not (all_zero (drop (32 + 32 * byte block 3) block))) (Reserved at)
    None)

-- the first of the checks 2 to 6 that a block fails
unfoldable pub block_fault : List ℕ → ℕ → ℕ → Option BookFault
block_fault block at blocks =
    refuse_if (not (sum_fits block)) (Sum at)
    (refuse_if (not (head_fits block at blocks)) (Head at)
    (refuse_if (not (count_fits (byte block 3) at blocks)) (Count at)
    (refuse_if (not (ratio_fits (byte block 4) (byte block 5) at)) (Ratio at)
    (zeros_fault block at))))

-- The blocks of a book.

abbrev pub block_of : List ℕ → ℕ → List ℕ
block_of book i = part book (512 * i) 512

-- the first of the checks 1 to 6 that a book fails
abbrev pub open_fault : List ℕ → Option BookFault
open_fault book =
    cond (length book == 512) (block_fault (block_of book 0) 0 1)
    (cond (length book == 1024) (option_or (block_fault (block_of book 0) 0 2) (block_fault (block_of book 1) 1 2))
    (Some Length))

-- The records of a book, numbered on over its blocks: record n stands in block n / 15, as record n % 15 of it.

-- how many there are: byte 3 of each block
abbrev pub records : List ℕ → ℕ
records book = byte book 3 + cond (length book == 1024) (byte book 515) 0

abbrev pub offset : ℕ → ℕ
offset n = 512 * (n / 15) + (32 + 32 * (n % 15))

abbrev pub record_at : List ℕ → ℕ → List ℕ
record_at book n = part book (offset n) 32

-- The 32 bytes of a record: T, D and C in two bytes each, m, k, the speed, and the rest.

abbrev pub draft_of : List ℕ → Draft
draft_of bytes = record {
  period = word16 bytes 0;
  deadline = word16 bytes 2;
  work = word16 bytes 4;
  m = byte bytes 6;
  k = byte bytes 7;
  speed = byte bytes 8;
}

-- the first of the checks 7 to 11 that a record fails
abbrev pub record_error : List ℕ → Option RecordError
record_error bytes = option_or (first_error (draft_of bytes)) (refuse_if (not (all_zero (drop 9 bytes))) SpeedOrRest None)

abbrev pub record_fault : List ℕ → Option Place → Option RecordFault
record_fault bytes at = option_map (fault_at at) (record_error bytes)

-- the fault of record n, at its block and its number there
abbrev pub fault_of : List ℕ → ℕ → Option RecordFault
fault_of book n = record_fault (record_at book n) (Some (place.Record (n / 15) (n % 15)))

-- the first fault among the first n records
unfoldable pub first_fault : List ℕ → ℕ → Option RecordFault
first_fault book zero = None
first_fault book (suc n) = option_or (first_fault book n) (fault_of book n)

-- The whole book.

-- the first of the checks 1 to 11 that a book fails
abbrev pub read_fault : List ℕ → Option BookFault
read_fault book = option_or (open_fault book) (option_map in_book (first_fault book (records book)))

abbrev pub task_at : List ℕ → ℕ → Parameters
task_at book n = parameters_of (draft_of (record_at book n))

-- the tasks of the first n records
abbrev pub tasks_of : List ℕ → ℕ → List Parameters
tasks_of book n = map (task_at book) (range_with_len 0 n)

-- the tasks of a book, with that ratio
abbrev pub holding : List ℕ → ℕ → ℕ → TaskSet
holding book p q = record { tasks = tasks_of book (records book); p = p; q = q }

-- what a book holds, if it passes the checks
abbrev pub decoded : List ℕ → TaskSet
decoded book = holding book (byte book 4) (byte book 5)
