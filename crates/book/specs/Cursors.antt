-- A cursor over a book: what each step hands out, and where it stands after. Assumes nothing.
use Rattle.std.specs.Prelude.{◌≡◌, ℕ, zero, suc, ◌+◌, ◌*◌, ◌/◌, ◌%◌, Bool, cond, ◌&&◌, List, length, Some, None, Option, nat_le, nat_lt}
use Rattle.std.specs.Option.{option_map}
use Rattle.plan.specs.declared.fault.Place.{Place}
use Rattle.plan.specs.declared.fault.Place.TheVariants as place
use Rattle.book.specs.Bytes.{byte}
use Rattle.book.specs.Reading.{records, record_at}
use Rattle.book.specs.declared.cursor.Cursor.{Cursor}
use Rattle.book.specs.declared.cursor.Record.{Record}

-- the book, and the number of the record that comes next
pub record Walk : Type 0 where
  pub book : List ℕ
  pub next : ℕ

-- the bytes of a record, its block, and its number in that block
pub record Seen : Type 0 where
  pub bytes : List ℕ
  pub block : ℕ
  pub number : ℕ

abbrev pub walk : Cursor → Walk
walk cursor = record { book = cursor.book.now; next = cursor.place }

abbrev pub seen : Record → Seen
seen r = record { bytes = r.bytes.now; block = r.block; number = r.number }

-- where a record's fault is
abbrev pub place_of : Record → Option Place
place_of r = Some (place.Record r.block r.number)

abbrev pub begun : List ℕ → Walk
begun book = record { book = book; next = 0 }

-- record n, by its number over all blocks
abbrev pub record_seen : List ℕ → ℕ → Seen
record_seen book n = record { bytes = record_at book n; block = n / 15; number = n % 15 }

-- whether a book, checked or not, has a block for record n and counts it there
abbrev pub has : List ℕ → ℕ → Bool
has book n = nat_lt n 30 && (nat_le (512 * (n / 15) + 512) (length book) && nat_lt (n % 15) (byte book (512 * (n / 15) + 3)))

abbrev pub handed_out : Walk → Option Seen
handed_out w = cond (has w.book w.next) (Some (record_seen w.book w.next)) None

abbrev pub stepped : Walk → Walk
stepped w = record { book = w.book; next = cond (has w.book w.next) (w.next + 1) w.next }

-- a step of a cursor: what it hands out, and where the cursor stands after
pub record Steps (before : Cursor) (item : Option Record) (now : Cursor) : Type 0 where
  pub handed : option_map seen item ≡ handed_out (walk before)
  pub after : walk now ≡ stepped (walk before)

-- after n steps
unfoldable pub steps : ℕ → Walk → Walk
steps zero w = w
steps (suc n) w = stepped (steps n w)

-- the n-th step hands out record n, and after the last one nothing, for ever
abbrev pub InOrder : List ℕ → Type 0
InOrder book = (n : ℕ) → handed_out (steps n (begun book)) ≡ cond (nat_lt n (records book)) (Some (record_seen book n)) None
