-- What an accepted book holds keeps the bounds of a plan. Assumes nothing.
use Rattle.std.specs.Prelude.{◌≡◌, ℕ, ◌<◌, List, None}
use Rattle.plan.specs.Bounded.{Bounded}
use Rattle.book.specs.Bytes.{byte}
use Rattle.book.specs.Reading.{decoded, read_fault}

-- a byte is below 256
abbrev pub DecodedIsBounded : Type 0
DecodedIsBounded = (book : List ℕ) → ((i : ℕ) → byte book i < 256) → read_fault book ≡ None → Bounded (decoded book)
