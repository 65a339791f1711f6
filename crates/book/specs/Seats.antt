-- Where a block sits in its book: its number there, and how many blocks the book has. Assumes nothing.
use Rattle.std.specs.Prelude.{ℕ}
use Rattle.book.specs.declared.block.Seat.{Seat}
use Rattle.book.specs.declared.block.Seat.TheVariants.{Lone, First, Second}

abbrev pub place : Seat → ℕ
place Lone = 0
place First = 0
place Second = 1

abbrev pub blocks : Seat → ℕ
blocks Lone = 1
blocks First = 2
blocks Second = 2
