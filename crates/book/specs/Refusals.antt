-- What each refusal of the book layer says: its number, layer, place and carried values, and its reason in words.
-- Assumes nothing.
use Rattle.std.specs.Prelude.{ℕ, List, Some, None, codes}
use Rattle.plan.specs.Refusals.{plain, record_account}
use Rattle.plan.specs.Words.{record_reason}
use Rattle.plan.specs.declared.fault.Account.{Account}
use Rattle.plan.specs.declared.fault.Layer.TheVariants as layer
use Rattle.plan.specs.declared.fault.Place.TheVariants as place
use Rattle.plan.specs.declared.fault.RecordFault.{RecordFault}
use Rattle.book.specs.declared.fault.BookFault.{BookFault}
use Rattle.book.specs.declared.fault.BookFault.TheVariants.{Length, Sum, Head, Count, Ratio, Reserved, Record, Buffer}

abbrev pub book_account : BookFault → Account
book_account Length = plain 1 layer.Book None
book_account (Sum block) = plain 2 layer.Book (Some (place.Block block))
book_account (Head block) = plain 3 layer.Book (Some (place.Block block))
book_account (Count block) = plain 4 layer.Book (Some (place.Block block))
book_account (Ratio block) = plain 5 layer.Book (Some (place.Block block))
book_account (Reserved block) = plain 6 layer.Book (Some (place.Block block))
book_account (Record fault) = record_account fault
book_account Buffer = plain 18 layer.Book None

-- a record's fault, carried whole
abbrev pub in_book : RecordFault → BookFault
in_book fault = Record fault

-- the reason of a refusal, in words
abbrev pub book_reason : BookFault → List ℕ
book_reason Length = codes "the book is neither 512 nor 1,024 bytes long"
book_reason (Sum block) = codes "the words of the block do not add up to zero"
book_reason (Head block) = codes "the block's kind, its place or the number of blocks is wrong"
book_reason (Count block) = codes "the block cannot have that number of records"
book_reason (Ratio block) = codes "the ratio of the speeds is out of range"
book_reason (Reserved block) = codes "a reserved byte or an unused record is not zero"
book_reason (Record fault) = record_reason fault.error
book_reason Buffer = codes "the buffer is too short for the book"
