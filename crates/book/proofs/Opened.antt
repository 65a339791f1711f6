-- What the checks of a book's blocks come to at each length. Assumes nothing.
use Rattle.std.proofs.Common.{◌≡◌, ℕ, ◌/◌, ◌%◌, ◌<◌, cond, eqb, List, [], length, get_or, Some, None, Option, sym, ap, ◌∙◌, arith}
use Rattle.std.proofs.lemmas.List.{take_all}
use Rattle.std.proofs.lemmas.Bool.{eq-eqb, ne_eqb}
use Rattle.std.specs.Option.{option_or}
use Rattle.std.specs.Simd.{first_chunks}
use Rattle.book.proofs.Chunks.{chunk_at}
use Rattle.book.specs.Reading.{block_fault, block_of, open_fault}
use Rattle.book.specs.declared.fault.BookFault.{BookFault}
use Rattle.book.specs.declared.fault.BookFault.TheVariants.{Length}

module _ (book : List ℕ) where
  -- the checks of a lone block
  lone : Option BookFault
  lone = block_fault (block_of book 0) 0 1

  -- the checks of two blocks
  both : Option BookFault
  both = option_or (block_fault (block_of book 0) 0 2) (block_fault (block_of book 1) 1 2)

  -- a lone block is the whole book
  pub lone_block : length book ≡ 512 → block_of book 0 ≡ book
  lone_block long = take_all 512 book (omega arith)

  -- the checks of a book of 512 bytes
  pub open_at_512 : length book ≡ 512 → open_fault book ≡ block_fault book 0 1
  unfolding lone both
  open_at_512 long =
      ap (λ b. cond b lone (cond (eqb (length book) 1024) both (Some Length))) (eq-eqb (length book) 512 long) ∙
      ap (λ block. block_fault block 0 1) (lone_block long)

  -- the checks of a book of 1,024 bytes
  pub open_at_1024 : length book ≡ 1024 → open_fault book ≡ option_or (block_fault (block_of book 0) 0 2) (block_fault (block_of book 1) 1 2)
  unfolding lone both
  open_at_1024 long =
      ap (λ b. cond b lone (cond (eqb (length book) 1024) both (Some Length))) (ne_eqb (length book) 512 (λ e. omega arith)) ∙
      ap (λ b. cond b both (Some Length)) (eq-eqb (length book) 1024 long)

  -- two blocks that were cut out, with nothing left over
  module _ (blocks : List (List ℕ)) (over : ℕ) (cut : blocks ≡ first_chunks 512 (length book / 512) book) (count : length blocks ≡ length book / 512)
      (left : over ≡ length book % 512) (two : length blocks ≡ 2) (none : over ≡ 0) where
    -- each is a block of the book
    chunk : (i : ℕ) → i < 2 → block_of book i ≡ get_or blocks i []
    chunk i below = sym (ap (λ bs. get_or bs i []) cut ∙ chunk_at 512 (length book / 512) i book [] (omega arith))

    -- the checks of the two
    pub open_two : open_fault book ≡ option_or (block_fault (get_or blocks 0 []) 0 2) (block_fault (get_or blocks 1 []) 1 2)
    open_two =
        open_at_1024 (omega arith) ∙
        ap (λ b. option_or (block_fault b 0 2) (block_fault (block_of book 1) 1 2)) (chunk 0 (omega arith)) ∙
        ap (λ b. option_or (block_fault (get_or blocks 0 []) 0 2) (block_fault b 1 2)) (chunk 1 (omega arith))

    -- the first one's fault is the book's
    pub first_refused : {f : BookFault} → block_fault (get_or blocks 0 []) 0 2 ≡ Some f → open_fault book ≡ Some f
    first_refused e = open_two ∙ ap (λ o. option_or o (block_fault (get_or blocks 1 []) 1 2)) e

    -- if the first one passes, the second decides
    pub second_decides : block_fault (get_or blocks 0 []) 0 2 ≡ None → open_fault book ≡ block_fault (get_or blocks 1 []) 1 2
    second_decides e = open_two ∙ ap (λ o. option_or o (block_fault (get_or blocks 1 []) 1 2)) e
