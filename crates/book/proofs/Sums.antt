-- Sums of the words of a block and of its parts. Assumes nothing.
use Rattle.std.proofs.Common.{◌≡◌, ℕ, zero, suc, ◌+◌, ◌-◌, ◌*◌, ◌<◌, ◌≤◌, List, ◌++◌, length, sym, refl, ap, ◌∙◌, add-one, arith}
use Rattle.std.proofs.lemmas.List.{get_or_append_left, get_or-append_right}
use Rattle.book.specs.Bytes.{byte, total, word32}

-- the sum of one word more, by its definition
total_suc : (xs : List ℕ) (n : ℕ) → total xs (suc n) ≡ total xs n + word32 xs (4 * n)
unfolding total
total_suc xs n = refl

-- the sum of no words
pub total_none : (xs : List ℕ) → total xs 0 ≡ 0
unfolding total
total_none xs = refl

-- the sum of one word more
pub total_more : (xs : List ℕ) (n : ℕ) → total xs (n + 1) ≡ total xs n + word32 xs (4 * n)
total_more xs n = ap (total xs) (add-one n) ∙ total_suc xs n

module _ (xs ys : List ℕ) where
  -- a word of the first part
  word_left : (at : ℕ) → at + 3 < length xs → word32 (xs ++ ys) at ≡ word32 xs at
  word_left at inside =
      omega (arith, get_or_append_left xs ys 0 at (omega arith), get_or_append_left xs ys 0 (at + 1) (omega arith), get_or_append_left xs ys 0 (at + 2) (omega arith), get_or_append_left xs ys 0 (at + 3) (omega arith))

  -- a byte of the second part
  byte_right : (n i j : ℕ) → length xs ≡ n → i ≡ n + j → byte (xs ++ ys) i ≡ byte ys j
  byte_right n i j long at =
      let back : i - n ≡ j = omega arith in
      get_or-append_right xs ys n i 0 long (omega arith) ∙ ap (byte ys) back

  -- a word of the second part
  word_right : (n i j : ℕ) → length xs ≡ n → i ≡ n + j → word32 (xs ++ ys) i ≡ word32 ys j
  word_right n i j long at =
      omega (arith, byte_right n i j long at, byte_right n (i + 1) (j + 1) long (omega arith), byte_right n (i + 2) (j + 2) long (omega arith), byte_right n (i + 3) (j + 3) long (omega arith))

  -- the sum of the words of the first part
  pub total_left : (n : ℕ) → 4 * n ≤ length xs → total (xs ++ ys) n ≡ total xs n
  total_left zero inside = total_none (xs ++ ys) ∙ sym (total_none xs)
  total_left (suc n) inside =
      omega (arith, total_suc (xs ++ ys) n, total_suc xs n, total_left n (omega arith), word_left (4 * n) (omega arith))

  -- the words of one part and those of the next
  pub total_append : (a b : ℕ) → length xs ≡ 4 * a → total (xs ++ ys) (a + b) ≡ total xs a + total ys b
  total_append a zero long =
      let none : a + 0 ≡ a = omega arith in
      omega (arith, ap (total (xs ++ ys)) none, total_left a (omega arith), total_none ys)
  total_append a (suc b) long =
      let next : a + suc b ≡ (a + b) + 1 = omega arith in
      omega (arith, ap (total (xs ++ ys)) next, total_more (xs ++ ys) (a + b), total_append a b long, total_suc ys b, word_right (4 * a) (4 * (a + b)) (4 * b) long (omega arith))
