-- The chunks of a byte string: each is a part of it, and the words of a block are its chunks of 4 bytes.
-- Assumes nothing.
use Rattle.std.proofs.Common.{◌≡◌, ℕ, zero, suc, ◌+◌, ◌*◌, ◌/◌, ◌%◌, ◌<◌, List, length, get_or, take, drop, sym, ap, ◌∙◌, add-one, mul-suc, mul-zero, zero-add, arith}
use Rattle.std.proofs.lemmas.List.{drop-drop, get_or-drop, get_or-take}
use Rattle.std.specs.List.{fold}
use Rattle.std.specs.Simd.{first_chunks}
use Rattle.book.proofs.Sums.{total_more, total_none}
use Rattle.book.specs.Bytes.{byte, part, total, word32}

-- chunk i of w bytes
pub chunk_at : (w k i : ℕ) (xs d : List ℕ) → i < k → get_or (first_chunks w k xs) i d ≡ part xs (w * i) w
chunk_at w zero i xs d below = absurd (omega arith)
chunk_at w (suc k) zero xs d below = ap (λ n. part xs n w) (sym (mul-zero w))
chunk_at w (suc k) (suc i) xs d below =
    chunk_at w k i (drop w xs) d (omega arith) ∙ ap (take w) (drop-drop (w * i) w xs) ∙ ap (λ n. part xs n w) (omega (arith, mul-suc w i))

-- a byte after the first word
byte_after : (xs : List ℕ) (i j : ℕ) → j ≡ 4 + i → byte (drop 4 xs) i ≡ byte xs j
byte_after xs i j same = get_or-drop 4 xs i 0 ∙ ap (byte xs) (sym same)

-- the words after the first
word_after : (xs : List ℕ) (i j : ℕ) → j ≡ 4 + i → word32 (drop 4 xs) i ≡ word32 xs j
word_after xs i j same =
    omega (arith, byte_after xs i j same, byte_after xs (i + 1) (j + 1) (omega arith), byte_after xs (i + 2) (j + 2) (omega arith), byte_after xs (i + 3) (j + 3) (omega arith))

-- the first word, and the sum of the others
total_front : (xs : List ℕ) (n : ℕ) → total xs (n + 1) ≡ word32 xs 0 + total (drop 4 xs) n
total_front xs zero = omega (arith, total_more xs 0, total_none xs, total_none (drop 4 xs))
total_front xs (suc n) =
    let next : suc n + 1 ≡ (n + 1) + 1 = omega arith in
    omega (arith, ap (total xs) next, total_more xs (n + 1), total_front xs n, ap (total (drop 4 xs)) (add-one n), total_more (drop 4 xs) n, word_after xs (4 * n) (4 * (n + 1)) (omega arith))

-- the bytes of the first word
first_byte : (xs : List ℕ) (i : ℕ) → i < 4 → byte (take 4 xs) i ≡ byte xs i
first_byte xs i inside = get_or-take 4 xs i 0 inside

-- the first word, cut out
first_word : (xs : List ℕ) → word32 (take 4 xs) 0 ≡ word32 xs 0
first_word xs =
    omega (arith, first_byte xs 0 (omega arith), first_byte xs 1 (omega arith), first_byte xs 2 (omega arith), first_byte xs 3 (omega arith))

-- a sum that was wrapped already wraps to the same
wrapped : (b w : ℕ) → (b % 4294967296 + w) % 4294967296 ≡ (b + w) % 4294967296
wrapped b w = omega arith

-- adding up the words one by one, modulo 2^32
abbrev pub adding : ℕ → List ℕ → ℕ
adding sum word = (sum + word32 word 0) % 4294967296

-- from b on, the words add up to b and their sum
words_total : (k b : ℕ) (xs : List ℕ) → fold adding (b % 4294967296) (first_chunks 4 k xs) ≡ (b + total xs k) % 4294967296
words_total zero b xs = omega (arith, total_none xs)
words_total (suc k) b xs =
    let so_far : adding (b % 4294967296) (take 4 xs) ≡ (b + word32 xs 0) % 4294967296 =
    ap (λ w. (b % 4294967296 + w) % 4294967296) (first_word xs) ∙ wrapped b (word32 xs 0) in
    ap (λ a. fold adding a (first_chunks 4 k (drop 4 xs))) so_far ∙
    words_total k (b + word32 xs 0) (drop 4 xs) ∙
    omega (arith, ap (total xs) (add-one k), total_front xs k)

-- the words of a block that was cut into them
pub block_total : (block : List ℕ) (words : List (List ℕ)) → length block ≡ 512 → words ≡ first_chunks 4 (length block / 4) block
    → fold adding 0 words ≡ total block 128 % 4294967296
block_total block words long cut =
    let count : length block / 4 ≡ 128 = omega arith in
    ap (fold adding 0) (cut ∙ ap (λ k. first_chunks 4 k block) count) ∙ words_total 128 0 block ∙ ap (λ t. t % 4294967296) (zero-add (total block 128))
