-- The word at byte 28 that makes the words of a block add up to zero. Assumes nothing.
use Rattle.std.proofs.Common.{◌≡◌, ℕ, ◌+◌, ◌%◌, ◌<◌, List, ◌++◌, length, take, drop, replicate, sym, refl, ap, ◌∙◌, zero-add, arith}
use borrow.Rule.Slice.PartMut.{put_mid}
use Rattle.std.proofs.lemmas.List.{append-nil, drop_all, drop_at, drop-drop, length-take-le, take-append-drop, take_at}
use Rattle.std.proofs.lemmas.Nat.{from_le_bytes-to_le_bytes_4}
use Rattle.plan.specs.TaskSet.{TaskSet}
use Rattle.book.proofs.Sums.{total_append, total_left, total_more, total_none}
use Rattle.book.proofs.Writings.{over_after, put_is_over}
use Rattle.book.specs.Bytes.{bytes32, total, word32}
use Rattle.book.specs.Writing.{block_bytes, check_of, head_of, mended, over, records_of}

-- a word that is written is the sum of its bytes
word_back : (c : ℕ) → c < 4294967296 → total (bytes32 c) 1 ≡ c
word_back c fits = total_more (bytes32 c) 0 ∙ ap (λ t. t + word32 (bytes32 c) 0) (total_none (bytes32 c)) ∙ zero-add (word32 (bytes32 c) 0) ∙ from_le_bytes-to_le_bytes_4 c fits

-- the words of 28 bytes, of the word after them, and of the rest of a block
pub words_of : (head word tail : List ℕ) → length head ≡ 28 → length word ≡ 4 → total (head ++ (word ++ tail)) 128 ≡ total head 7 + (total word 1 + total tail 120)
words_of head word tail long four =
    total_append head (word ++ tail) 7 121 long ∙ ap (λ t. total head 7 + t) (total_append word tail 1 120 four)

-- with the word that is asked for, the sum comes out as 0
pub mended_fits : (head tail : List ℕ) → length head ≡ 28 → total (head ++ (bytes32 (check_of (total head 7 + total tail 120)) ++ tail)) 128 % 4294967296 ≡ 0
mended_fits head tail long =
    omega (arith, words_of head (bytes32 (check_of (total head 7 + total tail 120))) tail long refl, word_back (check_of (total head 7 + total tail 120)) (omega arith))

module _ (block : List ℕ) (long : length block ≡ 512) where
  -- there are 28 bytes before the check
  front_long : length (take 28 block) ≡ 28
  front_long = length-take-le 28 block (omega arith)

  -- the words before the check are those of the first 28 bytes
  front_words : total (take 28 block) 7 ≡ total block 7
  front_words = sym (total_left (take 28 block) (drop 28 block) 7 (omega (arith, front_long))) ∙ ap (λ b. total b 7) (take-append-drop 28 block)

  -- so the words of a mended block add up to 0
  pub mended_sum : total (mended block) 128 % 4294967296 ≡ 0
  mended_sum =
      ap (λ n. total (take 28 block ++ (bytes32 (check_of (n + total (drop 32 block) 120)) ++ drop 32 block)) 128 % 4294967296) (sym front_words) ∙
      mended_fits (take 28 block) (drop 32 block) front_long

  -- a word that is written in the place of the check
  checked : (w : List ℕ) → put_mid 28 4 block w ≡ take 28 block ++ (w ++ drop 32 block)
  checked w = ap (λ d. take 28 block ++ (w ++ d)) (drop-drop 4 28 block)

  -- zeros there first, and then the word that their sum asks for
  pub mended_is : (zeros word : List ℕ) (sum check : ℕ) → zeros ≡ replicate 4 0 → sum ≡ total (put_mid 28 4 block zeros) 128 % 4294967296
      → check ≡ check_of sum → word ≡ bytes32 check → put_mid 28 4 (put_mid 28 4 block zeros) word ≡ mended block
  mended_is zeros word sum check none summed asked bytes =
      let cleared : put_mid 28 4 block zeros ≡ take 28 block ++ (replicate 4 0 ++ drop 32 block) =
      checked zeros ∙ ap (λ z. take 28 block ++ (z ++ drop 32 block)) none in
      let empty : total (replicate 4 0) 1 ≡ 0 = total_more (replicate 4 0) 0 ∙ ap (λ t. t + 0) (total_none (replicate 4 0)) in
      let others : check ≡ check_of (total block 7 + total (drop 32 block) 120) =
      omega (arith, ap (λ b. total b 128) cleared, words_of (take 28 block) (replicate 4 0) (drop 32 block) front_long refl, empty, front_words) in
      ap (λ b. put_mid 28 4 b word) cleared ∙
      put_is_over 28 4 (take 28 block ++ (replicate 4 0 ++ drop 32 block)) word word refl (ap length (sym bytes)) ∙
      ap (over (take 28 block ++ (replicate 4 0 ++ drop 32 block)) 28) bytes ∙
      over_after (take 28 block) (replicate 4 0 ++ drop 32 block) (bytes32 check) 28 front_long ∙
      ap (λ n. take 28 block ++ (bytes32 n ++ drop 32 block)) others

-- what is written over the rest of a block
pub front_and_rest : (h z r : List ℕ) (n : ℕ) → length h ≡ 32 → length z ≡ n → put_mid 32 n (h ++ z) r ≡ h ++ r
front_and_rest h z r n front back =
    ap (λ t. t ++ (r ++ drop n (drop 32 (h ++ z)))) (take_at h z 32 front) ∙
    ap (λ d. h ++ (r ++ d)) (ap (drop n) (drop_at h z 32 front) ∙ drop_all n z (omega (arith, back))) ∙
    ap (λ t. h ++ t) (append-nil r)

-- a block is its head and its records, mended
pub block_is : (set : TaskSet) (i n : ℕ) (block : List ℕ) → block ≡ (head_of set i n ++ replicate 4 0) ++ records_of set i → mended block ≡ block_bytes set i n
unfolding block_bytes
block_is set i n block same =
    let words : total ((head_of set i n ++ replicate 4 0) ++ records_of set i) 7 ≡ total (head_of set i n) 7 =
    total_left (head_of set i n) (replicate 4 0 ++ records_of set i) 7 (omega arith) in
    ap mended same ∙
    ap (λ k. head_of set i n ++ (bytes32 (check_of (k + total (records_of set i) 120)) ++ records_of set i)) words
