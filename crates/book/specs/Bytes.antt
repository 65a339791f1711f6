-- Bytes, words and parts of a byte string; words are unsigned with the low byte first. Assumes nothing.
use Rattle.std.specs.Prelude.{ℕ, zero, suc, ◌+◌, ◌*◌, ◌/◌, ◌%◌, Bool, true, ◌&&◌, List, [], ◌∷◌, take, drop, ◌==◌, slice_index}

abbrev pub byte : List ℕ → ℕ → ℕ
byte xs at = slice_index xs at

-- the word of 16 bits that begins at a byte
abbrev pub word16 : List ℕ → ℕ → ℕ
word16 xs at = byte xs at + byte xs (at + 1) * 256

-- the word of 32 bits that begins at a byte
abbrev pub word32 : List ℕ → ℕ → ℕ
word32 xs at = byte xs at + byte xs (at + 1) * 256 + byte xs (at + 2) * 65536 + byte xs (at + 3) * 16777216

-- the sum of the first n words of 32 bits
unfoldable pub total : List ℕ → ℕ → ℕ
total xs zero = 0
total xs (suc n) = total xs n + word32 xs (4 * n)

-- the n bytes from a place on
abbrev pub part : List ℕ → ℕ → ℕ → List ℕ
part xs at n = take n (drop at xs)

abbrev pub all_zero : List ℕ → Bool
all_zero [] = true
all_zero (x ∷ xs) = x == 0 && all_zero xs

-- the two bytes of a word of 16 bits
abbrev pub bytes16 : ℕ → List ℕ
bytes16 n = (n % 256) ∷ (n / 256 % 256) ∷ []

-- the four bytes of a word of 32 bits
abbrev pub bytes32 : ℕ → List ℕ
bytes32 n = (n % 256) ∷ (n / 256 % 256) ∷ (n / 65536 % 256) ∷ (n / 16777216 % 256) ∷ []
