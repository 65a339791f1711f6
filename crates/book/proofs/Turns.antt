-- Byte strings of one width, one after the other: their parts, and what is zero in them. Assumes nothing.
use Rattle.std.proofs.Common.{◌≡◌, ℕ, zero, suc, ◌+◌, ◌-◌, ◌*◌, ◌<◌, ◌≤◌, true, eqb, List, [], ◌∷◌, ◌++◌, length, get_or, take, drop, replicate, sym, refl, ap, ◌∙◌, inl, inr, mul-le-mul_left, mul-zero, mul-suc, arith, length-drop, length-take}
use Rattle.std.proofs.Math.Seq.{take-add}
use Rattle.std.proofs.lemmas.List.{drop_all, drop-append-le, drop_at, drop-drop, drop-take, get_or-drop, get_or-take, take_all, take-append-le, take-take}
use Rattle.std.proofs.lemmas.Bool.{and_from, and_parts, cases_lt, eqb-true}
use Rattle.book.proofs.Writings.{turn_long, turn_none, turn_suc}
use Rattle.book.specs.Bytes.{all_zero, part}
use Rattle.book.specs.Writing.{in_turn}

-- a part of a part
pub part_of_part : (xs : List ℕ) (a n b m : ℕ) → b + m ≤ n → part (part xs a n) b m ≡ part xs (a + b) m
part_of_part xs a n b m inside =
    let rest : n ≡ b + (n - b) = omega arith in
    ap (λ k. take m (drop b (take k (drop a xs)))) rest ∙
    ap (take m) (drop-take b (n - b) (drop a xs)) ∙
    take-take m (n - b) (drop b (drop a xs)) (omega arith) ∙
    ap (take m) (drop-drop b a xs)

-- how long a part is
pub part_long : (xs : List ℕ) (a n : ℕ) → a + n ≤ length xs → length (part xs a n) ≡ n
part_long xs a n inside = simp (length-take, length-drop) (omega arith)

-- a byte of a part
pub byte_of_part : (xs : List ℕ) (a n i : ℕ) → i < n → get_or (part xs a n) i 0 ≡ get_or xs (a + i) 0
byte_of_part xs a n i inside = get_or-take n (drop a xs) i 0 inside ∙ get_or-drop a xs i 0

module _ (f : ℕ → List ℕ) (w : ℕ) (each : (r : ℕ) → length (f r) ≡ w) where
  -- the r-th of n
  pub turn_part : (n r : ℕ) → r < n → part (in_turn f n) (w * r) w ≡ f r
  turn_part zero r below = absurd (omega arith)
  turn_part (suc n) r below =
      ap (λ x. part x (w * r) w) (turn_suc f n) ∙
      elim (cases_lt r n) [
        | inl before ↦ (let room : w * suc r ≤ w * n = mul-le-mul_left w (omega arith) in
            let long = turn_long f w each n in
            ap (take w) (drop-append-le (w * r) (in_turn f n) (f n) (omega (arith, mul-suc w r))) ∙
            take-append-le w (drop (w * r) (in_turn f n)) (f n) (simp length-drop (omega (arith, mul-suc w r))) ∙
            turn_part n r before)
        | inr last ↦ (let same : r ≡ n = omega arith in
            let long : length (in_turn f n) ≡ w * r = turn_long f w each n ∙ ap (λ k. w * k) (sym same) in
            ap (take w) (drop_at (in_turn f n) (f n) (w * r) long) ∙ take_all w (f n) (omega (arith, each n)) ∙ ap f (sym same))
      ]

-- the same strings in turn
pub turn_same : (f g : ℕ → List ℕ) (n : ℕ) → ((r : ℕ) → r < n → f r ≡ g r) → in_turn f n ≡ in_turn g n
unfolding in_turn
turn_same f g zero same = refl
turn_same f g (suc n) same =
    ap (λ x. x ++ f n) (turn_same f g n (λ r below. same r (omega arith))) ∙ ap (λ x. in_turn g n ++ x) (same n (omega arith))

-- a byte string is its parts in turn
pub parts_in_turn : (xs : List ℕ) (w n : ℕ) → in_turn (λ r. part xs (w * r) w) n ≡ take (w * n) xs
unfolding in_turn
parts_in_turn xs w zero = ap (λ k. take k xs) (sym (mul-zero w))
parts_in_turn xs w (suc n) =
    ap (λ x. x ++ part xs (w * n) w) (parts_in_turn xs w n) ∙ sym (take-add (w * n) w xs) ∙ ap (λ k. take k xs) (omega (arith, mul-suc w n))

-- zeros after zeros
pub zero_append : (xs ys : List ℕ) → all_zero xs ≡ true → all_zero ys ≡ true → all_zero (xs ++ ys) ≡ true
zero_append [] ys p q = q
zero_append (x ∷ xs) ys p q =
    let parts = and_parts (eqb x 0) (all_zero xs) p in
    and_from (eqb x 0) (all_zero (xs ++ ys)) parts.0 (zero_append xs ys parts.1 q)

-- bytes that are all zero are so many zeros
pub zeros_are_zero : (xs : List ℕ) → all_zero xs ≡ true → xs ≡ replicate (length xs) 0
zeros_are_zero [] p = refl
zeros_are_zero (x ∷ xs) p =
    let parts = and_parts (eqb x 0) (all_zero xs) p in
    ap (λ y. y ∷ xs) (eqb-true x 0 parts.0) ∙ ap (λ ys. 0 ∷ ys) (zeros_are_zero xs parts.1)

-- a part of zeros
pub zero_part : (xs : List ℕ) (a n : ℕ) → all_zero xs ≡ true → all_zero (part xs a n) ≡ true
zero_part xs a n p = zero_take n (drop a xs) (zero_drop a xs p)
  where
    zero_take : (k : ℕ) (ys : List ℕ) → all_zero ys ≡ true → all_zero (take k ys) ≡ true
    zero_take zero ys q = refl
    zero_take (suc k) [] q = refl
    zero_take (suc k) (y ∷ ys) q =
        let parts = and_parts (eqb y 0) (all_zero ys) q in
        and_from (eqb y 0) (all_zero (take k ys)) parts.0 (zero_take k ys parts.1)

    zero_drop : (k : ℕ) (ys : List ℕ) → all_zero ys ≡ true → all_zero (drop k ys) ≡ true
    zero_drop zero ys q = q
    zero_drop (suc k) [] q = refl
    zero_drop (suc k) (y ∷ ys) q = zero_drop k ys (and_parts (eqb y 0) (all_zero ys) q).1

-- after the first u of n strings of width w there are zeros, if the others are zero
pub zero_after : (f : ℕ → List ℕ) (w : ℕ) (each : (r : ℕ) → length (f r) ≡ w) (u n : ℕ) → u ≤ n
    → ((r : ℕ) → u ≤ r → r < n → all_zero (f r) ≡ true) → all_zero (drop (w * u) (in_turn f n)) ≡ true
zero_after f w each u zero most rest =
    ap all_zero (drop_all (w * u) (in_turn f zero) (omega (arith, ap length (turn_none f))))
zero_after f w each u (suc n) most rest =
    elim (cases_lt u (suc n)) [
      | inl below ↦ (let room : w * u ≤ w * n = mul-le-mul_left w (omega arith) in
          let long = turn_long f w each n in
          ap (λ x. all_zero (drop (w * u) x)) (turn_suc f n) ∙
          ap all_zero (drop-append-le (w * u) (in_turn f n) (f n) (omega arith)) ∙
          zero_append (drop (w * u) (in_turn f n)) (f n) (zero_after f w each u n (omega arith) (λ r low high. rest r low (omega arith))) (rest n (omega arith) (omega arith)))
      | inr all ↦ (let room : w * suc n ≤ w * u = mul-le-mul_left w (omega arith) in
          let long = turn_long f w each (suc n) in
          ap all_zero (drop_all (w * u) (in_turn f (suc n)) (omega arith)))
    ]
