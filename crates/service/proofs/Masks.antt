-- A mask of numbers, bit by bit.
use Rattle.std.proofs.Common.{◌≡◌, ℕ, zero, suc, ◌+◌, ◌*◌, ◌%◌, ◌^◌, ◌<◌, ◌≤◌, Bool, true, false, cond, ap, ◌∙◌, mod-eq_of_lt, add-one, arith, pow_mono}
use Rattle.service.specs.Answers.{mask}

at_most : (b : Bool) (n : ℕ) → cond b n 0 ≤ n
at_most true n = omega arith
at_most false n = omega arith

pub mask_below : (n : ℕ) (test : ℕ → Bool) → mask n test < 2 ^ n
mask_below zero test = omega arith
mask_below (suc n) test = omega (arith, mask_below n test, at_most (test n) (2 ^ n))

-- the bit of number i, as code shifts it
shifted_bit : (i : ℕ) → i < 30 → (1 * 2 ^ i) % 4294967296 ≡ 2 ^ i
shifted_bit i h = let small : 1 * 2 ^ i < 4294967296 = omega (arith, pow_mono {i = i} {j = 29} (omega arith)) in mod-eq_of_lt small ∙ omega arith

module _ (i : ℕ) (test : ℕ → Bool) (h : i < 30) where
  one_more : mask (i + 1) test ≡ mask i test + cond (test i) (2 ^ i) 0
  one_more = ap (λ n. mask n test) (add-one i)

  pub mask_with : (m : ℕ) → m ≡ mask i test → test i ≡ true → m + (1 * 2 ^ i) % 4294967296 ≡ mask (i + 1) test
  mask_with m e t = omega (arith, e, one_more, ap (λ b. cond b (2 ^ i) 0) t, shifted_bit i h)

  pub mask_without : (m : ℕ) → m ≡ mask i test → test i ≡ false → m ≡ mask (i + 1) test
  mask_without m e f = omega (arith, e, one_more, ap (λ b. cond b (2 ^ i) 0) f)

  -- and the mask has room for it
  pub mask_fits : (m : ℕ) → m ≡ mask i test → m + (1 * 2 ^ i) % 4294967296 < 4294967296
  mask_fits m e = omega (arith, e, mask_below i test, shifted_bit i h, pow_mono {i = i} {j = 29} (omega arith))
