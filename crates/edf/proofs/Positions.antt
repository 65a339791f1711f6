-- What repeats by H is told by the position in the cycle of H.
use Rattle.std.proofs.Common.{◌≡◌, ℕ, zero, suc, ◌+◌, ◌*◌, ◌/◌, ◌%◌, ◌<◌, ap, ◌∙◌, arith}

module _ {A : Type 0} (f : ℕ → A) (H : ℕ) (again : (n : ℕ) → f (n + H) ≡ f n) where
  cycles_later : (q r : ℕ) → f (r + q * H) ≡ f r
  cycles_later zero r = let e : r + 0 * H ≡ r = omega arith in ap f e
  cycles_later (suc q) r = let e : r + suc q * H ≡ r + q * H + H = omega arith in ap f e ∙ again (r + q * H) ∙ cycles_later q r

  pub at_position : 0 < H → (n : ℕ) → f n ≡ f (n % H)
  at_position some n = let e : n ≡ n % H + n / H * H = omega arith in ap f e ∙ cycles_later (n / H) (n % H)
