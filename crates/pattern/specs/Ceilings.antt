-- A quotient rounded up. Assumes nothing.
use Rattle.std.specs.Prelude.{◌≡◌, ℕ, ◌+◌, ◌*◌, ◌<◌, ◌≤◌}
use Rattle.std.proofs.Common.{add-mul, lt_of_mul-lt-mul_right, arith}
use Rattle.std.proofs.Math.Nat.{add-mul-div_right, add-mul-mod_self_right}
use Rattle.std.proofs.lemmas.Grind.{div_ceil_times}
use Rattle.plan.specs.Rounding.{ceil}

-- ceil n d is the only q with n ≤ q × d < n + d.
pub ceil_is : (n d q : ℕ) → 0 < d → n ≤ q * d → q * d < n + d → ceil n d ≡ q
ceil_is n d q h above below =
    let own = div_ceil_times n d h in
    let le : ceil n d < q + 1 = lt_of_mul-lt-mul_right d (omega (arith, own, add-mul q 1 d)) in
    let ge : q < ceil n d + 1 = lt_of_mul-lt-mul_right d (omega (arith, own, add-mul (ceil n d) 1 d)) in
    omega arith

-- e × d more come to e more.
pub ceil_more : (n d e : ℕ) → 0 < d → ceil (n + e * d) d ≡ ceil n d + e
ceil_more n d e h = rw (add-mul-div_right n e h, add-mul-mod_self_right n e d) (omega arith)
