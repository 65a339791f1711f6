-- What it says that a chain of checks found no fault. Assumes nothing.
use Rattle.std.proofs.Common.{◌≡◌, Bool, true, false, Some, None, Err, Option, Result, refl, ap, ◌∙◌}
use Rattle.std.proofs.lemmas.Result.{err_from_is_err_and}
use Rattle.std.specs.Option.{option_or}
use Rattle.std.specs.Result.{IsErrAnd}
use Rattle.plan.specs.Checks.{refuse_if}

module _ {E : Type 0} where
  -- a check that passes leaves it to the rest
  pub goes_on : {b : Bool} {rest : Option E} (e : E) → b ≡ false → rest ≡ None → refuse_if b e rest ≡ None
  goes_on {b} {rest} e p q = ap (λ x. refuse_if x e rest) p ∙ q

  -- if nothing was refused, the check passed and so did the rest
  pub went_on : (b : Bool) (e : E) (rest : Option E) → refuse_if b e rest ≡ None → (b ≡ false) × (rest ≡ None)
  went_on true e rest p = cc
  went_on false e rest p = (refl, p)

  -- if neither refused, both passed
  pub both_pass : (o p : Option E) → option_or o p ≡ None → (o ≡ None) × (p ≡ None)
  both_pass None p e = (refl, e)
  both_pass (Some x) p e = cc

-- what `?` hands on
pub handed_on : {A E : Type 0} {f : E} (r : Result A E) → IsErrAnd r (λ e. e ≡ f) → r ≡ Err f
handed_on r e = let exit = err_from_is_err_and r e in exit.1 ∙ ap Err exit.2
