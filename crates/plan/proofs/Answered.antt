-- What an answer tells of the fault behind it, and what a fault makes of the answer. Assumes nothing.
use Rattle.std.proofs.Common.{◌≡◌, ℕ, Some, None, Ok, Err, Option, sym, refl, ap, arith}
use Rattle.plan.specs.Refusals.{answer, left}

module _ {A F : Type 0} where
  pub fault_of_err : (o : Option F) (a : A) (f : F) → Err f ≡ answer o a → o ≡ Some f
  fault_of_err None a f e = let z : ◌≡◌ {A = ℕ} 0 1 = cc in absurd (omega arith)
  fault_of_err (Some g) a f e = cc

  pub fault_of_ok : (o : Option F) (a x : A) → Ok x ≡ answer o a → o ≡ None
  fault_of_ok None a x e = refl
  fault_of_ok (Some g) a x e = let z : ◌≡◌ {A = ℕ} 0 1 = cc in absurd (omega arith)

  pub value_of_ok : (o : Option F) (a x : A) → Ok x ≡ answer o a → x ≡ a
  value_of_ok None a x e = cc
  value_of_ok (Some g) a x e = let z : ◌≡◌ {A = ℕ} 0 1 = cc in absurd (omega arith)

  pub answer_refused : {o : Option F} {f : F} (a : A) → o ≡ Some f → Err f ≡ answer o a
  answer_refused a e = sym (ap (λ p. answer p a) e)

  pub answer_accepted : {o : Option F} (a : A) → o ≡ None → Ok a ≡ answer o a
  answer_accepted a e = sym (ap (λ p. answer p a) e)

  pub left_refused : {o : Option F} {f : F} (new old : A) → o ≡ Some f → old ≡ left o new old
  left_refused new old e = sym (ap (λ p. left p new old) e)

  pub left_accepted : {o : Option F} (new old : A) → o ≡ None → new ≡ left o new old
  left_accepted new old e = sym (ap (λ p. left p new old) e)
