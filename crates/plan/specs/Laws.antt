-- What holds of every comparison of plans. Assumes nothing.
use Rattle.plan.specs.TaskSet.{Same}

pub record Equivalence {A : Type 0} (R : A → A → Type 0) : Type 0 where
  pub reflexive : (a : A) → R a a
  pub symmetric : (a b : A) → R a b → R b a
  pub transitive : (a b c : A) → R a b → R b c → R a c

abbrev pub SameIsAnEquivalence : Type 0
SameIsAnEquivalence = Equivalence Same
