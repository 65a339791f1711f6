-- The work of a span by prefix sums.
use Rattle.std.proofs.Common.{◌≡◌, ℕ, ◌+◌, ◌<◌, ◌≤◌, ap, ⊎_elim, arith}
use Rattle.std.proofs.lemmas.Bool.{cases_lt}
use Rattle.pattern.specs.Sum.{Sum}
use Rattle.edf.specs.System.{System, due, Overloaded}
use Rattle.edf.proofs.Sums.{sum_from}

-- the work released before tick n with a deadline at or before e
abbrev pub upto : System → ℕ → ℕ → ℕ
upto S e n = Sum n (due S e)

pub excess_overloads : (S : System) (s e : ℕ) → s ≤ e → upto S e s + e < upto S e e + s → Overloaded S s e
excess_overloads S s e h over =
    let parts = sum_from s e (due S e) h in
    record {
      proper = ⊎_elim (λ l. l) (λ l. let same : s ≡ e = omega arith in absurd (omega (arith, ap (upto S e) same))) (cases_lt s e);
      excess = omega arith;
    }

pub overloaded_excess : (S : System) (s e : ℕ) → Overloaded S s e → upto S e s + e < upto S e e + s
overloaded_excess S s e over = omega (arith, over.proper, over.excess, sum_from s e (due S e) (omega (arith, over.proper)))
