-- When a task number, m and k are in range, and how a policy that repeats by k is shown lawful. Assumes nothing.
use Rattle.std.specs.Prelude.{◌≡◌, ℕ, zero, suc, ◌+◌, ◌*◌, ◌/◌, ◌%◌, ◌<◌, ◌≤◌, Bool, true}
use Rattle.std.proofs.Common.{sym, ap, ◌∙◌, div-add-mod', arith}
use Rattle.std.proofs.lemmas.Bool.Decides.{nat_tests}
use Rattle.pattern.specs.Policy.{Lawful, in_range, marks, ranged, mandatory, InRangeDecides}

-- The four bounds give the range, and the range gives each of them.
pub in_range_from : (task m k : ℕ) → task ≤ 29 → 1 ≤ m → m ≤ k → k ≤ 32 → in_range task m k ≡ true
in_range_from task m k a b c d = grind (arith, nat_tests)

pub in_range_parts : (task m k : ℕ) → in_range task m k ≡ true → (task ≤ 29) × (1 ≤ m) × (m ≤ k) × (k ≤ 32)
in_range_parts task m k h = grind (arith, nat_tests)

pub in_range_decides : InRangeDecides
in_range_decides task m k = (in_range_parts task m k, λ h. in_range_from task m k h.0 h.1 h.2 h.3)

-- A test of jobs that repeats by L below a limit.
module _ (f : ℕ → Bool) (L limit : ℕ) (repeats : (j : ℕ) → j + L < limit → f (j + L) ≡ f j) where
  -- any number n of Ls further on its answer is the same
  further_on : (n j : ℕ) → j + n * L < limit → f (j + n * L) ≡ f j
  further_on zero j below = ap f (omega arith)
  further_on (suc n) j below =
      let step : j + suc n * L ≡ j + n * L + L = omega arith in
      ap f step ∙ repeats (j + n * L) (omega arith) ∙ further_on n j (omega arith)

  -- its answer at job j is that at the place of j in the first L
  pub as_in_the_first : (j : ℕ) → j < limit → f (j % L) ≡ f j
  as_in_the_first j below =
      let whole : j % L + j / L * L ≡ j = omega (arith, div-add-mod' j L) in
      sym (further_on (j / L) (j % L) (omega arith)) ∙ ap f whole

-- In range these marks repeat by k.
module _ (marked : (task m k job : ℕ) → Bool)
    (repeats : (task m k j : ℕ) → 1 ≤ m → m ≤ k → marked task m k (j + k) ≡ marked task m k j) where
  -- the mandatory jobs are the marked ones, also from 2^32 on
  pub ranged_for_ever : (task m k j : ℕ) → in_range task m k ≡ true → mandatory (ranged marked) task m k j ≡ marked task m k j
  ranged_for_ever task m k j h =
      let parts = in_range_parts task m k h in
      rw h (as_in_the_first (marked task m k) k (j + 1) (λ i _. repeats task m k i parts.1 parts.2) j (omega arith))

  -- it is enough that any k jobs in a row hold at least m marks
  pub ranged_lawful : ((task m k a : ℕ) → 1 ≤ m → m ≤ k → m ≤ marks (marked task m k) a k) → Lawful (ranged marked)
  ranged_lawful enough = record {
    some = λ task m k. grind (arith, nat_tests);
    short = λ task m k. grind (arith, nat_tests);
    repeats = λ task m k j h _. let parts = in_range_parts task m k h in rw h (repeats task m k j parts.1 parts.2);
    enough = λ task m k a h _. let parts = in_range_parts task m k h in rw h (enough task m k a parts.1 parts.2);
    one = λ task m k h. rw h;
    none = λ task m k j h _. rw h;
  }
