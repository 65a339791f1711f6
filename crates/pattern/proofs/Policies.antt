-- What holds under every lawful policy. Assumes nothing.
use Rattle.std.proofs.Common.{◌≡◌, ℕ, ◌+◌, ◌%◌, ◌^◌, ◌<◌, ◌≤◌, true, false, sym, ap, ◌∙◌, ⊎_elim, mod-lt, arith}
use Rattle.std.proofs.Math.Nat.{mod-add-mod, add-mod_right}
use Rattle.std.proofs.lemmas.Bool.{cases_Bool}
use Rattle.pattern.specs.Policy.{Meaning, Lawful, in_range, marks, mandatory, MandatoryAreMarked, RepeatsForEver, EnoughAnywhere, NoneOutside}
use Rattle.pattern.specs.Sums.{marks_same}
use Rattle.pattern.specs.Ranges.{in_range_parts, as_in_the_first}

module _ (p : Meaning) (lawful : Lawful p) (task m k : ℕ) where
  -- the place of a job in the pattern is far below 2^32
  place_below : (j : ℕ) → j % p.length task m k < 64
  place_below j = omega (arith, mod-lt j (lawful.some task m k), lawful.short task m k)

  marked_in_range : (j : ℕ) → in_range task m k ≡ true → j < 2 ^ 32 → mandatory p task m k j ≡ p.mark task m k j
  marked_in_range j h below = as_in_the_first (p.mark task m k) (p.length task m k) (2 ^ 32) (λ i. lawful.repeats task m k i h) j below

  none_mandatory : (j : ℕ) → in_range task m k ≡ false → mandatory p task m k j ≡ false
  none_mandatory j h = lawful.none task m k (j % p.length task m k) h (omega (arith, place_below j))

  -- a window anywhere has the marks of one in the first pattern
  window_enough : (a : ℕ) → in_range task m k ≡ true → m ≤ marks (mandatory p task m k) a k
  window_enough a h =
      let b = a % p.length task m k in
      let near : (i : ℕ) → i < k → b + i < 2 ^ 32 = λ i l. omega (arith, place_below a, in_range_parts task m k h) in
      let moved : (i : ℕ) → i < k → mandatory p task m k (a + i) ≡ p.mark task m k (b + i) =
      λ i l. ap (p.mark task m k) (sym (mod-add-mod a (p.length task m k) i)) ∙ marked_in_range (b + i) h (near i l) in
      omega (arith, marks_same (mandatory p task m k) (p.mark task m k) a b k moved, lawful.enough task m k b h (omega (arith, place_below a, in_range_parts task m k h)))

pub mandatory_are_marked : MandatoryAreMarked
mandatory_are_marked p lawful task m k j below =
    ⊎_elim
    (λ h. marked_in_range p lawful task m k j h below)
    (λ h. none_mandatory p lawful task m k j h ∙ sym (lawful.none task m k j h below))
    (cases_Bool (in_range task m k))

pub repeats_for_ever : RepeatsForEver
repeats_for_ever p lawful task m k j = ap (p.mark task m k) (add-mod_right j (p.length task m k))

pub enough_anywhere : EnoughAnywhere
enough_anywhere = window_enough

pub none_outside : NoneOutside
none_outside = none_mandatory
