-- The least common multiple by Euclid's rule, of two numbers and of a row of them.
use Rattle.std.proofs.Common.{◌≡◌, ℕ, zero, suc, ◌+◌, ◌*◌, ◌/◌, ◌%◌, ◌<◌, ◌≤◌, ◌↔◌, ap, ⊎_elim, not-suc-le-zero, mod-lt, mul-pos, arith}
use Prim.Native.Nat.{◌∣◌}
use native.Mathlib.Nat.{mod-add-div', dvd_refl, dvd-zero, one-dvd, dvd_trans, dvd-add_iff_left, dvd-mul_left, dvd-mul_right, dvd-mul_left_of_dvd, dvd-mod_iff, dvd_of_mod-eq-zero, mul-dvd-mul_right, dvd_of_mul-dvd-mul_right, div-mul_cancel, le_of_dvd, pos_of_dvd_of_pos}
use Rattle.std.proofs.lemmas.Bool.{cases_lt}
use Rattle.edf.specs.Cycle.{Least, Cycle, Common, gcd_in, lcm, cycle, CycleFound}
use Rattle.edf.proofs.Below.{below_suc}

-- what divides m·a and m·b divides m·gcd
gcd_takes : (k a b m x : ℕ) → b ≤ k → x ∣ m * a → x ∣ m * b → x ∣ m * gcd_in k a b
unfolding gcd_in
gcd_takes zero a b m x h p q = p
gcd_takes (suc k) a zero m x h p q = p
gcd_takes (suc k) a (suc b) m x h p q =
    let e : m * a ≡ m * (a % suc b) + a / suc b * (m * suc b) = omega (arith, ap (λ z. m * z) (mod-add-div' a (suc b))) in
    gcd_takes k (suc b) (a % suc b) m x (omega (arith, mod-lt a {m = suc b} (omega arith))) q
    ((dvd-add_iff_left x {m = m * (a % suc b)} (dvd-mul_left_of_dvd x q (a / suc b))).1 (rw e at p))

gcd_divides : (k a b : ℕ) → b ≤ k → (gcd_in k a b ∣ a) × (gcd_in k a b ∣ b)
unfolding gcd_in
gcd_divides zero a b h = let none : b ≡ 0 = omega arith in (dvd_refl a, rw none (dvd-zero a))
gcd_divides (suc k) a zero h = (dvd_refl a, dvd-zero a)
gcd_divides (suc k) a (suc b) h =
    let d = gcd_divides k (suc b) (a % suc b) (omega (arith, mod-lt a {m = suc b} (omega arith))) in
    ((dvd-mod_iff (gcd_in k (suc b) (a % suc b)) {m = a} {n = suc b} d.0).0 d.1, d.0)

module _ (a b : ℕ) (pa : 0 < a) (pb : 0 < b) where
  g : ℕ
  g = gcd_in b a b

  shares : (a / g * g ≡ a) × (b / g * g ≡ b) × (0 < g)
  unfolding g
  shares = let d = gcd_divides b a b (omega arith) in (div-mul_cancel g {m = a} d.0, div-mul_cancel g {m = b} d.1, pos_of_dvd_of_pos d.0 pa)

  lcm_common : (a ∣ lcm a b) × (b ∣ lcm a b)
  unfolding g
  lcm_common =
      let s = shares in
      let e : lcm a b ≡ b / g * a = omega (arith, ap (λ z. a / g * z) s.1, ap (λ z. b / g * z) s.0) in
      (rw e (dvd-mul_left a (b / g)), dvd-mul_left b (a / g))

  lcm_divides : (m : ℕ) → a ∣ m → b ∣ m → lcm a b ∣ m
  unfolding g
  lcm_divides m p q =
      let s = shares in
      let e : b * a ≡ a * b = omega arith in
      let f : a * b ≡ lcm a b * g = omega (arith, ap (λ z. z * b) s.0) in
      let whole : a * b ∣ m * g = gcd_takes b a b m (a * b) (omega arith) (rw e at (mul-dvd-mul_right b q a)) (mul-dvd-mul_right a p b) in
      dvd_of_mul-dvd-mul_right {k = g} (lcm a b) {n = m} s.2 (rw f at whole)

  lcm_positive : 0 < lcm a b
  lcm_positive =
      pos_of_dvd_of_pos (lcm_divides (a * b) (dvd-mul_right a b) (dvd-mul_left b a)) (mul-pos pa pb)

-- the computed cycle is a common multiple, and divides every other
record Universal (n : ℕ) (f : ℕ → ℕ) : Type 0 where
  positive : 0 < cycle n f
  common : (i : ℕ) → i < n → f i ∣ cycle n f
  divides : (m : ℕ) → ((i : ℕ) → i < n → f i ∣ m) → cycle n f ∣ m

cycle_universal : (n : ℕ) (f : ℕ → ℕ) → ((i : ℕ) → i < n → 0 < f i) → Universal n f
unfolding cycle
cycle_universal zero f p = record { positive = omega arith; common = λ i h. absurd (not-suc-le-zero h); divides = λ m _. one-dvd m }
cycle_universal (suc n) f p =
    let u = cycle_universal n f (λ i h. p i (omega arith)) in
    let here : 0 < f n = p n (omega arith) in
    let both = lcm_common (cycle n f) (f n) u.positive here in
    record {
      positive = lcm_positive (cycle n f) (f n) u.positive here;
      common = below_suc (λ i. f i ∣ cycle (suc n) f) n (λ i h. dvd_trans (f i) (u.common i h) both.0) both.1;
      divides = λ m all. lcm_divides (cycle n f) (f n) u.positive here m (u.divides m (λ i h. all i (omega arith))) (all n (omega arith));
    }

only_least : (P : ℕ → Type 0) (g h : ℕ) → Least P g → Least P h → g ≡ h
only_least P g h a b = omega (arith, a.least h b.positive b.holds, b.least g a.positive a.holds)

cycle_least : (n : ℕ) (f : ℕ → ℕ) → ((i : ℕ) → i < n → 0 < f i) → Cycle n f (cycle n f)
cycle_least n f p =
    let u = cycle_universal n f p in
    record { positive = u.positive; holds = u.common; least = λ g pos all. le_of_dvd pos (u.divides g all) }

-- the remainder of a common multiple by the cycle is one too, and below it
cycle_divides : (n : ℕ) (f : ℕ → ℕ) (h : ℕ) → Cycle n f h → (m : ℕ) → ((i : ℕ) → i < n → f i ∣ m) → h ∣ m
cycle_divides n f h c m all =
    ⊎_elim
    (λ some. absurd (omega (
      arith,
      mod-lt m c.positive,
      c.least (m % h) some (λ i l. (dvd-mod_iff (f i) {m = m} {n = h} (c.holds i l)).1 (all i l)),
    )))
    (λ none. dvd_of_mod-eq-zero h {n = m} (omega arith))
    (cases_lt 0 (m % h))

cycle_grows : (n : ℕ) (f : ℕ → ℕ) (g : ℕ) → Cycle n f g → (h : ℕ) → Cycle (suc n) f h ↔ Common g (f n) h
cycle_grows n f g c h = (
  λ d. record { positive = d.positive; holds = part h d.holds; least = λ x pos both. d.least x pos (joined x both) },
  λ d. record { positive = d.positive; holds = joined h d.holds; least = λ x pos all. d.least x pos (part x all) },
)
  where
    part : (m : ℕ) → ((i : ℕ) → i < suc n → f i ∣ m) → (g ∣ m) × (f n ∣ m)
    part m all = (cycle_divides n f g c m (λ i l. all i (omega arith)), all n (omega arith))

    joined : (m : ℕ) → (g ∣ m) × (f n ∣ m) → (i : ℕ) → i < suc n → f i ∣ m
    joined m both = below_suc (λ i. f i ∣ m) n (λ i l. dvd_trans (f i) (c.holds i l) both.0) both.1

pub cycle_found : CycleFound
cycle_found = record {
  only = λ n f p h. (λ c. only_least (λ m. (i : ℕ) → i < n → f i ∣ m) h (cycle n f) c (cycle_least n f p), λ e. rw e (cycle_least n f p));
  pair = λ a b pa pb h.
      let least : Common a b (lcm a b) =
      record { positive = lcm_positive a b pa pb; holds = lcm_common a b pa pb; least = λ g pos both. le_of_dvd pos (lcm_divides a b pa pb g both.0 both.1) } in
      (λ c. only_least (λ m. (a ∣ m) × (b ∣ m)) h (lcm a b) c least, λ e. rw e least);
  grows = cycle_grows;
  divides = cycle_divides;
  decides = λ m n f g h limit le c d over. omega (arith, c.least h d.positive (λ i l. d.holds i (omega arith)));
}
