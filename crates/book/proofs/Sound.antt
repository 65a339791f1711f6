-- A block passes its checks exactly if it is sound, and a book that passes has one or two sound blocks.
-- Assumes nothing.
use Rattle.std.proofs.Common.{◌≡◌, ℕ, ◌+◌, ◌*◌, ◌%◌, Bool, true, cond, not, eqb, ◌⊎◌, List, length, drop, Some, None, Option, sym, refl, ap, ◌∙◌, inl, inr}
use Rattle.std.proofs.lemmas.Bool.{and_parts, and_from, eqb-true, eq-eqb, ne_eqb, cases_eq, not-false}
use Rattle.std.specs.Option.{option_or}
use Rattle.book.proofs.Refused.{both_pass, goes_on, went_on}
use Rattle.plan.specs.Checks.{refuse_if}
use Rattle.book.proofs.Opened.{open_at_512, open_at_1024}
use Rattle.book.specs.Bytes.{byte, part, total, all_zero}
use Rattle.book.specs.Reading.{sum_fits, head_fits, count_fits, ratio_fits, block_fault, block_of, open_fault}
use Rattle.book.specs.declared.fault.BookFault.TheVariants.{Length, Sum, Head, Count, Ratio, Reserved}

-- what the checks of a block ask, one by one
pub record Sound (block : List ℕ) (at blocks : ℕ) : Type 0 where
  pub sum : total block 128 % 4294967296 ≡ 0
  pub kind : byte block 0 ≡ 1
  pub place : byte block 1 ≡ at
  pub among : byte block 2 ≡ blocks
  pub count : count_fits (byte block 3) at blocks ≡ true
  pub ratio : ratio_fits (byte block 4) (byte block 5) at ≡ true
  pub reserved : all_zero (part block 6 22) ≡ true
  pub unused : all_zero (drop (32 + 32 * byte block 3) block) ≡ true

module _ {E : Type 0} where
  -- a check that did not refuse holds
  passed : (b : Bool) (e : E) (rest : Option E) → refuse_if (not b) e rest ≡ None → (b ≡ true) × (rest ≡ None)
  passed b e rest p = let w = went_on (not b) e rest p in (not-false b w.0, w.1)

  -- a check that holds does not refuse
  passes : {b : Bool} {rest : Option E} (e : E) → b ≡ true → rest ≡ None → refuse_if (not b) e rest ≡ None
  passes e p q = goes_on e (ap not p) q

module _ (block : List ℕ) (at blocks : ℕ) where
  -- a block that passes is sound
  pub passed_is_sound : block_fault block at blocks ≡ None → Sound block at blocks
  unfolding block_fault
  passed_is_sound none =
      let a = passed (sum_fits block) (Sum at) _ none in
      let b = passed (head_fits block at blocks) (Head at) _ a.1 in
      let c = passed (count_fits (byte block 3) at blocks) (Count at) _ b.1 in
      let d = passed (ratio_fits (byte block 4) (byte block 5) at) (Ratio at) _ c.1 in
      let e = passed (all_zero (part block 6 22)) (Reserved at) _ d.1 in
      let f = passed (all_zero (drop (32 + 32 * byte block 3) block)) (Reserved at) None e.1 in
      let h = and_parts (eqb (byte block 0) 1) _ b.0 in
      let i = and_parts (eqb (byte block 1) at) (eqb (byte block 2) blocks) h.1 in
      record {
        sum = eqb-true _ 0 a.0;
        kind = eqb-true _ 1 h.0;
        place = eqb-true _ at i.0;
        among = eqb-true _ blocks i.1;
        count = c.0;
        ratio = d.0;
        reserved = e.0;
        unused = f.0;
      }

  -- a sound block passes
  pub sound_passes : Sound block at blocks → block_fault block at blocks ≡ None
  unfolding block_fault
  sound_passes s =
      let head : head_fits block at blocks ≡ true =
      and_from (eqb (byte block 0) 1) _ (eq-eqb _ 1 s.kind) (and_from (eqb (byte block 1) at) _ (eq-eqb _ at s.place) (eq-eqb _ blocks s.among)) in
      passes (Sum at) (eq-eqb (total block 128 % 4294967296) 0 s.sum)
      (passes (Head at) head
      (passes (Count at) s.count
      (passes (Ratio at) s.ratio
      (passes (Reserved at) s.reserved
      (passes (Reserved at) s.unused refl)))))

-- one sound block, or two
pub record Lone (book : List ℕ) : Type 0 where
  pub long : length book ≡ 512
  pub sound : Sound book 0 1

pub record Two (book : List ℕ) : Type 0 where
  pub long : length book ≡ 1024
  pub first : Sound (block_of book 0) 0 2
  pub second : Sound (block_of book 1) 1 2

-- a book that passes is one of the two
pub opened_is : (book : List ℕ) → open_fault book ≡ None → Lone book ⊎ Two book
opened_is book none =
    elim (cases_eq (length book) 512) [
      | inl e ↦ inl (record { long = e; sound = passed_is_sound book 0 1 (sym (open_at_512 book e) ∙ none) })
      | inr n ↦ elim (cases_eq (length book) 1024) [
        | inl e ↦ (let both = both_pass _ _ (sym (open_at_1024 book e) ∙ none) in
            inr (record { long = e; first = passed_is_sound _ 0 2 both.0; second = passed_is_sound _ 1 2 both.1 }))
        | inr m ↦ (let other : open_fault book ≡ Some Length =
            ap (λ b. cond b (block_fault (block_of book 0) 0 1) (cond (eqb (length book) 1024) (option_or (block_fault (block_of book 0) 0 2) (block_fault (block_of book 1) 1 2)) (Some Length))) (ne_eqb _ 512 n) ∙
            ap (λ b. cond b (option_or (block_fault (block_of book 0) 0 2) (block_fault (block_of book 1) 1 2)) (Some Length)) (ne_eqb _ 1024 m) in
            cc)
      ]
    ]
