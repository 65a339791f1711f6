-- Byte strings that a loop fills in for 0, 1, 2 and so on, joined. Assumes nothing.
use Rattle.std.proofs.Common.{◌≡◌, ℕ, zero, suc, ◌+◌, ◌*◌, ◌<◌, ◌≤◌, List, [], ◌∷◌, ◌++◌, length, get_or, set, map, sym, ap, ◌∙◌, ⊎_elim, add-one, arith, get_or-set_other, get_or-set_same, length-set}
use Rattle.std.proofs.lemmas.Bool.{cases_eq}
use Rattle.std.proofs.lemmas.List.{append-nil}
use Rattle.std.proofs.lemmas.List.Concat.{flat_map-append}
use Rattle.std.proofs.lemmas.List.FromFn.{fill_by_all, map-range_with_len_more}
use Rattle.std.specs.List.{flat_map, range_with_len, slice_get}
use Rattle.plan.specs.TaskSet.{TaskSet}
use Rattle.book.proofs.Writings.{turn_more, turn_none}
use Rattle.book.specs.Writing.{in_turn, records_of, slot}

-- Of so many strings those below n are the ones that f gives.
pub record Filled (f : ℕ → List ℕ) (size n : ℕ) (rows : List (List ℕ)) : Type 0 where
  pub long : length rows ≡ size
  pub each : (k : ℕ) → k < n → get_or rows k [] ≡ f k

module _ (f : ℕ → List ℕ) (size : ℕ) where
  -- none so far
  pub none_filled : (rows : List (List ℕ)) → length rows ≡ size → Filled f size 0 rows
  none_filled rows long = record { long = long; each = λ k below. absurd (omega arith) }

  -- one string more
  pub filled_more : (n : ℕ) (rows : List (List ℕ)) (v : List ℕ) → n < size → v ≡ f n → Filled f size n rows → Filled f size (n + 1) (set rows n v)
  filled_more n rows v inside here so_far =
      record {
        long = length-set rows n v ∙ so_far.long;
        each = λ k below.
            ⊎_elim
            (λ e. rw e (get_or-set_same rows n v [] (omega (arith, so_far.long)) ∙ here))
            (λ ne. get_or-set_other rows n k v [] ne ∙ so_far.each k (omega (arith, ne)))
            (cases_eq k n);
      }

-- the strings joined are the strings in turn
pub joined : (f : ℕ → List ℕ) (n : ℕ) → flat_map (λ x. x) (map f (range_with_len 0 n)) ≡ in_turn f n
joined f zero = sym (turn_none f)
joined f (suc n) =
    ap (λ k. flat_map (λ x. x) (map f (range_with_len 0 k))) (sym (add-one n)) ∙
    ap (flat_map (λ x. x)) (map-range_with_len_more f 0 n n (omega arith)) ∙
    flat_map-append (λ x. x) (map f (range_with_len 0 n)) (f n ∷ []) ∙
    ap (λ t. t ++ (f n ++ [])) (joined f n) ∙
    ap (λ t. in_turn f n ++ t) (append-nil (f n)) ∙
    sym (turn_more f n) ∙ ap (in_turn f) (add-one n)

-- a loop that has come to the end has filled in all of them
pub all_filled : (f : ℕ → List ℕ) (size n : ℕ) (rows : List (List ℕ)) → size ≤ n → Filled f size n rows → flat_map (λ x. x) rows ≡ in_turn f size
all_filled f size n rows end filled = ap (flat_map (λ x. x)) (fill_by_all f rows size [] filled.long (λ k below. filled.each k (omega arith))) ∙ joined f size

-- record r from the one of that task on
abbrev pub record_from : TaskSet → ℕ → ℕ → List ℕ
record_from set first r = slot (slice_get set.tasks (first + r))

-- counted from the first record of a block they are the block's
pub block_filled : (set : TaskSet) (i first n : ℕ) (rows : List (List ℕ)) → 15 ≤ n → Filled (record_from set first) 15 n rows → first ≡ 15 * i
    → flat_map (λ x. x) rows ≡ records_of set i
block_filled set i first n rows end filled begins =
    all_filled (record_from set first) 15 n rows end filled ∙ ap (λ k. in_turn (record_from set k) 15) begins
