-- Two lists of tasks have the same timings exactly if they are equally long and agree pair by pair. Assumes nothing.
use Rattle.std.proofs.Common.{◌≡◌, ◌↔◌, ℕ, zero, suc, ◌<◌, Bool, true, false, List, [], ◌∷◌, map, length, get_or, subst, sym, refl, ap, ◌∙◌, not-suc-le-zero, arith}
use Rattle.std.proofs.lemmas.Bool.{false≢true}
use Rattle.std.proofs.lemmas.List.{length-map}
use Rattle.std.specs.Bool.{IsTrue, MatchBool}
use Rattle.std.specs.List.{zip, AllWithin, HoldsAt}
use Rattle.plan.specs.TaskSet.{Parameters, Timing, parameters, timing}
use Rattle.plan.specs.declared.task.Task.{Task}

abbrev pub Agree : Task × Task → Type 0
Agree pair = timing (parameters pair.0) ≡ timing (parameters pair.1)

abbrev pub timings : List Task → List Timing
timings tasks = map timing (map parameters tasks)

-- lists whose pairs agree have the same timings
pub timings-zip : (xs ys : List Task) → length xs ≡ length ys → ((k : ℕ) (d : Task × Task) → k < length (zip xs ys) → Agree (get_or (zip xs ys) k d)) → timings xs ≡ timings ys
timings-zip [] [] long agree = refl
timings-zip [] (y ∷ ys) long agree = absurd (omega arith)
timings-zip (x ∷ xs) [] long agree = absurd (omega arith)
timings-zip (x ∷ xs) (y ∷ ys) long agree =
    ap (λ t. t ∷ timings xs) (agree 0 (x, y) (omega arith)) ∙
    ap (λ ts. timing (parameters y) ∷ ts) (timings-zip xs ys (omega arith) (λ k d below. agree (suc k) d (omega arith)))

-- every pair of lists with the same timings agrees
pub pair_agrees : (xs ys : List Task) (k : ℕ) (d : Task × Task) → timings xs ≡ timings ys → k < length (zip xs ys) → Agree (get_or (zip xs ys) k d)
pair_agrees [] ys k d same below = absurd (not-suc-le-zero below)
pair_agrees (x ∷ xs) [] k d same below = absurd (not-suc-le-zero below)
pair_agrees (x ∷ xs) (y ∷ ys) zero d same below = cc
pair_agrees (x ∷ xs) (y ∷ ys) (suc k) d same below = pair_agrees xs ys k d (cc) (omega arith)

-- what `all` answers of their pairs decides whether two equally long lists have the same timings
decided : (xs ys : List Task) (r : Bool) → length xs ≡ length ys
    → MatchBool r (AllWithin Agree (zip xs ys) 0 (length (zip xs ys))) ((k : ℕ) × (k < length (zip xs ys)) × HoldsAt (λ pair. Agree pair → ⊥) (zip xs ys) k)
    → IsTrue r ↔ (timings xs ≡ timings ys)
decided xs ys true long agree = (λ _. timings-zip xs ys long (λ k d below. agree k d (omega arith) below), λ _. refl)
decided [] ys false long (k, below, differ) = absurd (not-suc-le-zero below)
decided (x ∷ xs) [] false long (k, below, differ) = absurd (not-suc-le-zero below)
decided (x ∷ xs) (y ∷ ys) false long (k, below, differ) =
    (λ e. absurd (false≢true e), λ same. absurd (differ (x, y) (pair_agrees (x ∷ xs) (y ∷ ys) k (x, y) same below)))

-- the same, of the task sets that the lists show
pub shown_decided : (xs ys : List Task) (firsts seconds : List Parameters) (r : Bool) → map parameters xs ≡ firsts → map parameters ys ≡ seconds → length firsts ≡ length seconds
    → MatchBool r (AllWithin Agree (zip xs ys) 0 (length (zip xs ys))) ((k : ℕ) × (k < length (zip xs ys)) × HoldsAt (λ pair. Agree pair → ⊥) (zip xs ys) k)
    → IsTrue r ↔ (map timing firsts ≡ map timing seconds)
shown_decided xs ys firsts seconds r first second long found =
    let even : length xs ≡ length ys = sym (length-map xs parameters) ∙ ap length first ∙ long ∙ sym (ap length second) ∙ length-map ys parameters in
    subst (λ ts. IsTrue r ↔ (map timing ts ≡ map timing seconds)) first (subst (λ ts. IsTrue r ↔ (timings xs ≡ map timing ts)) second (decided xs ys r even found))
