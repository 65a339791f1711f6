-- The choice of a tick is what `min_by_key` picks among the numbered rows that have work left.
use Rattle.std.proofs.Common.{◌≡◌, ℕ, suc, ◌+◌, ◌<◌, ◌≤◌, Bool, true, false, cond, ◌&&◌, ltb, List, [], ◌∷◌, Ordering, map, length, get_or, take, IfSome, Some, None, Option, subst, sym, refl, ap, ◌∙◌, ap₂, add-zero, zero-add, add-one, arith}
use Rattle.std.proofs.lemmas.Bool.{lt-ltb, cond-true}
use Rattle.std.proofs.lemmas.Bool.Decides.{nat_tests}
use Rattle.std.proofs.lemmas.Cmp.{ranked}
use Rattle.std.proofs.lemmas.Iterator.{YieldsList, items_from_drains}
use Rattle.std.proofs.lemmas.List.{get_or-take, length-take-le}
use Rattle.std.specs.Fn.{CalledAt}
use Rattle.std.specs.Iterator.{KeyTurn, PicksMinByKey}
use Rattle.std.specs.List.{enumerate_from, filter, fold, reduce, FoldsTo}
use Rattle.std.specs.Option.{option_map}
use Rattle.std.specs.Ordering.{nat_cmp, min_by_ordering}
use Rattle.std.specs.declared.cmp.Ordering.TheVariants.{Less, Equal, Greater}
use denote.Param.Members.{Mut}
use denote.Ref.{Bor}
use Rattle.plan.specs.Bounded.{count}
use Rattle.plan.specs.TaskSet.{TaskSet}
use Rattle.edf.proofs.Choice.{choose_earliest}
use Rattle.edf.specs.Earliest.{Earliest}
use Rattle.edf.specs.Tick.{Counters, better, choose}
use Rattle.service.specs.Rows.{idle, row, view}
use Rattle.service.specs.declared.backlog.Backlog.{Backlog}
use Rattle.service.specs.declared.backlog.Pending.{Pending}

-- ---- `min_by_key` over a chain picks the first of the items with the smallest key
module _ {A B F : Type 0} (v : A → B) (key : B → ℕ) (g : Mut F (Bor A × Unit {0}) ℕ) (f : F)
    (computes : (x : A) (n : ℕ) (q : F) → CalledAt g f x n q → (q ≡ f) × (n ≡ key (v x))) where
  -- the one with the smaller key, the first among equals
  abbrev smaller : B → B → B
  smaller best z = cond (ltb (key z) (key best)) z best

  -- one turn keeps the smaller key and its item
  one_turn : (o : Ordering) (x z : A) (n m : ℕ) → n ≡ key (v x) → m ≡ key (v z) → nat_cmp n m ≡ o →
      (min_by_ordering o n m ≡ key (v (min_by_ordering o x z))) × (v (min_by_ordering o x z) ≡ smaller (v x) (v z))
  one_turn Less x z n m a b e = (a, grind (arith, nat_tests, ranked n m Less (sym e)))
  one_turn Equal x z n m a b e = (a, grind (arith, nat_tests, ranked n m Equal (sym e)))
  one_turn Greater x z n m a b e = (b, grind (arith, nat_tests, ranked n m Greater (sym e)))

  -- and all turns keep the first item with the smallest key
  turns : (xs : List A) (h : F) (n : ℕ) (x : A) (q : (F × ℕ) × A) → h ≡ f → n ≡ key (v x) →
      FoldsTo {P = (F × ℕ) × A} (KeyTurn min_by_ordering min_by_ordering g nat_cmp) ((h, n), x) xs q →
      v q.1 ≡ fold smaller (v x) (map v xs)
  turns [] h n x q a b e = ap (λ w. v w.1) (sym e)
  turns (z ∷ zs) h n x q a b (j, turn, rest) =
      let call = computes z turn.0 j.0.0 (subst (λ w. CalledAt g w z turn.0 j.0.0) a turn.2) in
      let one = one_turn turn.1 x z n turn.0 b call.1 turn.3 in
      turns zs j.0.0 j.0.1 j.1 q call.0 (turn.4 ∙ one.0 ∙ ap (λ w. key (v w)) (sym turn.5)) rest
      ∙ ap (λ w. fold smaller w (map v zs)) (ap v turn.5 ∙ one.1)

  -- so that is what the chain answers, if it has an item
  pub min_by_key_picks : {S : Type 0} {steps : S → Option A → S → Type 0} {s : S} {all : List B} (r : Option A) →
      PicksMinByKey steps g nat_cmp s f r → YieldsList steps v s all → option_map v r ≡ reduce smaller all
  min_by_key_picks None (u, (t, y, e)) road = ap (reduce smaller) (items_from_drains [] (t, y, λ _. (u, e)) road)
  min_by_key_picks (Some y) (x, xs, n, h, q, (u, (t, ys, e)), call, rest) road =
      let first = computes x n h call in
      ap Some (turns xs h n x (q, y) first.0 first.1 rest)
      ∙ ap (reduce smaller) (items_from_drains (x ∷ xs) (t, ys, λ _. (u, e)) road)

-- ---- the rows with their numbers, and which of two goes first
abbrev pub Numbered : Type 0
Numbered = ℕ × Pending

abbrev pub busy : Numbered → Bool
busy p = ltb 0 p.1.work

abbrev pub ticks_of : Numbered → ℕ
ticks_of p = p.1.ticks

-- the one with fewer ticks left, the first among equals
abbrev sooner : Numbered → Numbered → Numbered
sooner best p = cond (ltb (ticks_of p) (ticks_of best)) p best

-- the best so far, or a numbered row that has work left and fewer ticks left
abbrev prefer : Option Numbered → Numbered → Option Numbered
prefer None p = cond (busy p) (Some p) None
prefer (Some best) p = cond (busy p && ltb (ticks_of p) (ticks_of best)) (Some p) (Some best)

-- the first of those with work left that have the fewest ticks left, one row after the other
foremost_on : (best : Numbered) (ps : List Numbered) → Some (fold sooner best (filter busy ps)) ≡ fold prefer (Some best) ps
foremost_on best [] = refl
foremost_on best (p ∷ ps) = at (busy p) (foremost_on best ps) (either (ltb (ticks_of p) (ticks_of best)) (foremost_on p ps) (foremost_on best ps))
  where
    either : (l : Bool) → Some (fold sooner p (filter busy ps)) ≡ fold prefer (Some p) ps → Some (fold sooner best (filter busy ps)) ≡ fold prefer (Some best) ps →
        Some (fold sooner (cond l p best) (filter busy ps)) ≡ fold prefer (cond l (Some p) (Some best)) ps
    either true this that = this
    either false this that = that

    at : (b : Bool) → Some (fold sooner best (filter busy ps)) ≡ fold prefer (Some best) ps →
        Some (fold sooner (sooner best p) (filter busy ps)) ≡ fold prefer (cond (ltb (ticks_of p) (ticks_of best)) (Some p) (Some best)) ps →
        Some (fold sooner best (cond b (p ∷ filter busy ps) (filter busy ps))) ≡ fold prefer (cond (b && ltb (ticks_of p) (ticks_of best)) (Some p) (Some best)) ps
    at true passed taken = taken
    at false passed taken = passed

-- the same from the first row on
foremost : (ps : List Numbered) → reduce sooner (filter busy ps) ≡ fold prefer None ps
foremost [] = refl
foremost (p ∷ ps) = at (busy p) (foremost_on p ps) (foremost ps)
  where
    at : (b : Bool) → Some (fold sooner p (filter busy ps)) ≡ fold prefer (Some p) ps → reduce sooner (filter busy ps) ≡ fold prefer None ps →
        reduce sooner (cond b (p ∷ filter busy ps) (filter busy ps)) ≡ fold prefer (cond b (Some p) None) ps
    at true this rest = this
    at false this rest = rest

-- whoever is chosen among the tasks below n is one of them
pub earliest_below : (n : ℕ) (c : Counters) (o : Option ℕ) → Earliest n c o → IfSome o (λ b. b < n)
earliest_below n c None first = tt
earliest_below n c (Some b) first = first.here

module _ (tasks : TaskSet) (backlog : Backlog) where
  abbrev counters : Counters
  counters = view tasks backlog

  -- a counter is that of the task's row
  pub work_by_row : (k : ℕ) → k < count tasks → counters.w k ≡ (row backlog k).work
  work_by_row k h = cond-true (ltb k (count tasks)) (row backlog k).work 0 (lt-ltb k (count tasks) h)

  ticks_by_row : (k : ℕ) → k < count tasks → counters.d k ≡ (row backlog k).ticks
  ticks_by_row k h = cond-true (ltb k (count tasks)) (row backlog k).ticks 0 (lt-ltb k (count tasks) h)

  abbrev numbered : ℕ → Numbered
  numbered k = (k, row backlog k)

  -- by the rows as by the counters
  prefer_is_better : (i : ℕ) → i < count tasks → (o : Option ℕ) → IfSome o (λ b. b < i) →
      prefer (option_map numbered o) (numbered i) ≡ option_map numbered (better counters o i)
  prefer_is_better i h None below = let e = work_by_row i h in at (ltb 0 (row backlog i).work) (ltb 0 (counters.w i)) (ap (ltb 0) (sym e))
    where
      at : (a b : Bool) → a ≡ b → cond a (Some (numbered i)) None ≡ option_map numbered (cond b (Some i) None)
      at a b e = rw e (elim b as (λ c. cond c (Some (numbered i)) None ≡ option_map numbered (cond c (Some i) None)) [ true ↦ refl | false ↦ refl ])
  prefer_is_better i h (Some b) below =
      at (ltb 0 (row backlog i).work && ltb (row backlog i).ticks (row backlog b).ticks) (ltb 0 (counters.w i) && ltb (counters.d i) (counters.d b))
      (ap₂ (λ x y. x && y) (ap (ltb 0) (sym (work_by_row i h))) (ap₂ ltb (sym (ticks_by_row i h)) (sym (ticks_by_row b (omega arith)))))
    where
      at : (x y : Bool) → x ≡ y → cond x (Some (numbered i)) (Some (numbered b)) ≡ option_map numbered (cond y (Some i) (Some b))
      at x y e = rw e (elim y as (λ c. cond c (Some (numbered i)) (Some (numbered b)) ≡ option_map numbered (cond c (Some i) (Some b))) [ true ↦ refl | false ↦ refl ])

  -- the choice among the tasks below n goes on with the rows from n on
  choose_on : (xs : List Pending) (n : ℕ) → n + length xs ≤ count tasks → ((i : ℕ) → i < length xs → get_or xs i idle ≡ row backlog (n + i)) →
      fold prefer (option_map numbered (choose n counters)) (enumerate_from n xs) ≡ option_map numbered (choose (n + length xs) counters)
  choose_on [] n fits rows = ap (λ k. option_map numbered (choose k counters)) (sym (add-zero n))
  choose_on (x ∷ xs) n fits rows =
      let here : (n, x) ≡ numbered n = ap (λ p. (n, p)) (rows 0 (omega arith) ∙ ap (row backlog) (add-zero n)) in
      let one = prefer_is_better n (omega arith) (choose n counters) (earliest_below n counters (choose n counters) (choose_earliest counters n)) in
      ap (λ o. fold prefer o (enumerate_from (n + 1) xs)) (ap (prefer (option_map numbered (choose n counters))) here ∙ one ∙ ap (λ k. option_map numbered (choose k counters)) (sym (add-one n)))
      ∙ choose_on xs (n + 1) (omega arith) (λ i h. rows (suc i) (omega arith) ∙ let e : n + suc i ≡ n + 1 + i = omega arith in ap (row backlog) e)
      ∙ (let e : n + 1 + length xs ≡ n + suc (length xs) = omega arith in ap (λ k. option_map numbered (choose k counters)) e)

  -- the first of the plan's rows with work left that have the fewest ticks left is that of the chosen task
  pub chosen : (rows : List Pending) (n : ℕ) → n ≡ count tasks → n ≤ length backlog.rows → rows ≡ take n backlog.rows →
      reduce sooner (filter busy (enumerate_from 0 rows)) ≡ option_map numbered (choose (count tasks) counters)
  chosen rows n all few are =
      let long : length rows ≡ count tasks = ap length are ∙ length-take-le n backlog.rows few ∙ all in
      foremost (enumerate_from 0 rows)
      ∙ choose_on rows 0 (omega (arith, long)) (λ i h. ap (λ xs. get_or xs i idle) are ∙ get_or-take n backlog.rows i idle (omega (arith, long)) ∙ ap (row backlog) (sym (zero-add i)))
      ∙ ap (λ k. option_map numbered (choose k counters)) (zero-add (length rows) ∙ long)

  -- the number of the one that was picked
  pub number_of : {X : Type 0} (w : X → Pending) (picked : Option (ℕ × X)) (o : Option ℕ) → option_map (λ p. (p.0, w p.1)) picked ≡ option_map numbered o →
      option_map (λ p. p.0) picked ≡ o
  number_of w None None e = refl
  number_of w None (Some k) e = ap (option_map (λ (p : Numbered). p.0)) e
  number_of w (Some p) None e = ap (option_map (λ (p : Numbered). p.0)) e
  number_of w (Some p) (Some k) e = ap (option_map (λ (p : Numbered). p.0)) e
