-- A loop that goes over the rows of a plan's tasks and gives each what a step gives it.
use Rattle.std.proofs.Common.{◌≡◌, ℕ, ◌<◌, ◌≤◌, Bool, true, false, cond, ltb, List, ◌++◌, length, get_or, take, subst, refl, ap, ◌∙◌, arith}
use Rattle.std.proofs.lemmas.List.{get_or_append_left, get_or-take, length-take-le}
use Rattle.std.proofs.lemmas.Bool.{ltb-true}
use Rattle.plan.specs.Bounded.{count}
use Rattle.plan.specs.TaskSet.{TaskSet}
use Rattle.edf.specs.Tick.{Counters}
use Rattle.service.specs.Rows.{idle, row, view}
use Rattle.service.specs.declared.backlog.Backlog.{Backlog}
use Rattle.service.specs.declared.backlog.Pending.{Pending}

-- The rows below n have got what the step f gives them, and the others are as they were.
abbrev pub Stepped : (ℕ → Pending → Pending) → ℕ → List Pending → List Pending → Type 0
Stepped f n old new = (k : ℕ) → get_or new k idle ≡ cond (ltb k n) (f k (get_or old k idle)) (get_or old k idle)

-- The step has gone over the rows of all the plan's tasks; the rest are spare rows.
pub record SteppedAll (f : ℕ → Pending → Pending) (tasks : TaskSet) (old : Backlog) (new rest : List Pending) : Type 0 where
  pub long : length new ≡ count tasks
  pub rows : Stepped f (count tasks) (take (count tasks) old.rows) new

-- a loop over the first n rows, as many as there are tasks, has come to their end
pub all_stepped : (f : ℕ → Pending → Pending) (tasks : TaskSet) (old : Backlog) (new rest : List Pending) (n i : ℕ) → n ≡ count tasks → n ≤ length old.rows →
    length new ≡ length (take n old.rows) → i ≡ length (take n old.rows) → Stepped f i (take n old.rows) new → SteppedAll f tasks old new rest
all_stepped f tasks old new rest n i all few long end so_far =
    let taken : length (take n old.rows) ≡ n = length-take-le n old.rows few in
    record {
      long = long ∙ taken ∙ all;
      rows = subst (λ m. Stepped f m (take m old.rows) new) all (subst (λ m. Stepped f m (take n old.rows) new) (end ∙ taken) so_far);
    }

-- the counters of the rows that the step has gone over
pub stepped_view : (f : ℕ → Pending → Pending) (tasks : TaskSet) (old : Backlog) (new rest : List Pending) → SteppedAll f tasks old new rest → (k : ℕ) →
    ((view tasks (record { rows = new ++ rest })).w k ≡ cond (ltb k (count tasks)) (f k (row old k)).work 0)
    × ((view tasks (record { rows = new ++ rest })).d k ≡ cond (ltb k (count tasks)) (f k (row old k)).ticks 0)
stepped_view f tasks old new rest all k = at (ltb k (count tasks)) refl
  where
    stepped : k < count tasks → ltb k (count tasks) ≡ true → get_or (new ++ rest) k idle ≡ f k (row old k)
    stepped below t =
        get_or_append_left new rest idle k (omega (arith, all.long))
        ∙ all.rows k
        ∙ ap (λ b. cond b (f k (get_or (take (count tasks) old.rows) k idle)) (get_or (take (count tasks) old.rows) k idle)) t
        ∙ ap (f k) (get_or-take (count tasks) old.rows k idle below)

    at : (b : Bool) → ltb k (count tasks) ≡ b →
        (cond b (get_or (new ++ rest) k idle).work 0 ≡ cond b (f k (row old k)).work 0)
        × (cond b (get_or (new ++ rest) k idle).ticks 0 ≡ cond b (f k (row old k)).ticks 0)
    at true t =
        let e = stepped (ltb-true k (count tasks) t) t in
        (ap (λ (p : Pending). p.work) e, ap (λ (p : Pending). p.ticks) e)
    at false t = (refl, refl)

-- counters that are the same number by number
pub same_counters : (a b : Counters) → ((k : ℕ) → a.w k ≡ b.w k) → ((k : ℕ) → a.d k ≡ b.d k) → a ≡ b
same_counters a b ws ds = λ t. record { w = λ k. ws k t; d = λ k. ds k t }
