-- What each step gives a row, and that the rows so changed are the counters of the definition's step.
use Rattle.std.proofs.Common.{◌≡◌, ℕ, ◌-◌, ◌<◌, Bool, true, false, cond, ◌&&◌, eqb, ltb, List, ◌++◌, get_or, take, replicate, Some, None, Option, sym, refl, ap, ◌∙◌, ⊎_elim, arith}
use lib.ListN.{length-replicate}
use Rattle.std.proofs.lemmas.List.{get_or_past, get_or-replicate, get_or-take}
use Rattle.std.proofs.lemmas.Bool.{cases_lt, lt-ltb, le-ltb, ltb-false, cond-false}
use Rattle.plan.specs.Bounded.{absent, count}
use Rattle.plan.specs.TaskSet.{Parameters, TaskSet, job_work}
use Rattle.pattern.specs.Policy.{Meaning}
use Rattle.edf.specs.Run.{cleared}
use Rattle.edf.specs.Plans.{D, W, released, system}
use Rattle.edf.specs.Tick.{Counters, late, drop_late, release, age}
use Rattle.service.proofs.Rowwise.{Stepped, SteppedAll, stepped_view, same_counters}
use Rattle.service.specs.Rows.{idle, row, view, overdue, released_job}
use Rattle.service.specs.declared.backlog.Backlog.{Backlog}
use Rattle.service.specs.declared.backlog.Pending.{Pending}

abbrev pub dropped : ℕ → Pending → Pending
dropped i p = record { work = cond (overdue p) 0 p.work; ticks = p.ticks }

abbrev pub aged : ℕ → Pending → Pending
aged i p = record { work = p.work; ticks = cond (ltb 0 p.work) (p.ticks - 1) 0 }

-- a job that is released takes the place of what was open
abbrev pub opened : Option Pending → Pending → Pending
opened None p = p
opened (Some job) p = job

module _ (tasks : TaskSet) (old : Backlog) (new rest : List Pending) where
  abbrev after : Backlog
  after = record { rows = new ++ rest }

  pub drops_late : SteppedAll dropped tasks old new rest → view tasks after ≡ drop_late (view tasks old)
  drops_late all =
      same_counters (view tasks after) (drop_late (view tasks old))
      (λ k. (stepped_view dropped tasks old new rest all k).0 ∙ at (ltb k (count tasks)) (row old k))
      (λ k. (stepped_view dropped tasks old new rest all k).1)
    where
      at : (b : Bool) (p : Pending) →
          cond b (dropped 0 p).work 0 ≡ cond (ltb 0 (cond b p.work 0) && eqb (cond b p.ticks 0) 0) 0 (cond b p.work 0)
      at true p = refl
      at false p = refl

  pub ages : SteppedAll aged tasks old new rest → view tasks after ≡ age (view tasks old)
  ages all =
      same_counters (view tasks after) (age (view tasks old))
      (λ k. (stepped_view aged tasks old new rest all k).0)
      (λ k. (stepped_view aged tasks old new rest all k).1 ∙ at (ltb k (count tasks)) (row old k))
    where
      at : (b : Bool) (p : Pending) → cond b (aged 0 p).ticks 0 ≡ cond (ltb 0 (cond b p.work 0)) (cond b p.ticks 0 - 1) 0
      at true p = refl
      at false p = refl

  module _ (policy : Meaning) (u : ℕ) where
    pub releases_jobs : SteppedAll (λ k. opened (released_job tasks policy k u)) tasks old new rest →
        view tasks after ≡ release (system tasks policy) u (view tasks old)
    releases_jobs all =
        same_counters (view tasks after) (release (system tasks policy) u (view tasks old))
        (λ k. (stepped_view (λ k. opened (released_job tasks policy k u)) tasks old new rest all k).0 ∙ work_at k (ltb k (count tasks)) refl (released tasks policy k u) (row old k))
        (λ k. (stepped_view (λ k. opened (released_job tasks policy k u)) tasks old new rest all k).1 ∙ ticks_at k (ltb k (count tasks)) refl (released tasks policy k u) (row old k))
      where
        -- no task past the count has work or a deadline
        past_count : (k : ℕ) → ltb k (count tasks) ≡ false → (W tasks k ≡ 0) × (D tasks k ≡ 0)
        past_count k f =
            let gone = get_or_past tasks.tasks k absent (ltb-false k (count tasks) f) in
            (ap (λ (t : Parameters). job_work tasks.p tasks.q t) gone, ap (λ (t : Parameters). t.deadline) gone)

        work_at : (k : ℕ) (b : Bool) → ltb k (count tasks) ≡ b → (r : Bool) (p : Pending) →
            cond b (opened (cond r (Some (record { work = W tasks k; ticks = D tasks k })) None) p).work 0 ≡ cond r (W tasks k) (cond b p.work 0)
        work_at k true e true p = refl
        work_at k true e false p = refl
        work_at k false e true p = sym (past_count k e).0
        work_at k false e false p = refl

        ticks_at : (k : ℕ) (b : Bool) → ltb k (count tasks) ≡ b → (r : Bool) (p : Pending) →
            cond b (opened (cond r (Some (record { work = W tasks k; ticks = D tasks k })) None) p).ticks 0 ≡ cond r (D tasks k) (cond b p.ticks 0)
        ticks_at k true e true p = refl
        ticks_at k true e false p = refl
        ticks_at k false e true p = sym (past_count k e).1
        ticks_at k false e false p = refl

-- a task is late in the counters exactly if its row is
pub late_by_row : (tasks : TaskSet) (backlog : Backlog) (k : ℕ) → k < count tasks → late (view tasks backlog) k ≡ overdue (row backlog k)
late_by_row tasks backlog k h = ap (λ b. ltb 0 (cond b (row backlog k).work 0) && eqb (cond b (row backlog k).ticks 0) 0) (lt-ltb k (count tasks) h)

-- and the row that comes next is as it was before the loop
pub late_next : (tasks : TaskSet) (old : Backlog) (new : List Pending) (n i : ℕ) → n ≡ count tasks → i < n → Stepped dropped i (take n old.rows) new →
    late (view tasks old) i ≡ overdue (get_or new i idle)
late_next tasks old new n i all below so_far =
    late_by_row tasks old i (omega arith)
    ∙ ap overdue (sym (so_far i ∙ cond-false (ltb i i) _ (get_or (take n old.rows) i idle) (le-ltb i i (omega arith)) ∙ get_or-take n old.rows i idle below))

all_idle : (n k : ℕ) → get_or (replicate n idle) k idle ≡ idle
all_idle n k =
    ⊎_elim
    (λ below. get_or-replicate n k idle idle below)
    (λ past. get_or_past (replicate n idle) k idle (omega (arith, length-replicate n idle)))
    (cases_lt k n)

-- rows of which none is open
pub nothing_left : (tasks : TaskSet) → ◌≡◌ {A = Counters} (record {
  w = λ k. cond (ltb k (count tasks)) (get_or (replicate 30 idle) k idle).work 0;
  d = λ k. cond (ltb k (count tasks)) (get_or (replicate 30 idle) k idle).ticks 0;
}) cleared
nothing_left tasks =
    same_counters _ cleared
    (λ k. ap (λ (p : Pending). cond (ltb k (count tasks)) p.work 0) (all_idle 30 k) ∙ at (ltb k (count tasks)))
    (λ k. ap (λ (p : Pending). cond (ltb k (count tasks)) p.ticks 0) (all_idle 30 k) ∙ at (ltb k (count tasks)))
  where
    at : (b : Bool) → ◌≡◌ {A = ℕ} (cond b 0 0) 0
    at true = refl
    at false = refl
