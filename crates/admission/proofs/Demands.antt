-- The work of a span to an end, start by start downward, and the last start whose span is overloaded.
use Rattle.std.proofs.Common.{◌≡◌, ℕ, zero, suc, ◌+◌, ◌-◌, ◌*◌, ◌/◌, ◌%◌, ◌^◌, ◌<◌, ◌≤◌, Bool, true, false, cond, ◌&&◌, eqb, ltb, leb, List, [], ◌∷◌, map, length, get_or, Some, None, Option, sym, refl, ap, ap₂, ◌∙◌, ⊎_elim, add-zero, zero-add, add-one, arith}
use Rattle.std.specs.List.{cons_option, enumerate_from, filter, filter_map, sum_by}
use Rattle.std.proofs.lemmas.List.Sums.{sum_by-cons}
use Rattle.std.specs.Option.{option_map}
use Rattle.std.proofs.lemmas.Bool.{cases_lt, lt-ltb, le-ltb, and_from, and_right}
use Rattle.plan.proofs.Bounding.{plan_is_bounded}
use Rattle.plan.specs.Bounded.{count}
use Rattle.plan.specs.TaskSet.{Parameters, TaskSet, task_set, parameters, job_work}
use Rattle.plan.specs.declared.plan.Plan.{Plan}
use Rattle.plan.specs.declared.task.Task.{Task}
use Rattle.pattern.specs.Policy.{Meaning, mandatory}
use Rattle.pattern.specs.Sum.{Sum}
use Rattle.edf.specs.Plans.{system}
use Rattle.edf.specs.Refusal.{overloads, start_below}
use Rattle.edf.specs.System.{System, work_due, due, span_work}
use Rattle.edf.proofs.Releases.{plan_work_in_range, work_by_ticks}
use Rattle.edf.proofs.Sums.{sum_from, sum_at_most}
use Rattle.service.specs.Rows.{job_of}
use Rattle.service.specs.declared.backlog.Pending.{Pending}
use Rattle.admission.proofs.Numbered.{task_at, all_listed}
use Rattle.admission.specs.Searches.{last_overload}
use Rattle.admission.specs.Verdicts.{overload_of}

module _ (S : System) (e : ℕ) where
  -- a span of no ticks has no work
  pub no_span : span_work S e e ≡ 0
  no_span = let none : e - e ≡ 0 = omega arith in ap (λ n. Sum n (λ k. due S e (e + k))) none

  -- a start one tick earlier adds what is released there
  pub start_earlier : (s t : ℕ) → t ≡ s + 1 → t ≤ e → span_work S t e + due S e s ≡ span_work S s e
  start_earlier s t next before =
      let one_more : t ≡ suc s = omega arith in
      omega (arith, sum_from s e (due S e) (omega arith), sum_from t e (due S e) before, ap (λ n. Sum n (due S e)) one_more)

  -- one start more to try
  chosen : (n : ℕ) (b : Bool) → overloads S n e ≡ b → start_below S e (n + 1) ≡ elim b [ true ↦ Some n | false ↦ start_below S e n ]
  unfolding start_below
  chosen n b is = ap (start_below S e) (add-one n) ∙ ap (λ b. elim b as (λ _. Option ℕ) [ true ↦ Some n | false ↦ start_below S e n ]) is

  -- a span that fits is not the one
  pub not_here : (n : ℕ) → span_work S n e ≤ e - n → start_below S e (n + 1) ≡ start_below S e n
  not_here n fits = chosen n false (and_right (ltb n e) (ltb (e - n) (span_work S n e)) (le-ltb (e - n) (span_work S n e) fits))

  -- and one that does not is
  pub here : (n : ℕ) → n ≤ e → e - n < span_work S n e → start_below S e (n + 1) ≡ Some n
  here n within over = chosen n true (and_from (ltb n e) (ltb (e - n) (span_work S n e)) (lt-ltb n e before) (lt-ltb (e - n) (span_work S n e) over))
    where
      before : n < e
      before = ⊎_elim (λ l. l) (λ l. let same : n ≡ e = omega arith in absurd (omega (arith, ap (λ s. span_work S s e) same, no_span))) (cases_lt n e)

  -- no start is below 0
  pub none_below_zero : start_below S e 0 ≡ None
  unfolding start_below
  none_below_zero = refl

-- ---- the work that is due, as the chain over the tasks sums it
-- a sum from its first term on
sum_head : (n : ℕ) (f : ℕ → ℕ) → Sum (suc n) f ≡ f 0 + Sum n (λ k. f (suc k))
sum_head zero f = omega arith
sum_head (suc n) f = omega (arith, sum_head n f)

-- the job of a numbered task, whether its deadline is at or before the end, and its work
abbrev pub job_at : TaskSet → Meaning → (u : ℕ) → ℕ × Task → Option Pending
job_at set policy u p = job_of set policy p.0 (parameters p.1) u

abbrev pub in_time : (u e : ℕ) → Pending → Bool
in_time u e job = leb (u + job.ticks) e

abbrev pub job_ticks : Pending → ℕ
job_ticks job = job.work

module _ (set : TaskSet) (policy : Meaning) (u e : ℕ) where
  abbrev pub due_of : List (ℕ × Task) → List Pending
  due_of tasks = filter (in_time u e) (filter_map (job_at set policy u) tasks)

  -- what the task with number i and these parameters adds
  abbrev adds : ℕ → Parameters → ℕ
  adds i t = cond ((eqb (u % t.period) 0 && mandatory policy i t.m t.k (u / t.period)) && leb (u + t.deadline) e) (job_work set.p set.q t) 0

  -- one task more in the chain
  one_task : (b : Bool) (job : Pending) (jobs : List Pending) →
      sum_by job_ticks (filter (in_time u e) (cons_option (cond b (Some job) None) jobs)) ≡ cond (b && in_time u e job) job.work 0 + sum_by job_ticks (filter (in_time u e) jobs)
  one_task true job jobs = timely (in_time u e job)
    where
      timely : (t : Bool) → sum_by job_ticks (cond t (job ∷ filter (in_time u e) jobs) (filter (in_time u e) jobs)) ≡ cond t job.work 0 + sum_by job_ticks (filter (in_time u e) jobs)
      timely true = sum_by-cons job_ticks job (filter (in_time u e) jobs)
      timely false = sym (zero-add _)
  one_task false job jobs = sym (zero-add _)

  -- the tasks from number n on
  all_tasks : (tasks : List Task) (n : ℕ) (f : ℕ → ℕ) → ((i : ℕ) (d : Task) → i < length tasks → f i ≡ adds (n + i) (parameters (get_or tasks i d))) →
      sum_by job_ticks (due_of (enumerate_from n tasks)) ≡ Sum (length tasks) f
  all_tasks [] n f each = refl
  all_tasks (t ∷ tasks) n f each =
      let job : Pending = record { work = job_work set.p set.q (parameters t); ticks = t.deadline } in
      one_task (eqb (u % t.period) 0 && mandatory policy n t.m t.k (u / t.period)) job (filter_map (job_at set policy u) (enumerate_from (n + 1) tasks))
      ∙ ap₂ (λ a b. a + b)
      (ap (λ i. adds i (parameters t)) (sym (add-zero n)) ∙ sym (each 0 t (omega arith)))
      (all_tasks tasks (n + 1) (λ k. f (suc k)) (λ i d h. each (suc i) d (omega arith) ∙ (let same : n + suc i ≡ n + 1 + i = omega arith in ap (λ k. adds k (parameters (get_or tasks i d))) same)))
      ∙ sym (sum_head (length tasks) f)

module _ (plan : Plan) (policy : Meaning) where
  abbrev S : System
  S = system (task_set plan) policy

  -- so many tasks release at most so many times the largest work
  pub due_so_far : (n e u : ℕ) → n ≤ count (task_set plan) → Sum n (work_due S e u) ≤ n * 1048560
  due_so_far n e u few =
      sum_at_most n (work_due S e u) 1048560
      (λ i h. omega (arith, part (S.releases i u && leb (u + S.deadline i) e) (S.work i), (plan_work_in_range (task_set plan) (plan_is_bounded plan) i (omega arith)).1))
    where
      part : (b : Bool) (w : ℕ) → cond b w 0 ≤ w
      part true w = omega arith
      part false w = omega arith

  -- at most 31,456,800 ticks of work are due of one tick
  pub due_small : (e u : ℕ) → due S e u ≤ 31456800
  due_small e u = omega (arith, due_so_far (count (task_set plan)) e u (omega arith), (plan_is_bounded plan).few)

  -- so the chain sums the work that is due
  pub due_chain : (tasks : List Task) → map parameters tasks ≡ (task_set plan).tasks → (e u : ℕ) → sum_by job_ticks (due_of (task_set plan) policy u e (enumerate_from 0 tasks)) ≡ due S e u
  due_chain tasks shown e u =
      all_tasks (task_set plan) policy u e tasks 0 (work_due S e u)
      (λ i d h. ap₂ (adds (task_set plan) policy u e) (sym (zero-add i)) (task_at (task_set plan) tasks i d shown h))
      ∙ ap (λ n. Sum n (work_due S e u)) (all_listed (task_set plan) tasks shown)

  -- which fits 32 bits
  pub due_chain_small : (tasks : List Task) → map parameters tasks ≡ (task_set plan).tasks → (e u : ℕ) → sum_by job_ticks (due_of (task_set plan) policy u e (enumerate_from 0 tasks)) < 2 ^ 32
  due_chain_small tasks shown e u = omega (arith, due_chain tasks shown e u, due_small e u)

  -- the last start with its work is the answer
  pub found_last : (s e work : ℕ) → start_below S e e ≡ Some s → work ≡ span_work S s e →
      Some (record { start = s; end = e; work = work }) ≡ last_overload (task_set plan) policy e
  found_last s e work found is =
      ap (λ w. Some (record { start = s; end = e; work = w })) (is ∙ sym (work_by_ticks (task_set plan) policy (plan_is_bounded plan) s e))
      ∙ ap (option_map (λ s. overload_of (task_set plan) policy (record { from = s; to = e }))) (sym found)

  -- and so is none, where no start overloads
  pub found_none : (e : ℕ) → start_below S e e ≡ None → None ≡ last_overload (task_set plan) policy e
  found_none e none = sym (ap (option_map (λ s. overload_of (task_set plan) policy (record { from = s; to = e }))) none)
