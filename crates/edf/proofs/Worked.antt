-- The worked meetings by evaluation: a test that each of them passes, and what a meeting that passes it comes to.
use Rattle.std.proofs.Common.{◌≡◌, ℕ, ◌%◌, ◌<◌, Bool, true, false, cond, ◌&&◌, eqb, ltb, leb, List, [], ◌∷◌, length, get_or, Some, None, Option, sym, refl, ap, ◌∙◌, mod-lt, arith}
use Rattle.std.specs.List.{AllByRecursion}
use Rattle.std.proofs.lemmas.Bool.{and_parts, ltb-true, leb-true, eqb-true, false≢true}
use Rattle.plan.specs.Bounds.{Timed, Constrained}
use Rattle.plan.specs.TaskSet.{Parameters, TaskSet}
use Rattle.pattern.specs.Policy.{Meaning, mandatory}
use Rattle.edf.specs.Tick.{tick, move_on}
use Rattle.edf.specs.Run.{silent, trace, who}
use Rattle.edf.specs.Refusal.{Span, start_below, refused}
use Rattle.edf.specs.Cycle.{gcd_in, cycle}
use Rattle.plan.specs.Bounded.{Bounded, count, task}
use Rattle.edf.specs.Plans.{W, released, system}
use Rattle.edf.specs.Admission.{repetition, CycleOf, cycle_of, work_of_span}
use Rattle.edf.specs.Meetings.{Step, blank, answer, Stepped, Meeting, row, accepted, overloaded, stepped, PlanOf, Holds, meetings, WorkedMeetingsHold}
use Rattle.edf.specs.Mistakes.{mistakes, ClassicMistakesShown}
use Rattle.edf.proofs.Below.{all_below, each_below}
use Rattle.edf.proofs.Multiples.{cycle_found}
use Rattle.edf.proofs.Positions.{at_position}
use Rattle.edf.proofs.Verdicts.{plan_one_cycle_is_enough, plan_run_repeats}

-- two rows of numbers agree below n
agree : (n : ℕ) (f g : ℕ → ℕ) → all_below n (λ i. eqb (f i) (g i)) ≡ true → (i : ℕ) → i < n → f i ≡ g i
agree n f g t i h = eqb-true (f i) (g i) (each_below n (λ i. eqb (f i) (g i)) t i h)

-- tests that are all passed
abbrev all_true : List Bool → Bool
all_true [] = true
all_true (b ∷ bs) = b && all_true bs

passed : (bs : List Bool) → all_true bs ≡ true → AllByRecursion (λ b. b ≡ true) bs
passed [] t = tt
passed (b ∷ bs) t = let parts = and_parts b (all_true bs) t in (parts.0, passed bs parts.1)

abbrev task_tests : Parameters → List Bool
task_tests t =
    leb 1 t.work
    ∷ leb t.work t.deadline
    ∷ leb t.deadline t.period
    ∷ leb t.period 65535
    ∷ leb 1 t.m
    ∷ leb t.m t.k
    ∷ leb t.k 32
    ∷ []

task_tested : (t : Parameters) → all_true (task_tests t) ≡ true → Timed t.period t.deadline t.work × Constrained t.m t.k
task_tested t e =
    let (a, (b, (c, (d, (f, (g, (h, _))))))) = passed (task_tests t) e in (
      (leb-true 1 t.work a, leb-true t.work t.deadline b, leb-true t.deadline t.period c, leb-true t.period 65535 d),
      (leb-true 1 t.m f, leb-true t.m t.k g, leb-true t.k 32 h),
    )

abbrev bounded_tests : TaskSet → List Bool
bounded_tests set = leb (count set) 30 ∷ leb 1 set.q ∷ leb set.q set.p ∷ leb set.p 16 ∷ all_below (count set) (λ i. all_true (task_tests (task set i))) ∷ []

pub bounded_tested : (set : TaskSet) → all_true (bounded_tests set) ≡ true → Bounded set
bounded_tested set t =
    let (few, (some, (fast, (most, (tasks, _))))) = passed (bounded_tests set) t in
    let kept : (i : ℕ) → i < count set → Timed (task set i).period (task set i).deadline (task set i).work × Constrained (task set i).m (task set i).k =
    λ i h. task_tested (task set i) (each_below (count set) (λ i. all_true (task_tests (task set i))) tasks i h) in
    record {
      few = leb-true (count set) 30 few;
      timed = λ i h. (kept i h).0;
      constrained = λ i h. (kept i h).1;
      geared = (leb-true 1 set.q some, leb-true set.q set.p fast, leb-true set.p 16 most);
    }

abbrev same_task : Option ℕ → Option ℕ → Bool
same_task None None = true
same_task None (Some b) = false
same_task (Some a) None = false
same_task (Some a) (Some b) = eqb a b

same_task_true : (a b : Option ℕ) → same_task a b ≡ true → a ≡ b
same_task_true None None t = refl
same_task_true None (Some b) t = absurd (false≢true t)
same_task_true (Some a) None t = absurd (false≢true t)
same_task_true (Some a) (Some b) t = ap Some (eqb-true a b t)

abbrev same_flag : Bool → Bool → Bool
same_flag true b = b
same_flag false true = false
same_flag false false = true

same_flag_true : (a b : Bool) → same_flag a b ≡ true → a ≡ b
same_flag_true true b t = sym t
same_flag_true false true t = absurd (false≢true t)
same_flag_true false false t = refl

abbrev no_span : Option Span → Bool
no_span None = true
no_span (Some x) = false

no_span_true : (o : Option Span) → no_span o ≡ true → o ≡ None
no_span_true None t = refl
no_span_true (Some x) t = absurd (false≢true t)

abbrev is_span : Option Span → ℕ → ℕ → Bool
is_span None s e = false
is_span (Some x) s e = eqb x.from s && eqb x.to e

is_span_true : (o : Option Span) (s e : ℕ) → is_span o s e ≡ true → o ≡ Some (record { from = s; to = e })
is_span_true None s e t = absurd (false≢true t)
is_span_true (Some x) s e t =
    let parts = and_parts (eqb x.from s) (eqb x.to e) t in
    let from = eqb-true x.from s parts.0 in
    let to = eqb-true x.to e parts.1 in
    λ i. Some (record { from = from i; to = to i })

abbrev plan_tests : TaskSet → List ℕ → List Bool
plan_tests set works = all_true (bounded_tests set) ∷ eqb (length works) (count set) ∷ all_below (count set) (λ i. eqb (W set i) (get_or works i 0)) ∷ []

plan_tested : (set : TaskSet) (works : List ℕ) → all_true (plan_tests set works) ≡ true → PlanOf set works
plan_tested set works t =
    let (bounded, (whole, (each, _))) = passed (plan_tests set works) t in
    record {
      bounded = bounded_tested set bounded;
      whole = eqb-true (length works) (count set) whole;
      each = agree (count set) (W set) (λ i. get_or works i 0) each;
    }

abbrev cycle_tests : TaskSet → Meaning → ℕ → List Bool
cycle_tests set policy H = all_below (count set) (λ i. ltb 0 (repetition set policy i)) ∷ eqb H (cycle_of set policy) ∷ []

pub cycle_tested : (set : TaskSet) (policy : Meaning) (H : ℕ) → all_true (cycle_tests set policy H) ≡ true → CycleOf set policy H
cycle_tested set policy H t =
    let (positive, (same, _)) = passed (cycle_tests set policy H) t in
    (cycle_found.only (count set) (repetition set policy)
    (λ i h. ltb-true 0 (repetition set policy i) (each_below (count set) (λ i. ltb 0 (repetition set policy i)) positive i h))
    H).1 (eqb-true H (cycle_of set policy) same)

abbrev step_tests : TaskSet → Meaning → (H n : ℕ) → Step → List Bool
step_tests set policy H n step =
    eqb (n % H) step.position
    ∷ all_below (count set) (λ i. eqb (cond (released set policy i n) 1 0) (get_or step.releases i 0))
    ∷ same_task (answer set policy n).served step.served
    ∷ same_flag (answer set policy n).finished step.used_up
    ∷ all_below (count set) (λ i. eqb ((answer set policy n).left.w i) (get_or step.w i 0))
    ∷ all_below (count set) (λ i. eqb ((answer set policy n).left.d i) (get_or step.d i 0))
    ∷ eqb (move_on H step.position) step.next
    ∷ []

step_tested : (set : TaskSet) (policy : Meaning) (H n : ℕ) (step : Step) → all_true (step_tests set policy H n step) ≡ true → Stepped set policy H n step
step_tested set policy H n step t =
    let (position, (releases, (served, (used_up, (w, (d, (next, _))))))) = passed (step_tests set policy H n step) t in
    record {
      position = eqb-true (n % H) step.position position;
      releases = agree (count set) (λ i. cond (released set policy i n) 1 0) (λ i. get_or step.releases i 0) releases;
      served = same_task_true (answer set policy n).served step.served served;
      used_up = same_flag_true (answer set policy n).finished step.used_up used_up;
      w = agree (count set) (λ i. (answer set policy n).left.w i) (λ i. get_or step.w i 0) w;
      d = agree (count set) (λ i. (answer set policy n).left.d i) (λ i. get_or step.d i 0) d;
      next = eqb-true (move_on H step.position) step.next next;
    }

abbrev tests : Meeting → List Bool
tests (row policy m k marks) = eqb (length marks) k ∷ all_below k (λ j. eqb (cond (mandatory policy 0 m k j) 1 0) (get_or marks j 0)) ∷ []
tests (accepted set policy works H ticks) =
    all_true (plan_tests set works)
    ∷ all_true (cycle_tests set policy H)
    ∷ leb H 1048576
    ∷ no_span (refused (system set policy) H)
    ∷ eqb (length ticks) H
    ∷ all_below H (λ n. same_task (who (system set policy) silent n) (get_or ticks n None))
    ∷ []
tests (overloaded set policy works s e work) =
    all_true (plan_tests set works)
    ∷ all_true (cycle_tests set policy (cycle_of set policy))
    ∷ leb (cycle_of set policy) 1048576
    ∷ is_span (refused (system set policy) (cycle_of set policy)) s e
    ∷ eqb (work_of_span set policy s e) work
    ∷ []
tests (stepped set policy H steps) = eqb (length steps) H ∷ all_below H (λ n. all_true (step_tests set policy H n (get_or steps n blank))) ∷ []

pub tested : (m : Meeting) → all_true (tests m) ≡ true → Holds m
tested (row policy m k marks) t =
    let (whole, (each, _)) = passed (tests (row policy m k marks)) t in
    record {
      whole = eqb-true (length marks) k whole;
      each = agree k (λ j. cond (mandatory policy 0 m k j) 1 0) (λ j. get_or marks j 0) each;
    }
tested (accepted set policy works H ticks) t =
    let (plan, (cycle, (short, (none, (whole, (each, _)))))) = passed (tests (accepted set policy works H ticks)) t in
    let p = plan_tested set works plan in
    let c = cycle_tested set policy H cycle in
    let fits = (plan_one_cycle_is_enough.admits set policy H p.bounded c).1 (no_span_true (refused (system set policy) H) none) in
    let first : (n : ℕ) → n < H → who (system set policy) silent n ≡ get_or ticks n None =
    λ n h. same_task_true (who (system set policy) silent n) (get_or ticks n None) (each_below H (λ n. same_task (who (system set policy) silent n) (get_or ticks n None)) each n h) in
    record {
      plan = p;
      cycle = c;
      short = leb-true H 1048576 short;
      fits = fits;
      whole = eqb-true (length ticks) H whole;
      each = λ n. at_position (who (system set policy) silent) H (plan_run_repeats.served set policy H p.bounded c fits) c.positive n ∙ first (n % H) (mod-lt n c.positive);
    }
tested (overloaded set policy works s e work) t =
    let (plan, (cycle, (short, (span, (carried, _))))) = passed (tests (overloaded set policy works s e work)) t in
    let p = plan_tested set works plan in
    let h = cycle_of set policy in
    let c = cycle_tested set policy h cycle in
    record {
      plan = p;
      short = λ H d. omega (arith, leb-true h 1048576 short, d.least h c.positive c.holds);
      span = (plan_one_cycle_is_enough.refuses set policy h p.bounded c s e).1 (is_span_true (refused (system set policy) h) s e span);
      carried = eqb-true (work_of_span set policy s e) work carried;
    }
tested (stepped set policy H steps) t =
    let (whole, (each, _)) = passed (tests (stepped set policy H steps)) t in (
      eqb-true (length steps) H whole,
      λ n h. step_tested set policy H n (get_or steps n blank) (each_below H (λ n. all_true (step_tests set policy H n (get_or steps n blank))) each n h),
    )

abbrev all_tests : List Meeting → List Bool
all_tests [] = []
all_tests (m ∷ ms) = all_true (tests m) ∷ all_tests ms

each_tested : (ms : List Meeting) → AllByRecursion (λ b. b ≡ true) (all_tests ms) → AllByRecursion Holds ms
each_tested [] t = tt
each_tested (m ∷ ms) t = (tested m t.0, each_tested ms t.1)

each_passed : (ms : List Meeting) → all_true (all_tests ms) ≡ true → AllByRecursion Holds ms
each_passed ms t = each_tested ms (passed (all_tests ms) t)

meetings_pass : all_true (all_tests meetings) ≡ true
unfolding tick trace refused start_below cycle gcd_in
meetings_pass = refl

mistakes_pass : all_true (all_tests mistakes) ≡ true
unfolding tick trace refused start_below cycle gcd_in
mistakes_pass = refl

pub classic_mistakes_shown : ClassicMistakesShown
classic_mistakes_shown = each_passed mistakes mistakes_pass

pub worked_meetings_hold : WorkedMeetingsHold
worked_meetings_hold = each_passed meetings meetings_pass
