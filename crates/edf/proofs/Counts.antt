-- What each job of a plan gets, counted by the ticks answered and the reports accepted.
use Rattle.std.proofs.Common.{◌≡◌, ℕ, suc, ◌+◌, ◌-◌, ◌*◌, ◌/◌, ◌<◌, ◌≤◌, Bool, true, false, cond, ◌&&◌, eqb, leb, is_some, Some, None, Option, sym, refl, ap, ◌∙◌, ⊎_elim, arith}
use Rattle.std.proofs.lemmas.Nat.{div-mul-add, div_below}
use Rattle.std.proofs.lemmas.Bool.Decides.{nat_tests}
use Rattle.std.proofs.lemmas.Bool.{cases_lt, cases_Bool, eqb-true, eq-eqb, ltb-true, lt-ltb, leb-true, le-leb, and_parts, and_from, or_cases, or_left, or_right, cond-false, both_ways, false≢true}
use Rattle.plan.specs.TaskSet.{TaskSet}
use Rattle.pattern.specs.Sum.{Sum}
use Rattle.pattern.specs.Policy.{Meaning, mandatory}
use Rattle.pattern.proofs.Policies.{enough_anywhere}
use Rattle.edf.specs.System.{Timetable, is, service}
use Rattle.edf.specs.Run.{Reports, who}
use Rattle.edf.specs.Jobs.{Belongs, reported}
use Rattle.plan.specs.Bounded.{Bounded, count, task}
use Rattle.edf.specs.Plans.{T, D, W, job_deadline, marked, system}
use Rattle.edf.specs.Admission.{Fits}
use Rattle.edf.specs.Counting.{belongs, ticks_of, report_for, reported_done, job_met, Answered, MandatoryJobsMet, EnoughJobsMet, TicksGoToMarkedJobs, JobsGetAtMostTheirWork, ReportsComeInTime}
use Rattle.pattern.specs.Sums.{sum_same}
use Rattle.edf.proofs.Sums.{sum_le, sum_none, sum_splits}
use Rattle.edf.proofs.JobService.{jobs_met, no_job_overserved, ticks_belong, reports_in_time}
use Rattle.edf.proofs.Releases.{room, constraint_in_range, release_of_job, job_of_release, plan_is_sound}
use Rattle.edf.proofs.Verdicts.{fits_by_ticks}

is_gives_some : (o : Option ℕ) (i : ℕ) → is o i ≡ true → o ≡ Some i
is_gives_some None i e = grind (arith, nat_tests)
is_gives_some (Some k) i e = ap Some (eqb-true k i e)

some_is : (o : Option ℕ) (i : ℕ) → o ≡ Some i → is o i ≡ true
some_is o i e = ap (λ x. is x i) e ∙ eq-eqb i i refl

implied : (a b : Bool) → (a ≡ true → b ≡ true) → cond a 1 0 ≤ cond b 1 0
implied a b f = grind (arith, nat_tests)

module _ (set : TaskSet) (policy : Meaning) (bounded : Bounded set) (i : ℕ) (here : i < count set) where
  -- of the ticks before its deadline only those from its release on belong to a job
  module _ (j : ℕ) where
    before_release : (n : ℕ) → n < j * T set i → eqb (n / T set i) j ≡ false
    before_release n h = different (n / T set i) (div_below n (T set i) j (omega (arith, room set policy bounded i here)) h)
      where
        different : (q : ℕ) → q < j → eqb q j ≡ false
        different q h = grind (arith, nat_tests)

    since_release : (k : ℕ) → k < D set i → eqb ((j * T set i + k) / T set i) j ≡ true
    since_release k h = eq-eqb ((j * T set i + k) / T set i) j (div-mul-add j (T set i) k (omega (arith, room set policy bounded i here)))

  pub ticks_are_service : (served : Timetable) (j : ℕ) → ticks_of set served i j ≡ service served i (j * T set i) (D set i)
  ticks_are_service served j =
      let f : ℕ → ℕ = λ n. cond (belongs set served i j n) 1 0 in
      omega (
        arith,
        sum_splits (j * T set i) (D set i) f,
        sum_none (j * T set i) f (λ n h. outside (is (served n) i) (eqb (n / T set i) j) (before_release j n h)),
        sum_same (D set i) (λ k. f (j * T set i + k)) (λ k. cond (is (served (j * T set i + k)) i) 1 0)
            (λ k h. inside (is (served (j * T set i + k)) i) (eqb ((j * T set i + k) / T set i) j) (since_release j k h)),
      )
    where
      outside : (a b : Bool) → b ≡ false → ◌≡◌ {A = ℕ} (cond (a && b) 1 0) 0
      outside a b f = grind (arith, nat_tests)

      inside : (a b : Bool) → b ≡ true → ◌≡◌ {A = ℕ} (cond (a && b) 1 0) (cond a 1 0)
      inside a b t = grind (arith, nat_tests)

  module _ (N : ℕ) (served : Timetable) (told : Reports) (log : Answered set policy N served told) where
    -- a report of the task between release and deadline is a report for the job
    reports_are_for_the_job : (j : ℕ) → job_deadline set i j ≤ N → reported (system set policy) told i (j * T set i) ≡ true → reported_done set served told i j ≡ true
    reports_are_for_the_job j passed r =
        let u = j * T set i in
        let f : ℕ → ℕ = λ n. cond (report_for set served told i j n) 1 0 in
        let e : u + D set i - 1 ≡ u + (D set i - 1) = omega (arith, room set policy bounded i here) in
        let each : (k : ℕ) → k < D set i - 1 → cond (is (told (u + k)) i) 1 0 ≤ f (u + k) =
        λ k h. counted (told (u + k)) (served (u + k)) (eqb ((u + k) / T set i) j) (since_release j k (omega arith))
        (λ t. log.ticks (u + k) (omega arith) ∙ (log.reports (u + k) i t).0) in
        lt-ltb 0 (Sum (u + D set i - 1) f) (omega (
          arith,
          ltb-true 0 (service told i u (D set i - 1)) r,
          ap (λ l. Sum l f) e,
          sum_splits u (D set i - 1) f,
          sum_le (D set i - 1) (λ k. cond (is (told (u + k)) i) 1 0) (λ k. f (u + k)) each,
        ))
      where
        counted : (t s : Option ℕ) (b : Bool) → b ≡ true → (t ≡ Some i → s ≡ Some i) → cond (is t i) 1 0 ≤ cond (is_some t && (is s i && b)) 1 0
        counted None s b here same = grind (arith, nat_tests)
        counted (Some k) s b here same =
            ⊎_elim
            (λ yes. let q = some_is s i (same (is_gives_some (Some k) i yes)) in grind (arith, nat_tests))
            (λ other. grind (arith, nat_tests))
            (cases_Bool (eqb k i))

    mandatory_met : Fits set policy → (j : ℕ) → marked set policy i j ≡ true → job_deadline set i j ≤ N → job_met set served told i j ≡ true
    mandatory_met fits j m passed =
        let u = j * T set i in
        let got = service served i u (D set i) in
        let met = jobs_met (system set policy) (plan_is_sound set policy bounded) (fits_by_ticks set policy bounded fits) told N served log.ticks i u here
        (release_of_job set policy bounded i here j ∙ m) passed in
        ⊎_elim
        (λ enough. or_left (leb (W set i) (ticks_of set served i j)) (reported_done set served told i j)
        (le-leb (W set i) (ticks_of set served i j) (omega (arith, leb-true (W set i) got enough, ticks_are_service served j))))
        (λ done. or_right (leb (W set i) (ticks_of set served i j)) (reported_done set served told i j) (reports_are_for_the_job j passed done))
        (or_cases (leb (W set i) got) (reported (system set policy) told i u) met)

pub mandatory_jobs_met : MandatoryJobsMet
mandatory_jobs_met set policy N served told bounded fits log i j here = mandatory_met set policy bounded i here N served told log fits j

pub enough_jobs_met : EnoughJobsMet
enough_jobs_met set policy N served told bounded lawful fits log i a here passed =
    let m = (task set i).m in
    let k = (task set i).k in
    omega (
      arith,
      enough_anywhere policy lawful i m k a (constraint_in_range set policy bounded i here),
      sum_le k (λ x. cond (mandatory policy i m k (a + x)) 1 0) (λ x. cond (job_met set served told i (a + x)) 1 0)
          (λ x h. implied (marked set policy i (a + x)) (job_met set served told i (a + x)) (λ yes. mandatory_met set policy bounded i here N served told log fits (a + x) yes (passed x h))),
    )

module _ (set : TaskSet) (policy : Meaning) (bounded : Bounded set) (N : ℕ) (served : Timetable) (told : Reports) (log : Answered set policy N served told) where
  -- a tick that belongs to job j is one that the run gave to the marked job released at j × T
  record Given (i j n : ℕ) : Type 0 where
    here : i < count set
    job : marked set policy i j ≡ true
    since : Belongs (system set policy) (who (system set policy) told) i (j * T set i) n

  given : (i j n : ℕ) → belongs set served i j n ≡ true → Given i j n
  given i j n b =
      let parts = and_parts (is (served n) i) (eqb (n / T set i) j) b in
      let mine : served n ≡ Some i = is_gives_some (served n) i parts.0 in
      let answered : n < N = ⊎_elim (λ l. l) (λ late. absurd (nobody (log.later n late) mine)) (cases_lt n N) in
      let whose : who (system set policy) told n ≡ Some i = sym (log.ticks n answered) ∙ mine in
      let (here, (u, r, since)) = ticks_belong.some (system set policy) (plan_is_sound set policy bounded) told n i whose in
      let (start, job) = job_of_release set policy bounded i here u r in
      let split : n ≡ u / T set i * T set i + (n - u) = omega (arith, since.since) in
      let same : u / T set i ≡ j =
      sym (ap (λ x. x / T set i) split ∙ div-mul-add (u / T set i) (T set i) (n - u) (omega (arith, since.before, since.since, room set policy bounded i here)))
      ∙ eqb-true (n / T set i) j parts.1 in
      let at : u ≡ j * T set i = sym start ∙ ap (λ q. q * T set i) same in
      record {
        here = here;
        job = rw same at job;
        since = rw at at since;
      }
    where
      nobody : served n ≡ None → served n ≡ Some i → ⊥
      nobody a b = let z : ◌≡◌ {A = ℕ} 0 1 = cc in omega arith

  at_most_its_work : (i j : ℕ) → i < count set → ticks_of set served i j ≤ W set i
  at_most_its_work i j here =
      ⊎_elim
      (λ yes. omega (
        arith,
        sum_le (job_deadline set i j) (λ n. cond (belongs set served i j n) 1 0) (λ n. cond (belongs set (who (system set policy) told) i j n) 1 0)
            (λ n h. implied (belongs set served i j n) (belongs set (who (system set policy) told) i j n) (λ b.
            and_from (is (who (system set policy) told n) i) (eqb (n / T set i) j)
            (some_is (who (system set policy) told n) i (given i j n b).since.serves)
            (and_parts (is (served n) i) (eqb (n / T set i) j) b).1)),
        ticks_are_service set policy bounded i here (who (system set policy) told) j,
        no_job_overserved (system set policy) (plan_is_sound set policy bounded) told i (j * T set i) here (release_of_job set policy bounded i here j ∙ yes),
      ))
      (λ dropped. omega (
        arith,
        sum_none (job_deadline set i j) (λ n. cond (belongs set served i j n) 1 0)
            (λ n h. cond-false (belongs set served i j n) 1 0
            (⊎_elim (λ b. absurd (both_ways (marked set policy i j) dropped (given i j n b).job)) (λ f. f) (cases_Bool (belongs set served i j n)))),
      ))
      (cases_Bool (marked set policy i j))

  in_time : Fits set policy → (i j n : ℕ) → report_for set served told i j n ≡ true → suc n < job_deadline set i j
  in_time fits i j n r =
      let parts = and_parts (is_some (told n)) (belongs set served i j n) r in
      let g = given i j n parts.1 in
      reports_in_time (system set policy) (plan_is_sound set policy bounded) (fits_by_ticks set policy bounded fits) told log.reports n i (j * T set i)
      (named (told n) parts.0 (λ k t. (log.reports n k t).0) g.since.serves)
      (release_of_job set policy bounded i g.here j ∙ g.job)
      g.since
    where
      named : (o : Option ℕ) → is_some o ≡ true → ((k : ℕ) → o ≡ Some k → who (system set policy) told n ≡ Some k) → who (system set policy) told n ≡ Some i → o ≡ Some i
      named None some same mine = absurd (false≢true some)
      named (Some k) some same mine = sym (same k refl) ∙ mine

pub ticks_go_to_marked_jobs : TicksGoToMarkedJobs
ticks_go_to_marked_jobs set policy N served told bounded log i j n b =
    let g = given set policy bounded N served told log i j n b in (g.here, g.job, g.since.before)

pub jobs_get_at_most_their_work : JobsGetAtMostTheirWork
jobs_get_at_most_their_work set policy N served told bounded log = at_most_its_work set policy bounded N served told log

pub reports_come_in_time : ReportsComeInTime
reports_come_in_time set policy N served told bounded fits log = in_time set policy bounded N served told log fits
