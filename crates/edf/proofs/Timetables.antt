-- A timetable that serves leaves no span overloaded, and where no span is overloaded the run is one that serves.
use Rattle.std.proofs.Common.{◌≡◌, ℕ, zero, suc, ◌+◌, ◌-◌, ◌<◌, ◌≤◌, true, false, cond, ◌&&◌, leb, refl, ap, ⊎_elim, arith}
use Rattle.std.proofs.lemmas.Bool.{cases_lt, cases_Bool, ltb-true, le-leb, lt-leb, and_from, and_left, and_right, cond-true, cond-false}
use Rattle.pattern.specs.Sum.{Sum}
use Rattle.edf.specs.System.{System, Sound, NeverOverloaded, Timetable, is, work_due, service, Serves}
use Rattle.edf.specs.Run.{silent, who}
use Rattle.edf.specs.Service.{ServesIffNeverOverloaded}
use Rattle.edf.proofs.Sums.{sum_le, sum_none, sum_plus, sum_splits, sum_from, sum_of_ones, sum_swaps, one_at_most}
use Rattle.edf.proofs.Spans.{overloaded_excess}
use Rattle.edf.proofs.JobService.{jobs_served}

abbrev given : Timetable → ℕ → ℕ → ℕ
given t i n = cond (is (t n) i) 1 0

module _ (S : System) (sound : Sound S) (t : Timetable) (serves : Serves S t) (e i : ℕ) (task : i < S.count) where
  -- the work of task i released before n, and the ticks that it is given before n
  abbrev asked : ℕ → ℕ
  asked n = Sum n (λ u. work_due S e u i)

  abbrev got : ℕ → ℕ
  got n = Sum n (given t i)

  unreleased : (u : ℕ) → S.releases i u ≡ false → work_due S e u i ≡ 0
  unreleased u f = cond-false (S.releases i u && leb (u + S.deadline i) e) (S.work i) 0 (and_left (S.releases i u) (leb (u + S.deadline i) e) f)

  -- after a release at s nothing is released before its deadline
  quiet_till_deadline : (s : ℕ) → S.releases i s ≡ true → asked (s + S.deadline i) ≡ asked (suc s)
  quiet_till_deadline s r =
      let end = s + S.deadline i in
      let positive = sound.positive i task in
      let rest = sum_none (end - suc s) (λ k. work_due S e (suc s + k) i) (λ k h. unreleased (suc s + k)
      (⊎_elim (λ again. absurd (omega (arith, sound.apart i s (suc s + k) task (omega arith) r again))) (λ f. f) (cases_Bool (S.releases i (suc s + k))))) in
      omega (arith, sum_from (suc s) end (λ u. work_due S e u i) (omega arith))

  -- from s to e the task is given as many ticks as it asks
  task_fits : (b s : ℕ) → s ≤ e → e ≤ s + b → asked e + got s ≤ asked s + got e
  task_fits zero s h near = let same : s ≡ e = omega arith in omega (arith, ap asked same, ap got same)
  task_fits (suc b) s h near =
      let D = S.deadline i in
      let skipped : work_due S e s i ≡ 0 → asked e + got s ≤ asked s + got e =
      λ none. ⊎_elim (λ l. omega (arith, task_fits b (suc s) l (omega arith))) (λ l. let same : s ≡ e = omega arith in omega (arith, ap asked same, ap got same)) (cases_lt s e) in
      ⊎_elim
      (λ r. ⊎_elim
      (λ beyond. skipped (cond-false (S.releases i s && leb (s + D) e) (S.work i) 0 (and_right (S.releases i s) (leb (s + D) e) (lt-leb (s + D) e beyond))))
      (λ within. omega (
        arith,
        task_fits b (s + D) within (omega (arith, sound.positive i task)),
        quiet_till_deadline s r,
        sum_splits s D (given t i),
        serves i s task r,
        cond-true (S.releases i s && leb (s + D) e) (S.work i) 0 (and_from (S.releases i s) (leb (s + D) e) r (le-leb (s + D) e within)),
      ))
      (cases_lt e (s + D)))
      (λ f. skipped (unreleased s f))
      (cases_Bool (S.releases i s))

pub serves_iff_never_overloaded : ServesIffNeverOverloaded
serves_iff_never_overloaded S sound = (never_overloaded, λ fits. (who S silent, run_serves fits))
  where
    never_overloaded : ((t : Timetable) × Serves S t) → NeverOverloaded S
    never_overloaded (t, serves) s e over =
        let N = S.count in
        let before : s ≤ e = omega (arith, over.proper) in
        let asked_by : ℕ → ℕ → ℕ = λ n i. Sum n (λ u. work_due S e u i) in
        let got_by : ℕ → ℕ → ℕ = λ n i. Sum n (given t i) in
        let ticks : ℕ → ℕ = λ n. Sum N (λ i. given t i n) in
        omega (
          arith,
          overloaded_excess S s e over,
          sum_swaps s N (work_due S e),
          sum_swaps e N (work_due S e),
          sum_swaps s N (λ n i. given t i n),
          sum_swaps e N (λ n i. given t i n),
          sum_plus N (asked_by e) (got_by s),
          sum_plus N (asked_by s) (got_by e),
          sum_le N (λ i. asked_by e i + got_by s i) (λ i. asked_by s i + got_by e i) (λ i task. task_fits S sound t serves e i task e s before (omega arith)),
          sum_from s e ticks before,
          sum_of_ones (e - s) (λ k. ticks (s + k)) (λ k. one_at_most N (t (s + k))),
        )

    run_serves : NeverOverloaded S → Serves S (who S silent)
    run_serves fits i u task rel =
        let n = S.deadline i - 1 in
        ⊎_elim
        (λ e. omega arith)
        (λ r. omega (arith, ltb-true 0 (service silent i u n) r, sum_none n (λ _. 0) (λ _ _. refl)))
        (jobs_served S sound fits silent i u task rel)
