-- What each job gets.
-- Assumes nothing.
use Rattle.std.specs.Prelude.{◌≡◌, ℕ, suc, ◌+◌, ◌-◌, ◌<◌, ◌≤◌, true, false, ◌⊎◌, ◌↔◌, Some, None}
use Rattle.edf.specs.System.{System, Sound, NeverOverloaded, Timetable, service, Serves}
use Rattle.edf.specs.Tick.{tick}
use Rattle.edf.specs.Run.{Reports, Proper, trace, who}
use Rattle.edf.specs.Jobs.{Belongs, job_ticks, reported, met, Passed}

-- Where no span is overloaded, every job gets exactly its work before its deadline or is reported done before it.
abbrev pub JobsServed : Type 0
JobsServed = (S : System) → Sound S → NeverOverloaded S → (told : Reports) (i u : ℕ) → i < S.count → S.releases i u ≡ true →
    (job_ticks S (who S told) i u ≡ S.work i) ⊎ (reported S told i u ≡ true)

-- So by n ticks answered every job is met whose deadline has passed.
abbrev pub JobsMet : Type 0
JobsMet = (S : System) → Sound S → NeverOverloaded S → (told : Reports) (n : ℕ) (served : Timetable) →
    ((m : ℕ) → m < n → served m ≡ who S told m) → (i u : ℕ) → i < S.count → S.releases i u ≡ true → Passed S i u n →
    met S served told i u ≡ true

-- No job gets more ticks than its work, overloaded or not.
abbrev pub NoJobOverserved : Type 0
NoJobOverserved = (S : System) → Sound S → (told : Reports) (i u : ℕ) → i < S.count → S.releases i u ≡ true →
    job_ticks S (who S told) i u ≤ S.work i

-- A tick that serves a task belongs to one released job of it.
pub record TicksBelong : Type 0 where
  pub some : (S : System) → Sound S → (told : Reports) (n i : ℕ) → who S told n ≡ Some i →
      (i < S.count) × ((u : ℕ) × (S.releases i u ≡ true) × Belongs S (who S told) i u n)
  pub one : (S : System) → Sound S → (served : Timetable) (i u v n : ℕ) → i < S.count →
      S.releases i u ≡ true → S.releases i v ≡ true → Belongs S served i u n → Belongs S served i v n → u ≡ v

-- A tick says that a job is finished exactly if with it the job has got all its work.
pub record FinishedIsLast : Type 0 where
  pub idle : (S : System) (told : Reports) (n : ℕ) → who S told n ≡ None → (tick S n (trace S told n)).finished ≡ false
  pub last : (S : System) → Sound S → (told : Reports) (n i u : ℕ) → S.releases i u ≡ true → Belongs S (who S told) i u n →
      ((tick S n (trace S told n)).finished ≡ true) ↔ (service (who S told) i u (suc n - u) ≡ S.work i)

-- Where no span is overloaded, a report is accepted only for a job whose deadline has not passed.
abbrev pub ReportsInTime : Type 0
ReportsInTime = (S : System) → Sound S → NeverOverloaded S → (told : Reports) → Proper S told → (n i u : ℕ) →
    told n ≡ Some i → S.releases i u ≡ true → Belongs S (who S told) i u n → suc n < u + S.deadline i

-- Some timetable serves exactly when no span is overloaded.
abbrev pub ServesIffNeverOverloaded : Type 0
ServesIffNeverOverloaded = (S : System) → Sound S → ((t : Timetable) × Serves S t) ↔ NeverOverloaded S
