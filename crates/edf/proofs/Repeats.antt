-- Nothing is open across the end of a cycle, so an admitted run repeats.
use Rattle.std.proofs.Common.{◌≡◌, ℕ, zero, suc, ◌+◌, ◌-◌, ◌*◌, ◌<◌, ◌≤◌, Bool, true, false, cond, ◌&&◌, eqb, ltb, sym, refl, ap, ◌∙◌, ⊎_elim, suc-add, arith}
use Rattle.std.proofs.lemmas.Bool.Decides.{nat_tests}
use Rattle.std.proofs.lemmas.Bool.{cases_lt}
use Rattle.edf.specs.System.{System, Sound, NeverOverloaded, is}
use Rattle.edf.specs.Tick.{drop_late, release, choose, tick}
use Rattle.edf.specs.Run.{Reports, silent, trace}
use Rattle.edf.specs.Reading.{SameBelow}
use Rattle.edf.specs.Periodic.{Periodic, CycleEndsEmpty, RunRepeats}
use Rattle.edf.proofs.Owner.{owned}
use Rattle.edf.proofs.Miss.{never_late, on_time}
use Rattle.edf.proofs.Locality.{tick_reads}

-- who has no work left has no ticks left
idle_has_none : (S : System) (told : Reports) (n i : ℕ) → (trace S told n).w i ≡ 0 → (trace S told n).d i ≡ 0
unfolding trace tick
idle_has_none S told zero i e = refl
idle_has_none S told (suc n) i e =
    let o = release S n (drop_late (trace S told n)) in
    closed (is (told n) i) (is (choose S.count o) i) (o.w i) (o.d i) e
  where
    closed : (t b : Bool) (w d : ℕ) → cond t 0 (cond b (w - 1) w) ≡ 0 → cond t 0 (cond (ltb 0 (cond b (w - 1) w)) (d - 1) 0) ≡ 0
    closed t b w d e = grind (arith, nat_tests)

module _ (S : System) (H : ℕ) (sound : Sound S) (p : Periodic S H) where
  -- a job released before a multiple of H has its deadline at or before it
  no_job_straddles : (q u i : ℕ) → i < S.count → u < q * H → S.releases i u ≡ true → u + S.deadline i ≤ q * H
  no_job_straddles zero u i task h r = absurd (omega arith)
  no_job_straddles (suc q) u i task h r =
      ⊎_elim
      (λ early. omega (arith, p.within i u task early r))
      (λ far.
      let back : u - H + H ≡ u = omega arith in
      omega (arith, no_job_straddles q (u - H) i task (omega arith) (sym (p.repeats i (u - H) task) ∙ ap (S.releases i) back ∙ r)))
      (cases_lt u H)

  no_ticks_left : (told : Reports) (q i : ℕ) → i < S.count → (trace S told (q * H)).d i ≡ 0
  no_ticks_left told q i task =
      ⊎_elim
      (λ busy. let u = owned S sound told (q * H) i task busy in omega (arith, u.3, no_job_straddles q u.0 i task u.1 u.2))
      (λ idle. idle_has_none S told (q * H) i (omega arith))
      (cases_lt 0 ((trace S told (q * H)).w i))

  emptied : (told : Reports) (q i : ℕ) → i < S.count → (drop_late (trace S told (q * H))).w i ≡ 0
  emptied told q i task = dropped ((trace S told (q * H)).w i) ((trace S told (q * H)).d i) (no_ticks_left told q i task)
    where
      dropped : (w d : ℕ) → d ≡ 0 → cond (ltb 0 w && eqb d 0) 0 w ≡ 0
      dropped w d e = grind (arith, nat_tests)

  module _ (fits : NeverOverloaded S) where
    ends_clear : SameBelow S.count (trace S silent (0 + H)) (trace S silent 0)
    unfolding trace
    ends_clear i task =
        let one : 0 + H ≡ 1 * H = omega arith in
        let w = ap (λ n. (trace S silent n).w i) one in
        let d = ap (λ n. (trace S silent n).d i) one in
        let none = no_ticks_left silent 1 i task in
        let fine = on_time S silent (1 * H) (never_late S fits silent (1 * H)) i task in
        (omega (arith, w, nothing ((trace S silent (1 * H)).w i) ((trace S silent (1 * H)).d i) fine none), omega (arith, d, none))
      where
        nothing : (w d : ℕ) → (ltb 0 w && eqb d 0) ≡ false → d ≡ 0 → w ≡ 0
        nothing w d f e = grind (arith, nat_tests)

    counters_repeat : (n : ℕ) → SameBelow S.count (trace S silent (n + H)) (trace S silent n)
    unfolding trace
    counters_repeat zero = ends_clear
    counters_repeat (suc n) =
        rw suc-add
        (tick_reads S (n + H) n (trace S silent (n + H)) (trace S silent n) (λ i h. p.repeats i n h) (counters_repeat n)).left

pub cycle_ends_empty : CycleEndsEmpty
cycle_ends_empty S H sound p told q i task = (emptied S H sound p told q i task, no_ticks_left S H sound p told q i task)

pub run_repeats : RunRepeats
run_repeats = record {
  counters = counters_repeat;
  served = λ S H sound p fits n.
      (tick_reads S (n + H) n (trace S silent (n + H)) (trace S silent n) (λ i h. p.repeats i n h) (counters_repeat S H sound p fits n)).served;
}
