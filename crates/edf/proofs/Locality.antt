-- A tick reads the counters of its tasks and the releases, and a run the earlier done reports.
use Rattle.std.proofs.Common.{◌≡◌, ℕ, zero, suc, ◌+◌, ◌-◌, ◌<◌, ◌≤◌, cond, ◌||◌, eqb, ltb, leb, Some, None, Option, refl, ap, ◌∙◌, ap₂, arith}
use Rattle.edf.specs.System.{Timetable, is, service}
use Rattle.edf.specs.Tick.{Counters, drop_late, release, better, choose, serve, ended, tick}
use Rattle.edf.specs.Earliest.{Earliest}
use Rattle.edf.specs.Run.{done, trace}
use Rattle.edf.specs.Reading.{SameBelow, TickReads, TraceReads, MetReads}
use Rattle.pattern.specs.Sums.{sum_same}
use Rattle.edf.proofs.Choice.{choose_earliest}

better_same : (n : ℕ) (c c' : Counters) (o : Option ℕ) → Earliest n c o → SameBelow (suc n) c c' → better c o n ≡ better c' o n
better_same n c c' None f same = let h = same n (omega arith) in cc h.0
better_same n c c' (Some b) f same = let h = same n (omega arith) in let k = same b (omega (arith, f.here)) in cc (h.0, h.1, k.1)

choose_same : (n : ℕ) (c c' : Counters) → SameBelow n c c' → choose n c ≡ choose n c'
choose_same zero c c' same = refl
choose_same (suc n) c c' same =
    better_same n c c' (choose n c) (choose_earliest c n) same ∙ ap (λ o. better c' o n) (choose_same n c c' (λ i h. same i (omega arith)))

ended_same : (n : ℕ) (x : Counters) (o : Option ℕ) → Earliest n x o → (c c' : Counters) → SameBelow n c c' → ended o c ≡ ended o c'
ended_same n x None f c c' same = refl
ended_same n x (Some k) f c c' same = ap (λ w. eqb w 0) (same k f.here).0

pub tick_reads : TickReads
unfolding tick
tick_reads S n n' c c' rel same =
    let N = S.count in
    let o = release S n (drop_late c) in
    let o' = release S n' (drop_late c') in
    let opened : SameBelow N o o' = λ i h. let r = rel i h in let p = same i h in (cc (r, p.0, p.1), cc (r, p.1)) in
    let chosen : choose N o ≡ choose N o' = choose_same N o o' opened in
    let served : SameBelow N (serve (choose N o) o) (serve (choose N o') o') = λ i h. let p = opened i h in (cc (chosen, p.0), p.1) in
    record {
      served = chosen;
      finished = ended_same N o (choose N o) (choose_earliest o N) (serve (choose N o) o) (serve (choose N o') o') served
          ∙ ap (λ k. ended k (serve (choose N o') o')) chosen;
      missed = λ i h. let p = same i h in cc (p.0, p.1);
      left = λ i h. let p = served i h in (p.0, cc (p.0, p.1));
    }

pub trace_reads : TraceReads
unfolding trace
trace_reads S told told' zero same = refl
trace_reads S told told' (suc n) same = ap₂ (λ o c. done o (tick S n c).left) (same n (omega arith)) (trace_reads S told told' n (λ m h. same m (omega arith)))

service_reads : (t t' : Timetable) (i s l : ℕ) → ((n : ℕ) → s ≤ n → n < s + l → t n ≡ t' n) → service t i s l ≡ service t' i s l
service_reads t t' i s l same =
    sum_same l (λ k. cond (is (t (s + k)) i) 1 0) (λ k. cond (is (t' (s + k)) i) 1 0)
    (λ k h. ap (λ o. cond (is o i) 1 0) (same (s + k) (omega arith) (omega arith)))

pub met_reads : MetReads
met_reads S served served' told told' i u same =
    ap₂ (λ got done-reports. leb (S.work i) got || ltb 0 done-reports)
    (service_reads served served' i u (S.deadline i) (λ n a b. (same n a b).0))
    (service_reads told told' i u (S.deadline i - 1) (λ n a b. (same n a (omega arith)).1))
