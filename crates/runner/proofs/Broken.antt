-- Some answers break the promise, each by one part of it.
use Rattle.std.proofs.Common.{◌≡◌, ℕ, Ok, refl, ap, arith, lit<, lit≤}
use Rattle.std.proofs.lemmas.Bool.{false≢true}
use Rattle.book.specs.Writing.{encoded, block_bytes, in_turn, record_bytes}
use Rattle.pattern.specs.Even.{even}
use Rattle.edf.proofs.Verdicts.{plan_serves_iff_fits}
use Rattle.edf.proofs.Worked.{bounded_tested}
use Rattle.admission.specs.Judgement.{Right}
use Rattle.runner.specs.Calls.{load}
use Rattle.runner.specs.Counted.{overfull, PromiseBreakers}
use Rattle.runner.specs.Logs.{logged}
use Rattle.runner.specs.Promise.{RightAnswer}
use Rattle.runner.specs.Rules.{replies_from}
use Rattle.runner.specs.declared.call.Answer.TheVariants as said

not_accepted : Right overfull even (Ok 4) → ⊥
not_accepted (H, cycle, right) =
    let same : 4 ≡ H = right.by_its_cycle 4 refl in
    let served = (right.accepted (omega arith)).0 (ap Ok same) in
    (plan_serves_iff_fits overfull even (bounded_tested overfull refl)).0 served 0 4 (record { proper = lit< tt; excess = lit< tt })

overload_accepted : RightAnswer even (load (encoded overfull)) (said.Load (Ok 4)) → ⊥
unfolding encoded block_bytes in_turn record_bytes
overload_accepted (r, said, right) = not_accepted (right.accepted 4 (cc))

pub promise_breakers : PromiseBreakers
unfolding encoded block_bytes in_turn record_bytes logged replies_from
promise_breakers = record {
  somebody_late = λ state p. let e = p.never_late.0 in omega arith;
  a_call_unanswered = λ state p. let e = p.answers_by_the_rules in let z : ◌≡◌ {A = ℕ} 0 1 = cc in omega arith;
  an_answer_of_its_own = λ state p. let e = p.answers_by_the_rules in let z : ◌≡◌ {A = ℕ} 0 1 = cc in omega arith;
  an_overload_accepted = λ state p. overload_accepted p.admitted_rightly.0;
  a_job_forgotten = λ state p. false≢true (p.mandatory_jobs_met 1 0 (lit< tt) refl (lit≤ tt));
}
