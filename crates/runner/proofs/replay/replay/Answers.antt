use Rattle.std.proofs.Common.{ℕ, ◌≤◌, min, length, take, subst, arith, length-take}
use Rattle.runner.proofs.Reaching.{Made, none_made, made_more, all_made}
use Rattle.runner.proofs.replay.replay.Goals as goal

pub loop-i-init : goal.loop-i-init
loop-i-init g c = none_made g.P.Pattern.meaning c.new-runner.result c.args.answers.now c.new-runner.ensures.after

pub loop-i-preserved : goal.loop-i-preserved
loop-i-preserved g c =
    made_more g.P.Pattern.meaning _ c.loop-i.runner c.make.new.self (take c.min-made.result c.args.calls.now) c.loop-i.i c.call-item.result c.args.answers.now c.loop-i.answers c.make.result
    c.loop-i-test.true (omega (arith, length-take c.min-made.result c.args.calls.now, c.min-made.ensures, c.loop-i.auto.answers)) c.call-item.is c.loop-i.invariant
    c.make.ensures.answer c.make.ensures.after c.make.ensures.policy c.make.ensures.bytes

pub returns : goal.returns
returns g c =
    let calls = c.args.calls.now in
    let before = c.args.answers.now in
    let i : ℕ = c.loop-i.i in
    let n : ℕ = min (length calls) (length before) in
    let made =
    subst (λ m. Made g.P.Pattern.meaning c.args.policy c.loop-i.runner (take i (take m calls)) i before c.loop-i.answers) c.min-made.ensures
    (subst (λ p. Made g.P.Pattern.meaning p c.loop-i.runner (take i (take c.min-made.result calls)) i before c.loop-i.answers) c.new-runner.ensures.policy c.loop-i.invariant) in
    let through : length (take n calls) ≤ i = subst (λ m. length (take m calls) ≤ i) c.min-made.ensures c.loop-i-test.false in
    let kept = all_made g.P.Pattern.meaning c.args.policy c.loop-i.runner calls i n before c.loop-i.answers (g.met.P.Pattern.lawful c.args.policy)
    (omega (arith, length-take c.min-made.result calls, length-take n calls, c.min-made.ensures, c.loop-i.auto.i-end, through)) through made in
    record { promise = kept.0; rest = kept.1; bytes = kept.2; policy = made.policy }
