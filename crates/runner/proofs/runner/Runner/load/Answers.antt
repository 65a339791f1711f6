use Rattle.std.proofs.Common.{Ok, Err, refl, ap, ◌∙◌, arith}
use Rattle.std.proofs.lemmas.Result.{err_from_is_err_and}
use Rattle.plan.specs.TaskSet.{task_set}
use Rattle.runner.proofs.Loading.{held, read_and_started, answered_right}
use Rattle.runner.specs.Boards.{state}
use Rattle.runner.specs.Promise.{taken}
use Rattle.admission.specs.declared.fault.StartFault.{StartFault}
use Rattle.runner.proofs.runner.Runner.load.Goals as goal

pub returns-in_err-start-clause-right : goal.returns-in_err-start-clause-right
returns-in_err-start-clause-right g c =
    let exit = err_from_is_err_and c.from_residual-in_err-start.result c.from_residual-in_err-start.ensures.1 in
    let policy = g.P.Pattern.meaning c.args.self.now.policy in
    answered_right policy c.args.book.now c.from_residual-in_err-start.result (g.met.P.Pattern.lawful c.args.self.now.policy) (λ i. omega (arith, c.type_inv.book i))
    (read_and_started policy c.args.book.now c.from_residual-in_err-start.result (task_set c.read.new.plan) (task_set c.new-plan.result) (Err c.in_err-start.field-0.0)
    c.in_ok-read.ensures.answer c.in_ok-read.ensures.after c.in_err-start.ensures.answer (exit.1 ∙ ap Err exit.2))

pub returns-clause-answer : goal.returns-clause-answer
returns-clause-answer g c =
    read_and_started (g.P.Pattern.meaning c.args.self.now.policy) c.args.book.now (Ok c.in_ok-start.field-0) (task_set c.read.new.plan) (task_set c.new-plan.result) (Ok c.in_ok-start.field-0)
    c.in_ok-read.ensures.answer c.in_ok-read.ensures.after c.in_ok-start.ensures.answer refl

pub returns-clause-right : goal.returns-clause-right
returns-clause-right g c =
    answered_right (g.P.Pattern.meaning c.args.self.now.policy) c.args.book.now _ (g.met.P.Pattern.lawful c.args.self.now.policy) (λ i. omega (arith, c.type_inv.book i)) (returns-clause-answer g c)

pub returns-clause-after : goal.returns-clause-after
returns-clause-after g c =
    c.in_ok-start.ensures.after
    ∙ ap (λ set. taken {F = StartFault} set (Ok c.in_ok-start.field-0) (state c.args.self.now.board))
    (held c.args.book.now (task_set c.read.new.plan) (task_set c.new-plan.result) c.in_ok-read.ensures.answer c.in_ok-read.ensures.after)
