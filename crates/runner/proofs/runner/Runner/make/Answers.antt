use Rattle.std.proofs.Common.{sym, ap, ◌∙◌}
use Rattle.book.specs.Reading.{read_fault, decoded}
use Rattle.pattern.specs.Policy.{Meaning}
use Rattle.admission.specs.Verdicts.{verdict}
use Rattle.runner.proofs.Judging.{loaded_or_kept}
use Rattle.runner.specs.Boards.{state}
use Rattle.runner.specs.Calls.{action}
use Rattle.runner.specs.Promise.{taken}
use Rattle.runner.specs.Rules.{State, next}
use Rattle.runner.proofs.runner.Runner.make.Goals as goal

pub returns-in-Load-clause-after : goal.returns-in-Load-clause-after
returns-in-Load-clause-after g c =
    let policy : Meaning = g.P.Pattern.meaning c.args.self.now.policy in
    let before : State = state c.args.self.now.board in
    let book = c.in-Load.book.now in
    c.load.ensures.after
    ∙ ap (λ r. taken (decoded book) r before) c.load.ensures.answer
    ∙ sym (loaded_or_kept (decoded book) before (read_fault book) (verdict (decoded book) policy))
    ∙ ap (λ call. next policy before (action call)) (sym c.in-Load.is)
