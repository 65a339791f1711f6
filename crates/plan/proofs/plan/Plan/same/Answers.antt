use Rattle.std.proofs.Common.{sym, ◌∙◌, rules, tests}
use Rattle.std.proofs.lemmas.Iterator.{cases_from_all, YieldsList-from_slice, YieldsList-from_zip}
use Rattle.plan.proofs.Compared.{Agree, shown_decided}
use Rattle.plan.proofs.plan.Plan.same.Goals as goal

pub returns-then-len : goal.returns-then-len
returns-then-len c =
    shown_decided c.tasks.result.now c.tasks-then-len.result.now _ _ c.all.result c.tasks.ensures c.tasks-then-len.ensures
    (sym c.len.ensures.answer ∙ c.if-len.true ∙ c.len-2.ensures.answer)
    (cases_from_all c.all.new.self _ _ Agree (λ pair. Agree pair → ⊥) c.all.ensures.ran
    (YieldsList-from_zip (YieldsList-from_slice c.tasks.result.now cc) (YieldsList-from_slice c.tasks-then-len.result.now cc))
    (λ x q k. search (rules, tests)) (λ x q k. search (rules, tests)))
