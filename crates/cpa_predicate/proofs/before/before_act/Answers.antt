-- The act is that assignment.
use Rattle.std.proofs.Common.{sym, subst}
use Rattle.std.specs.Prelude.{IfOk, IfSome}
use Rattle.cpa_model.specs.declared.automaton.Act.{Act}
use Rattle.cpa_predicate.specs.Before.{IsBefore}
use Rattle.cpa_predicate.proofs.before.before_act.Goals as goal

pub returns-in-Assign : goal.returns-in-Assign
returns-in-Assign c =
    subst (λ (a : Act). IfOk c.before_write.result (λ before.
    IfSome before (IsBefore a c.args.p.now))) (sym c.in-Assign.is) c.before_write.ensures
