-- What the element says of the predicate before the act is so after it.
use Rattle.std.proofs.Common.{subst}
use Rattle.std.specs.Prelude.{Option, IfSome}
use Rattle.cpa_expr.specs.declared.tree.Expr.{Expr}
use Rattle.cpa_predicate.specs.Before.{IsBefore}
use Rattle.cpa_predicate.proofs.BeforeLemmas.{said_before}
use Rattle.cpa_predicate.proofs.before.truth_before.Goals as goal

pub returns-in-Some-earlier : goal.returns-in-Some-earlier
returns-in-Some-earlier c = λ cfa g a own same.
    said_before cfa c.args.elem.now g c.args.act.now c.args.p.now c.in-Some-earlier.before a own
    same
    (subst (λ (o : Option Expr). IfSome o (IsBefore c.args.act.now c.args.p.now))
    c.in-Some-earlier.is c.in_ok-earlier.ensures) _ c.first_said.ensures
