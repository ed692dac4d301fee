-- A read within its array, and an operator that has values.
use Rattle.std.proofs.Common.{sym, subst}
use Rattle.std.specs.Prelude.{IsSomeAnd}
use Rattle.cpa_expr.specs.declared.tree.Expr.{Expr, out-Expr}
use Rattle.cpa_expr.specs.Traps.{IsOutside, HasNoValue, TrapsHere}
use Rattle.cpa_expr.specs.Values.{value_of}
use Rattle.cpa_predicate.proofs.LeadingLemmas.{no_outside, read_traps, bin_traps}
use Rattle.cpa_predicate.proofs.leading.node_never_traps.Goals as goal

pub returns-in-Read : goal.returns-in-Read
returns-in-Read c = λ is values traps.
    no_outside _ _ (c.is_number_below.ensures is values)
    (subst (λ (e : Expr). IsSomeAnd (value_of e values) (IsOutside c.in-Read.len))
    (sym c.get.ensures) (read_traps values _ _ _ _
    (subst (λ (e : Expr). TrapsHere values (out-Expr e)) c.in-Read.is traps)))

pub returns-in-Bin : goal.returns-in-Bin
returns-in-Bin c = λ is values traps.
    c.has_values.ensures is values
    (subst (λ (e : Expr). IsSomeAnd (value_of e values) (HasNoValue c.in-Bin.op c.in-Bin.ty))
    (sym c.get-in-Bin.ensures) (bin_traps values _ _ _ _
    (subst (λ (e : Expr). TrapsHere values (out-Expr e)) c.in-Bin.is traps)))
