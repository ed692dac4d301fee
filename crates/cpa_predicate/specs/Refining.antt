-- Which predicates a precision has after a path that has no run (this project's own).
use Rattle.std.specs.Prelude.{List, [], ◌∷◌}
use Rattle.cpa_expr.specs.declared.tree.Expr.{Expr}
use Rattle.cpa_model.specs.declared.automaton.Cfa.{Cfa}
use Rattle.cpa_model.specs.declared.automaton.Path.{Path}
use Rattle.cpa_iface.specs.declared.precisions.Precision.{Precision}
use Rattle.cpa_folds.specs.Carried.{carried, with_new}

-- each of the first list that the other one lacks stands behind it, once
abbrev pub with_missing : List Expr → List Expr → List Expr
with_missing [] old = old
with_missing (e ∷ es) old = with_missing es (with_new e old)

-- these expressions are predicates, too
abbrev pub with_preds : List Expr → Precision → Precision
with_preds es p = record p { preds = with_missing es p.preds }

-- and so are those that the path carries
abbrev pub with_carried : Cfa → Path → Precision → Precision
with_carried cfa path p = with_preds (carried cfa path) p
