-- The expression of the last partial interpolant of a refutation, over the bits of cells (McMillan,
-- CAV 2003).
use Rattle.std.specs.Prelude.{Bool, List, [], Option}
use Rattle.cpa_cnf.specs.declared.formula.Cnf.{Cnf}
use Rattle.cpa_cnf.specs.declared.formula.Line.{Line}
use Rattle.cpa_expr.specs.declared.tree.Expr.{Expr}
use Rattle.cpa_chains.specs.Partials.{leaves_of, partials_of}
use Rattle.cpa_interpolant_bits.specs.declared.bits.Bit.{Bit}
use Rattle.cpa_interpolant_bits.specs.Nodes.{Made, expr_in}
use Rattle.cpa_interpolant_conditions.specs.Making.{condition_made}

-- the condition of the last partial of the lines
abbrev pub interpolant_made : Cnf → List Bool → List Line → Made
interpolant_made cnf sides log =
    condition_made [] (leaves_of cnf sides) (partials_of cnf sides log)

-- its expression
abbrev pub interpolant_expr : List (Option Bit) → Cnf → List Bool → List Line → Expr
interpolant_expr bits cnf sides log =
    let m = interpolant_made cnf sides log in expr_in bits m.nodes m.condition
