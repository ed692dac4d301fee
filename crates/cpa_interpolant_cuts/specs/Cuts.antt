-- The formulas of the two parts of a path at a cut, joined on the bits of the cells (interpolants
-- along a path: McMillan, CAV 2006). The parts stand in specs/Parts of cpa_interpolant_rules.
use Rattle.std.specs.Prelude.{Bool, List, Option}
use Rattle.cpa_cnf.specs.declared.formula.Cnf.{Cnf}
use Rattle.cpa_cnf.specs.declared.formula.Line.{Line}
use Rattle.cpa_expr.specs.declared.tree.Expr.{Expr}
use Rattle.cpa_model.specs.declared.program.Cell.{Cell}
use Rattle.cpa_query.specs.declared.query.Query.{Query}
use Rattle.cpa_query.specs.Queries.{reads}
use Rattle.cpa_blast.specs.Formulas.{formula, first_bits}
use Rattle.cpa_form_rules.specs.Forms.{Form}
use Rattle.cpa_interpolant_bits.specs.declared.bits.Bit.{Bit}
use Rattle.cpa_interpolant_joining.specs.Joining.{joined, sides_of}
use Rattle.cpa_interpolant_conditions.specs.Interpolants.{interpolant_expr}
use Rattle.cpa_interpolant_names.specs.declared.gathering.Meeting.{Meeting}
use Rattle.cpa_interpolant_names.specs.declared.gathering.Seen.{Seen}
use Rattle.cpa_interpolant_names.specs.Meetings.{meetings_from, names_of, bits_of}

-- what is seen of a query and its formula
abbrev pub seen : Query → Seen
seen q = record { firsts = first_bits q; reads = reads q }

-- where the cells stand in two parts, the second of which begins with them
abbrev pub meetings_of : List Cell → Form → Form → List Meeting
meetings_of cells before behind =
    meetings_from before (seen before.query) (seen behind.query) 0 cells

-- the formula of the two parts, and the side of each clause
abbrev pub formula_of : List Cell → Form → Form → Cnf
formula_of cells before behind =
    joined (formula before.query) (formula behind.query)
    (names_of (formula behind.query).vars (meetings_of cells before behind))

abbrev pub sides_at : Form → Form → List Bool
sides_at before behind = sides_of (formula before.query) (formula behind.query)

-- the bits that both parts read, by the variables of the part before the cut
abbrev pub shared_bits_of : List Cell → Form → Form → List (Option Bit)
shared_bits_of cells before behind =
    bits_of (formula before.query).vars (meetings_of cells before behind)

-- the expression of the last partial of lines that refute the formula
abbrev pub expr_of : List Cell → Form → Form → List Line → Expr
expr_of cells before behind log =
    interpolant_expr (shared_bits_of cells before behind) (formula_of cells before behind)
    (sides_at before behind) log
