-- The parts of a path at a cut (interpolants along a path: McMillan, CAV 2006), as forms from any
-- store on: the part before it says that an expression is nonzero and that one edge is taken then,
-- the part behind it that the other edges are taken.
use Rattle.std.specs.Prelude.{ℕ, ◌+◌, ◌^◌, ◌-◌, min, true, false, List, [], ◌∷◌, map}
use Rattle.cpa_expr.specs.declared.tree.Expr.{Expr}
use Rattle.cpa_model.specs.declared.program.Cell.{Cell}
use Rattle.cpa_model.specs.declared.automaton.Act.{Act}
use Rattle.cpa_facts.specs.declared.fact.Fact.TheVariants.{Truth}
use Rattle.cpa_model.specs.declared.facts.Elem.{Elem}
use Rattle.cpa_form_rules.specs.Runs.{Added, taken, holding}
use Rattle.cpa_form_rules.specs.Forms.{Form, form_of}

-- the expression is nonzero
abbrev pub told : Expr → Elem
told e = record { facts = Truth e true ∷ [] }

-- before the cut the expression is nonzero, and then the edge is taken
abbrev pub added_before : Expr → Act → List Added
added_before e a = holding (told e) ∷ taken a ∷ []

-- behind it the edges are taken
abbrev pub added_behind : List Act → List Added
added_behind acts = map taken acts

-- the forms of a cut
abbrev pub before_cut : List Cell → Expr → Act → Form
before_cut cells e a = form_of cells false (added_before e a)

abbrev pub behind_cut : List Cell → List Act → Form
behind_cut cells acts = form_of cells false (added_behind acts)

-- what the two parts weigh together, or the greatest number of 64 bits where it is more
abbrev pub weight_of : Form → Form → ℕ
weight_of before behind = min (before.weight + behind.weight) (2 ^ 64 - 1)
