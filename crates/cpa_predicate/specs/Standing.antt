-- What an element says of a predicate, and which cells an act writes (this project's own).
use Rattle.std.specs.Prelude.{◌≡◌, ℕ, ◌≤◌, ◌<◌, ◌+◌, Bool, List, [], ◌∷◌, Option, None, Some}
use Rattle.std.specs.Prelude.{if◌then◌else◌}
use Rattle.cpa_expr.specs.declared.tree.Expr.{Expr}
use Rattle.cpa_expr.specs.Equality.{same_expr}
use Rattle.cpa_model.specs.declared.automaton.Act.{Act}
use Rattle.cpa_model.specs.declared.automaton.Act.TheVariants.{Assign, Input}
use Rattle.cpa_facts.specs.declared.fact.Fact.{Fact}
use Rattle.cpa_facts.specs.declared.fact.Fact.TheVariants.{Truth}

-- the truth that a fact says of the predicate
abbrev pub said : Expr → Fact → Option Bool
said p (Truth expr holds) = if same_expr expr p then Some holds else None
said p fact = None

-- this one where there is one, and else the other
abbrev pub or_then : Option Bool → Option Bool → Option Bool
or_then None other = other
or_then (Some holds) other = Some holds

-- the first truth that facts say of it
abbrev pub first_said : Expr → List Fact → Option Bool
first_said p [] = None
first_said p (f ∷ facts) = or_then (said p f) (first_said p facts)

-- the act may write the cell
abbrev pub Writes : Act → ℕ → Type 0
Writes (Assign base len index value) cell = (base ≤ cell) × (cell < base + len)
Writes (Input own) cell = cell ≡ own
Writes act cell = ⊥
