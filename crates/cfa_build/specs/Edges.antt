-- Lists of edges and of numbers that are whole up to a point of control (this project's own).
use Rattle.std.specs.Prelude.{◌≡◌, ℕ, ◌<◌, List, [], ◌∷◌, length, slice_get, option_map, unwrap_or}
use Rattle.std.specs.Prelude.{IsSomeAnd}
use Rattle.std.specs.List.{AllByRecursion, Contains}
use Rattle.cpa_model.specs.declared.automaton.Act.{Act}
use Rattle.cpa_model.specs.declared.automaton.Act.TheVariants as act
use Rattle.cpa_model.specs.declared.automaton.Edge.{Edge}
use Rattle.cpa_model.specs.declared.program.Program.{Program}
use Rattle.cpa_model.specs.declared.program.Stmt.TheVariants as stmt
use Rattle.cpa_model.specs.Ascending.{AreAscending}
use Rattle.cpa_model.specs.Automata.{edge_of, AreOrdered}
use Rattle.cpa_model.specs.Programs.{IsStmt}
use Rattle.cpa_model.specs.Steps.{Moves}
use Rattle.cfa_build.specs.declared.edges.Outgoing.{Outgoing}
use Rattle.cfa_build.specs.declared.edges.Outgoing.TheVariants.{Nothing, One, Two}
use Rattle.cfa_build.specs.declared.places.Place.{Place}

-- the numbers below i that have the property, ascending
pub record AreNumbersBelow (Q : ℕ → Type 0) (i : ℕ) (ns : List ℕ) : Type 0 where
  pub only : AllByRecursion (λ n. (n < i) × Q n) ns
  pub all : (n : ℕ) → n < i → Q n → Contains ns n
  pub ascending : AreAscending ns

-- the statement is a call of the function
abbrev pub IsCallOf : Program → ℕ → ℕ → Type 0
IsCallOf P f n = IsStmt P n (stmt.Call f)

-- for each function its calls among the statements below i
pub record AreSitesBelow (P : Program) (i : ℕ) (sites : List (List ℕ)) : Type 0 where
  pub each : length sites ≡ length P.bodies
  pub right : (f : ℕ) → f < length P.bodies
      → IsSomeAnd (slice_get sites f) (AreNumbersBelow (IsCallOf P f) i)

-- all edges from the points below n
pub record AreEdgesBelow (P : Program) (n : ℕ) (edges : List Edge) : Type 0 where
  pub moves : AllByRecursion (λ edge. (edge.from < n) × Moves P edge.from edge.act edge.to) edges
  pub all : (p : ℕ) (a : Act) (q : ℕ) → p < n → Moves P p a q → Contains edges (edge_of p a q)
  pub ordered : AreOrdered edges

-- all edges from the point n
pub record AreEdgesFrom (P : Program) (n : ℕ) (edges : List Edge) : Type 0 where
  pub moves : AllByRecursion (λ edge. (edge.from ≡ n) × Moves P edge.from edge.act edge.to) edges
  pub all : (a : Act) (q : ℕ) → Moves P n a q → Contains edges (edge_of n a q)
  pub ordered : AreOrdered edges

-- the edges in order
abbrev pub edges_in : Outgoing → List Edge
edges_in Nothing = []
edges_in (One edge) = edge ∷ []
edges_in (Two first second) = first ∷ second ∷ []

-- what follows the statement by the table
abbrev pub next_in : List Place → ℕ → ℕ
next_in places n = unwrap_or (option_map (λ place. place.next) (slice_get places n)) 0

-- the edge back from the exit to what follows the call
abbrev pub return_edge : ℕ → List Place → ℕ → Edge
return_edge exit places site = edge_of exit (act.Return site) (next_in places site)
