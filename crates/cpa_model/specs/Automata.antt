-- Control-flow automata: an edge for each move of the program (CAV 2007, section 2).
use Rattle.std.specs.Prelude.{◌≡◌, ℕ, ◌<◌, List, [], ◌∷◌, slice_get, Some, ◌⊎◌, true, false}
use Rattle.std.specs.List.{AllByRecursion, Contains}
use Rattle.cpa_model.specs.declared.automaton.Act.{Act}
use Rattle.cpa_model.specs.declared.automaton.Act.TheVariants as act
use Rattle.cpa_model.specs.declared.automaton.Edge.{Edge}
use Rattle.cpa_model.specs.declared.automaton.Cfa.{Cfa}
use Rattle.cpa_model.specs.declared.program.Program.{Program}
use Rattle.cpa_model.specs.declared.states.State.{State}
use Rattle.cpa_model.specs.Ascending.{AreAscending}
use Rattle.cpa_model.specs.Programs.{IsWellFormed, point_count}
use Rattle.cpa_model.specs.States.{IsState, initial_at}
use Rattle.cpa_model.specs.Steps.{Moves, StepsStack, StepsStore, IsError}

-- the edge of a move
abbrev pub edge_of : ℕ → Act → ℕ → Edge
edge_of p a q = record { from = p; to = q; act = a }

-- among the edges of one point: a test that holds before one that does not, returns by their sites
abbrev pub rank_of : Act → ℕ
rank_of act.Skip = 0
rank_of (act.Assign base len index value) = 0
rank_of (act.Assume test true) = 0
rank_of (act.Assume test false) = 1
rank_of (act.Input cell) = 0
rank_of (act.Call site) = 0
rank_of (act.Return site) = site

-- one edge comes before another: by the point that it leaves, then by rank
abbrev pub Precedes : Edge → Edge → Type 0
Precedes a b = (a.from < b.from) ⊎ ((a.from ≡ b.from) × (rank_of a.act < rank_of b.act))

-- each edge comes before all later ones
abbrev pub AreOrdered : List Edge → Type 0
AreOrdered [] = Unit {0}
AreOrdered (edge ∷ edges) = AllByRecursion (Precedes edge) edges × AreOrdered edges

-- the automaton of a program: its edges are exactly the moves
pub record IsAutomatonOf (P : Program) (cfa : Cfa) : Type 0 where
  pub cells : cfa.cells ≡ P.cells
  pub points : cfa.points ≡ point_count P
  pub start : slice_get P.bodies P.main ≡ Some cfa.start
  pub text_len : cfa.text_len ≡ P.text_len
  pub moves : (edge : Edge) → Contains cfa.edges edge → Moves P edge.from edge.act edge.to
  pub edges : (p : ℕ) (a : Act) (q : ℕ) → Moves P p a q → Contains cfa.edges (edge_of p a q)
  pub ordered : AreOrdered cfa.edges
  pub inside : AllByRecursion (λ edge. (edge.from < cfa.points) × (edge.to < cfa.points)) cfa.edges
  pub errors : (p : ℕ) → IsError P p → Contains cfa.errors p
  pub only_errors : (p : ℕ) → Contains cfa.errors p → IsError P p
  pub ascending : AreAscending cfa.errors

-- the automaton of some well-formed program
pub record IsAutomaton (cfa : Cfa) : Type 0 where
  pub program : Program
  pub well_formed : IsWellFormed program
  pub automaton : IsAutomatonOf program cfa

-- a state of the automaton's program
abbrev pub IsStateOf : Cfa → State → Type 0
IsStateOf cfa s = IsState cfa.cells cfa.points s

-- its initial state
abbrev pub initial_state : Cfa → State
initial_state cfa = initial_at cfa.cells cfa.start

-- a step from one state of the automaton to another along the edge
pub record StepsAlong (cfa : Cfa) (edge : Edge) (s t : State) : Type 0 where
  pub before : IsStateOf cfa s
  pub after : IsStateOf cfa t
  pub from : s.point ≡ edge.from
  pub to : t.point ≡ edge.to
  pub stack : StepsStack edge.act s.stack t.stack
  pub store : StepsStore cfa.cells edge.act s.store.values t.store.values

-- a step along some edge
abbrev pub EdgeStep : Cfa → State → State → Type 0
EdgeStep cfa s t = (edge : Edge) × Contains cfa.edges edge × StepsAlong cfa edge s t
