-- The edges of the automaton of a program are its steps.
use Rattle.std.proofs.Common.{◌≡◌, ℕ, ◌↔◌, refl, sym, ap, ◌∙◌, subst}
use Rattle.std.specs.Prelude.{slice_index}
use Rattle.std.proofs.lemmas.Option.{get_or_from_slice_get}
use Rattle.cpa_model.specs.declared.program.Program.{Program}
use Rattle.cpa_model.specs.declared.automaton.Cfa.{Cfa}
use Rattle.cpa_model.specs.declared.states.State.{State}
use Rattle.cpa_model.specs.Programs.{point_count}
use Rattle.cpa_model.specs.States.{IsState, initial_at, initial_of}
use Rattle.cpa_model.specs.Steps.{Moves, Step, StepsStore}
use Rattle.cpa_model.specs.Automata.{edge_of, IsAutomaton, IsAutomatonOf, IsStateOf, initial_state}
use Rattle.cpa_model.specs.Automata.{StepsAlong, EdgeStep}
use Rattle.cpa_model.proofs.Moves.{initial_is_state_lem}

-- the automaton starts at main's body
pub start_is : (P : Program) (cfa : Cfa) → IsAutomatonOf P cfa
    → cfa.start ≡ slice_index P.bodies P.main
start_is P cfa A = sym (get_or_from_slice_get P.bodies P.main cfa.start 0 A.start)

pub initial_states : (P : Program) (cfa : Cfa) → IsAutomatonOf P cfa
    → initial_state cfa ≡ initial_of P
initial_states P cfa A =
    ap (λ cells. initial_at cells cfa.start) A.cells ∙ ap (initial_at P.cells) (start_is P cfa A)

-- the states of the program are those of its automaton
pub state_of : (P : Program) (cfa : Cfa) → IsAutomatonOf P cfa → (s : State)
    → IsState P.cells (point_count P) s → IsStateOf cfa s
state_of P cfa A s is =
    let cells = subst (λ cells. IsState cells (point_count P) s) (sym A.cells) is in
    subst (λ (points : ℕ). IsState cfa.cells points s) (sym A.points) cells

pub state_back : (P : Program) (cfa : Cfa) → IsAutomatonOf P cfa → (s : State) → IsStateOf cfa s
    → IsState P.cells (point_count P) s
state_back P cfa A s is =
    let cells = subst (λ cells. IsState cells cfa.points s) A.cells is in
    subst (λ (points : ℕ). IsState P.cells points s) A.points cells

edge_step : (P : Program) (cfa : Cfa) → IsAutomatonOf P cfa → (s t : State) → Step P s t
    → EdgeStep cfa s t
edge_step P cfa A s t step =
    let edge = edge_of s.point step.act t.point in
    let along : StepsAlong cfa edge s t = record {
      before = state_of P cfa A s step.before;
      after = state_of P cfa A t step.after;
      from = refl;
      to = refl;
      stack = step.stack;
      store =
          subst (λ cells. StepsStore cells step.act s.store.values t.store.values)
          (sym A.cells) step.store;
    } in
    (edge, A.edges s.point step.act t.point step.point, along)

program_step : (P : Program) (cfa : Cfa) → IsAutomatonOf P cfa → (s t : State) → EdgeStep cfa s t
    → Step P s t
program_step P cfa A s t (edge, inside, along) = record {
  act = edge.act;
  before = state_back P cfa A s along.before;
  after = state_back P cfa A t along.after;
  point =
      let moves = A.moves edge inside in
      let from = subst (λ (p : ℕ). Moves P p edge.act edge.to) (sym along.from) moves in
      subst (λ (q : ℕ). Moves P s.point edge.act q) (sym along.to) from;
  stack = along.stack;
  store =
      subst (λ cells. StepsStore cells edge.act s.store.values t.store.values) A.cells along.store;
}

pub steps_are_edges : (P : Program) (cfa : Cfa) → IsAutomatonOf P cfa → (s t : State)
    → Step P s t ↔ EdgeStep cfa s t
steps_are_edges P cfa A s t = (edge_step P cfa A s t, program_step P cfa A s t)

-- the initial state is one of the automaton
pub begins_in_state : (cfa : Cfa) → IsAutomaton cfa → IsStateOf cfa (initial_state cfa)
begins_in_state cfa automaton =
    let P = automaton.program in
    state_of P cfa automaton.automaton (initial_state cfa)
    (subst (IsState P.cells (point_count P)) (sym (initial_states P cfa automaton.automaton))
    (initial_is_state_lem P automaton.well_formed))
