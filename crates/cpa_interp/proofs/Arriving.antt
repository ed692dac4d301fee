-- What comes of a run of the machine.
use Rattle.std.proofs.Common.{◌≡◌, ℕ, ◌+◌, ◌<◌, ◌≤◌, ℤ, List, [], ◌∷◌, None, length, take}
use Rattle.std.proofs.Common.{drop, true, false, eqb, eqb-true, refl, sym, ap, ◌∙◌, subst, arith}
use Rattle.std.proofs.lemmas.Bool.{false≢true}
use Rattle.std.specs.List.{Contains}
use Rattle.cpa_model.specs.declared.program.Program.{Program}
use Rattle.cpa_model.specs.declared.automaton.Edge.{Edge}
use Rattle.cpa_model.specs.declared.automaton.Cfa.{Cfa}
use Rattle.cpa_model.specs.declared.states.State.{State}
use Rattle.cpa_model.specs.declared.automaton.Act.{Act}
use Rattle.cpa_model.specs.Programs.{IsWellFormed, point_count}
use Rattle.cpa_model.specs.Steps.{Moves, GoesOn}
use Rattle.cpa_model.specs.States.{IsState, initial_of}
use Rattle.cpa_model.specs.lemmas.Lists.{in_list}
use Rattle.cpa_model.specs.Automata.{IsAutomatonOf, IsStateOf, edge_of}
use Rattle.cpa_interp.specs.declared.machine.Machine.{Machine}
use Rattle.cpa_interp.specs.declared.outcome.Outcome.{Outcome}
use Rattle.cpa_interp.specs.declared.outcome.Outcome.TheVariants as outcome
use Rattle.cpa_interp.specs.Replays.{Stage, Arrives, ComesTo, IsHeld, Replay}
use Rattle.cpa_interp.specs.Turns.{state_of, stage_of, Leave, Turns, IsLast}
use Rattle.cpa_interp.specs.lemmas.Going.{goes_error, goes_end, goes_on, moves_go_on}
use Rattle.cpa_interp.specs.lemmas.Outcomes.{arrives_first, arrives_next, first_stage}
use Rattle.cpa_interp.specs.lemmas.Outcomes.{held_comes, stage_goes}

-- an execution comes to where the machine is, after so many steps
abbrev pub IsRun : Program → List ℤ → Machine → ℕ → Type 0
IsRun P inputs m steps = Arrives P inputs (stage_of m inputs steps)

abbrev at_start : List ℤ → State → ℕ → Stage
at_start inputs s k = record {
  steps = 0;
  state = s;
  taken = take k inputs;
  left = drop k inputs;
}

-- a machine in the initial state is at the first stage
pub run_first : (P : Program) (inputs : List ℤ) (m : Machine) → state_of m ≡ initial_of P
    → m.taken ≡ 0 → IsRun P inputs m 0
run_first P inputs m state taken =
    let stage : first_stage P inputs ≡ stage_of m inputs 0 =
    ap (λ (s : State). at_start inputs s 0) (sym state)
    ∙ ap (at_start inputs (state_of m)) (sym taken) in
    subst (Arrives P inputs) stage (arrives_first P inputs)

-- a turn leads to the next stage
pub run_next : (P : Program) (inputs : List ℤ) (old new : Machine) (made : ℕ)
    → IsRun P inputs old made → Turns P inputs old new None → IsRun P inputs new (made + 1)
run_next P inputs old new made run turn =
    subst (λ xs. Arrives P inputs
    (record { steps = made + 1; state = state_of new; taken = xs; left = drop new.taken inputs }))
    (sym turn.2)
    (arrives_next P inputs (stage_of old inputs made) (state_of new) (drop new.taken inputs) run
    turn.0 turn.1)

-- where an edge leaves the point, the program goes on
pub edges_go_on : (P : Program) (cfa : Cfa) → IsAutomatonOf P cfa → (point : ℕ) (edges : List Edge)
    → Leave cfa point edges → (edge : Edge) → Contains edges edge → GoesOn P point
edges_go_on P cfa A point edges leave edge here =
    let at = (leave.each edge).0 here in
    let on = moves_go_on P edge.from edge.act edge.to (A.moves edge at.0) in
    subst (GoesOn P) at.1 on

-- what comes of a replay that is held
pub run_held : (P : Program) (cfa : Cfa) → IsAutomatonOf P cfa → (inputs : List ℤ) (m : Machine)
    (edges : List Edge) → Leave cfa m.point edges → (edge : Edge) → Contains edges edge
    → (budget made : ℕ) → made < budget → IsRun P inputs m made → (held : Outcome)
    → IsHeld P (stage_of m inputs made) held → Replay P inputs budget held
run_held P cfa A inputs m edges leave edge here budget made less run held is = record {
  at = stage_of m inputs made;
  arrives = run;
  within = omega (arith, less);
  comes =
      held_comes P budget (stage_of m inputs made) held
      (edges_go_on P cfa A m.point edges leave edge here) less is;
}

-- no edge leaves the point
nowhere : (P : Program) (cfa : Cfa) → IsAutomatonOf P cfa → (m : Machine) → Leave cfa m.point []
    → (a : Act) (q : ℕ) → Moves P m.point a q → ⊥
nowhere P cfa A m leave a q moves =
    let edge = edge_of m.point a q in
    let none : Contains [] edge = (leave.each edge).1 (A.edges m.point a q moves, refl) in
    omega (arith, none.1)

last_comes : (P : Program) → IsWellFormed P → (cfa : Cfa) → IsAutomatonOf P cfa
    → (inputs : List ℤ) (m : Machine) → Leave cfa m.point [] → (budget made : ℕ)
    → IsRun P inputs m made → (result : Outcome) → IsLast cfa m.point made result
    → ComesTo P budget (stage_of m inputs made) result
last_comes P W cfa A inputs m leave budget made run (outcome.Error n) last =
    (A.only_errors m.point last.0, last.1)
last_comes P W cfa A inputs m leave budget made run outcome.Ended last =
    elim (stage_goes P W inputs (stage_of m inputs made) run) [
      | goes_error is ↦ absurd (last (A.errors m.point is))
      | goes_end is ↦ is
      | goes_on can ↦ absurd (nowhere P cfa A m leave can.act can.to can.moves)
    ]
last_comes P W cfa A inputs m leave budget made run outcome.StepsSpent last = absurd last
last_comes P W cfa A inputs m leave budget made run (outcome.InputsShort p) last = absurd last
last_comes P W cfa A inputs m leave budget made run (outcome.BadInput place) last = absurd last
last_comes P W cfa A inputs m leave budget made run (outcome.Trapped p) last = absurd last

-- what comes where no edge leaves the point
pub run_last : (P : Program) → IsWellFormed P → (cfa : Cfa) → IsAutomatonOf P cfa
    → (inputs : List ℤ) (m : Machine) (edges : List Edge) → edges ≡ [] → Leave cfa m.point edges
    → (budget made : ℕ) → made ≤ budget → IsRun P inputs m made → (result : Outcome)
    → IsLast cfa m.point made result → Replay P inputs budget result
run_last P W cfa A inputs m edges none leave budget made within run result last = record {
  at = stage_of m inputs made;
  arrives = run;
  within = within;
  comes =
      last_comes P W cfa A inputs m (subst (Leave cfa m.point) none leave) budget made run result
      last;
}

-- what comes where the budget is spent
pub run_spent : (P : Program) (cfa : Cfa) → IsAutomatonOf P cfa → (inputs : List ℤ) (m : Machine)
    (edges : List Edge) → Leave cfa m.point edges → (edge : Edge) → Contains edges edge
    → (budget : ℕ) → IsRun P inputs m budget → Replay P inputs budget outcome.StepsSpent
run_spent P cfa A inputs m edges leave edge here budget run = record {
  at = stage_of m inputs budget;
  arrives = run;
  within = omega arith;
  comes = (edges_go_on P cfa A m.point edges leave edge here, refl);
}

-- a test of the length tells the empty list
pub empty_list : (edges : List Edge) → eqb (length edges) 0 ≡ true → edges ≡ []
empty_list [] is = refl
empty_list (edge ∷ edges) is =
    let none : length (edge ∷ edges) ≡ 0 = eqb-true (length (edge ∷ edges)) 0 is in
    absurd (omega (arith, none))

pub first_edge : (edges : List Edge) → eqb (length edges) 0 ≡ false
    → (edge : Edge) × Contains edges edge
first_edge [] is = let same : true ≡ false = is in absurd (false≢true (sym same))
first_edge (edge ∷ edges) is = (edge, in_list (edge ∷ edges) 0 edge refl)

-- the states of the program are those of its automaton
pub automaton_state : (P : Program) (cfa : Cfa) → IsAutomatonOf P cfa → (s : State)
    → IsState P.cells (point_count P) s → IsStateOf cfa s
automaton_state P cfa A s is =
    let cells = subst (λ cells. IsState cells (point_count P) s) (sym A.cells) is in
    subst (λ (points : ℕ). IsState cfa.cells points s) (sym A.points) cells
