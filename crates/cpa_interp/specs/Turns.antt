-- One turn of the machine: how it stands for a stage, and what an edge makes of it (this project's
-- own).
use Rattle.std.specs.Prelude.{◌≡◌, ℕ, ◌+◌, ℤ, List, [], ◌∷◌, ◌++◌, Option, Some, None, Bool}
use Rattle.std.specs.Prelude.{slice_get, slice_set, take, drop, ◌↔◌, ⊤, IsSomeAnd}
use Rattle.std.specs.List.{Contains}
use Rattle.cpa_ints.specs.Integers.{IsInRange}
use Rattle.cpa_expr.specs.declared.tree.Expr.{Expr}
use Rattle.cpa_expr.specs.Values.{HasTruth}
use Rattle.cpa_model.specs.declared.program.Cell.{Cell}
use Rattle.cpa_model.specs.declared.program.Program.{Program}
use Rattle.cpa_model.specs.declared.automaton.Act.{Act}
use Rattle.cpa_model.specs.declared.automaton.Act.TheVariants as act
use Rattle.cpa_model.specs.declared.automaton.Edge.{Edge}
use Rattle.cpa_model.specs.declared.automaton.Cfa.{Cfa}
use Rattle.cpa_model.specs.declared.states.State.{State}
use Rattle.cpa_model.specs.Steps.{Step, StepsStack, StepsStore}
use Rattle.cpa_model.specs.Automata.{AreOrdered}
use Rattle.cpa_interp.specs.declared.machine.Machine.{Machine}
use Rattle.cpa_interp.specs.declared.outcome.Outcome.{Outcome}
use Rattle.cpa_interp.specs.declared.outcome.Outcome.TheVariants as outcome
use Rattle.cpa_interp.specs.Replays.{Stage, IsHeld, input_of}

-- the state that the machine is in
abbrev pub state_of : Machine → State
state_of m = record { point = m.point; stack = m.calls.items; store = m.store }

-- the stage of a machine that has made so many steps
abbrev pub stage_of : Machine → List ℤ → ℕ → Stage
stage_of m inputs steps = record {
  steps = steps;
  state = state_of m;
  taken = take m.taken inputs;
  left = drop m.taken inputs;
}

-- the edges that leave the point, in the order of the automaton
pub record Leave (cfa : Cfa) (point : ℕ) (edges : List Edge) : Type 0 where
  pub each : (edge : Edge) → Contains edges edge ↔ (Contains cfa.edges edge × (edge.from ≡ point))
  pub ordered : AreOrdered edges

-- edges of one point: where one is a test all are this test, where one is a return all are returns
pub record AreAlike (edges : List Edge) : Type 0 where
  pub ordered : AreOrdered edges
  pub from : (a b : Edge) → Contains edges a → Contains edges b → a.from ≡ b.from
  pub tests : (a b : Edge) (test : Expr) (holds : Bool) → Contains edges a → Contains edges b
      → a.act ≡ act.Assume test holds → (other : Bool) × (b.act ≡ act.Assume test other)
  pub returns : (a b : Edge) (site : ℕ) → Contains edges a → Contains edges b
      → a.act ≡ act.Return site → (other : ℕ) × (b.act ≡ act.Return other)

-- the test holds as the edge says; the call to return to is on top
abbrev pub IsOpen : Act → List ℕ → List ℤ → Type 0
IsOpen (act.Assume test holds) calls values = HasTruth values test holds
IsOpen (act.Return site) calls values = (below : List ℕ) × (calls ≡ below ++ site ∷ [])
IsOpen _ calls values = ⊤

-- all these edges are ways from the test
abbrev pub AreWaysOf : Expr → List Edge → Type 0
AreWaysOf test edges =
    (e : Edge) → Contains edges e → (holds : Bool) × (e.act ≡ act.Assume test holds)

-- the act is the way from the test that its truth opens
abbrev pub IsWay : Expr → Act → List ℤ → Type 0
IsWay test a values = (holds : Bool) × (a ≡ act.Assume test holds) × HasTruth values test holds

-- what an act takes of the inputs from this place on, where it leaves these values
abbrev pub Takes : Act → List ℤ → List ℤ → List ℤ → ℕ → ℕ → Type 0
Takes (act.Input cell) inputs old values from to =
    (v : ℤ) × (slice_get inputs from ≡ Some v) × (values ≡ slice_set old cell v) × (to ≡ from + 1)
Takes _ inputs old values from to = to ≡ from

-- why the cell cannot be given the next input: none is there, or it is no value of the cell's type
abbrev pub BarsInput : List Cell → ℕ → List ℤ → ℕ → ℕ → Outcome → Type 0
BarsInput cells cell inputs from point (outcome.InputsShort p) =
    (p ≡ point) × (slice_get inputs from ≡ None)
BarsInput cells cell inputs from point (outcome.BadInput place) =
    (place ≡ from) × (next : ℤ) × (slice_get inputs from ≡ Some next)
    × (IsSomeAnd (slice_get cells cell) (λ c. IsInRange c.ty next) → ⊥)
BarsInput cells cell inputs from point _ = ⊥

-- why the act cannot be done from this point with the inputs from this place on
abbrev pub IsBarred : List Cell → Act → List ℤ → ℕ → List ℤ → ℕ → Outcome → Type 0
IsBarred cells (act.Input cell) inputs from values point held =
    BarsInput cells cell inputs from point held
IsBarred cells (act.Assign base len index value) inputs from values point held =
    (held ≡ outcome.Trapped point)
    × ((new : List ℤ) → StepsStore cells (act.Assign base len index value) values new → ⊥)
IsBarred _ _ _ _ _ _ _ = ⊥

-- the machine has done the act, or the outcome says why it could not
abbrev pub Performs : List Cell → Act → List ℤ → Machine → Machine → Option Outcome → Type 0
Performs cells a inputs old new None =
    (new.point ≡ old.point) × StepsStack a old.calls.items new.calls.items
    × StepsStore cells a old.store.values new.store.values
    × Takes a inputs old.store.values new.store.values old.taken new.taken
Performs cells a inputs old new (Some held) =
    IsBarred cells a inputs old.taken old.store.values old.point held

-- One turn: a step that takes the next input if it takes one, or why there is none.
abbrev pub Turns : Program → List ℤ → Machine → Machine → Option Outcome → Type 0
Turns P inputs old new None =
    Step P (state_of old) (state_of new)
    × (drop old.taken inputs
    ≡ input_of P (state_of old) (state_of new) ++ drop new.taken inputs)
    × (take new.taken inputs
    ≡ take old.taken inputs ++ input_of P (state_of old) (state_of new))
Turns P inputs old new (Some held) = (steps : ℕ) → IsHeld P (stage_of old inputs steps) held

-- what is answered after so many steps where no edge leaves the point
abbrev pub IsLast : Cfa → ℕ → ℕ → Outcome → Type 0
IsLast cfa point steps (outcome.Error n) = Contains cfa.errors point × (n ≡ steps)
IsLast cfa point steps outcome.Ended = Contains cfa.errors point → ⊥
IsLast cfa point steps _ = ⊥
