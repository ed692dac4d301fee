-- What a turn makes of the machine is a step of the program, or why there is none.
use Rattle.std.proofs.Common.{◌≡◌, ℕ, zero, suc, ◌+◌, ℤ, pos, List, [], ◌∷◌, ◌++◌, Some}
use Rattle.std.proofs.Common.{None, length, take, drop, get_or, slice_get, IsSomeAnd, refl, sym}
use Rattle.std.proofs.Common.{ap, ◌∙◌, subst, arith, Bool, true, false, ⊎_elim}
use Rattle.std.specs.Prelude.{◌⊎◌, if◌then◌else◌}
use Rattle.std.specs.List.{Contains}
use Rattle.std.proofs.lemmas.List.{append-nil, drop_more, take_more, length-take-le}
use Rattle.std.proofs.lemmas.Option.{slice_get_within, get_or_from_slice_get}
use Rattle.std.proofs.lemmas.Option.{none-some}
use Rattle.cpa_ints.specs.Integers.{IsInRange}
use Rattle.cpa_expr.specs.Cells.{AreValues}
use Rattle.cpa_model.specs.declared.program.Cell.{Cell}
use Rattle.cpa_model.specs.declared.program.Stmt.TheVariants as stmt
use Rattle.cpa_model.specs.declared.program.Program.{Program}
use Rattle.cpa_model.specs.declared.automaton.Act.{Act}
use Rattle.cpa_model.specs.declared.automaton.Act.TheVariants as act
use Rattle.cpa_model.specs.declared.automaton.Edge.{Edge}
use Rattle.cpa_model.specs.declared.automaton.Cfa.{Cfa}
use Rattle.cpa_model.specs.declared.states.State.{State}
use Rattle.cpa_model.specs.Expressions.{types_of}
use Rattle.cpa_model.specs.Programs.{IsStmt, IsNumbered, point_count}
use Rattle.cpa_model.specs.Stacks.{stack_after}
use Rattle.cpa_model.specs.States.{IsState}
use Rattle.cpa_model.specs.Steps.{Moves, StepsApart, StepsStack, StepsStore, StepsKeepStates}
use Rattle.cpa_model.specs.Automata.{IsAutomatonOf, IsStateOf, edge_of}
use Rattle.cpa_model.specs.lemmas.Stacks.{stack_after-means, stack_after-whole}
use Rattle.cpa_interp.specs.declared.machine.Machine.{Machine}
use Rattle.cpa_interp.specs.declared.outcome.Outcome.{Outcome}
use Rattle.cpa_interp.specs.declared.outcome.Outcome.TheVariants as outcome
use Rattle.cpa_interp.specs.Replays.{IsHeld}
use Rattle.cpa_interp.specs.Turns.{state_of, stage_of, Leave, IsOpen, Takes, BarsInput, IsBarred}
use Rattle.cpa_interp.specs.Turns.{Turns}
use Rattle.cpa_interp.specs.lemmas.Opening.{input_by, input_moves, one_open, open_of, taken_by}
use Rattle.cpa_interp.specs.lemmas.Choosing.{set_there, step_of, value_there}

-- the states of the automaton are those of its program
pub program_state : (P : Program) (cfa : Cfa) → IsAutomatonOf P cfa → (s : State)
    → IsStateOf cfa s → IsState P.cells (point_count P) s
program_state P cfa A s is =
    let cells = subst (λ cells. IsState cells cfa.points s) A.cells is in
    subst (λ (points : ℕ). IsState P.cells points s) A.points cells

-- the item at a place, and what is behind it
from_place : (xs : List ℤ) (k : ℕ) (x : ℤ) → slice_get xs k ≡ Some x
    → drop k xs ≡ x ∷ drop (k + 1) xs
from_place xs k x at =
    let inside = slice_get_within xs k x at in
    drop_more xs k x inside ∙ ap (λ (y : ℤ). y ∷ drop (k + 1) xs)
    (get_or_from_slice_get xs k x x at)

up_to_place : (xs : List ℤ) (k : ℕ) (x : ℤ) → slice_get xs k ≡ Some x
    → take (k + 1) xs ≡ take k xs ++ x ∷ []
up_to_place xs k x at =
    let inside = slice_get_within xs k x at in
    take_more xs k x inside
    ∙ ap (λ (y : ℤ). take k xs ++ y ∷ []) (get_or_from_slice_get xs k x x at)

-- behind the last place there is nothing
past_end : (xs : List ℤ) (k : ℕ) → slice_get xs k ≡ None → drop k xs ≡ []
past_end [] zero none = refl
past_end [] (suc k) none = refl
past_end (x ∷ xs) zero none = absurd (none-some x (sym none))
past_end (x ∷ xs) (suc k) none = past_end xs k none

-- where no edge is open, no step leads on
pub trapped : (P : Program) (cfa : Cfa) → IsAutomatonOf P cfa → (m : Machine) (edges : List Edge)
    → Leave cfa m.point edges
    → ((e : Edge) → Contains edges e → IsOpen e.act m.calls.items m.store.values → ⊥)
    → (inputs : List ℤ) (steps : ℕ) → IsHeld P (stage_of m inputs steps) (outcome.Trapped m.point)
trapped P cfa A m edges leave none inputs steps = (
  refl,
  λ t step.
      let edge = edge_of m.point step.act t.point in
      let inside = A.edges m.point step.act t.point step.point in
      none edge ((leave.each edge).1 (inside, refl))
      (open_of P.cells step.act m.calls.items t.stack m.store.values t.store.values step.stack
      step.store),
)

-- where the open act cannot be done, the replay is held
input_held : (P : Program) (cells : List Cell) → cells ≡ P.cells → (m : Machine) (cell q : ℕ)
    → Moves P m.point (act.Input cell) q → (inputs : List ℤ) (steps : ℕ) (held : Outcome)
    → BarsInput cells cell inputs m.taken m.point held → IsHeld P (stage_of m inputs steps) held
input_held P cells same m cell q moves inputs steps (outcome.InputsShort p) bars =
    let statement = input_moves P m.point cell q moves in (
      bars.0,
      cell,
      subst (λ (k : ℕ). IsStmt P k (stmt.Input cell)) (sym bars.0) statement,
      past_end inputs m.taken bars.1,
    )
input_held P cells same m cell q moves inputs steps (outcome.BadInput place) bars =
    let inside = slice_get_within inputs m.taken bars.1 bars.2 in
    let len : length (take m.taken inputs) ≡ m.taken =
    length-take-le m.taken inputs (omega (arith, inside)) in (
      bars.0 ∙ sym len,
      cell,
      input_moves P m.point cell q moves,
      bars.1,
      drop (m.taken + 1) inputs,
      from_place inputs m.taken bars.1 bars.2,
      subst (λ cells. IsSomeAnd (slice_get cells cell) (λ c. IsInRange c.ty bars.1) → ⊥) same
          bars.3,
    )
input_held P cells same m cell q moves inputs steps (outcome.Error n) bars = absurd bars
input_held P cells same m cell q moves inputs steps outcome.Ended bars = absurd bars
input_held P cells same m cell q moves inputs steps outcome.StepsSpent bars = absurd bars
input_held P cells same m cell q moves inputs steps (outcome.Trapped p) bars = absurd bars

pub act_held : (P : Program) → IsNumbered P → (cells : List Cell) → cells ≡ P.cells → (m : Machine)
    (a : Act) (q : ℕ) → Moves P m.point a q → (inputs : List ℤ) (steps : ℕ) (held : Outcome)
    → IsBarred cells a inputs m.taken m.store.values m.point held
    → IsHeld P (stage_of m inputs steps) held
act_held P N cells same m (act.Input cell) q moves inputs steps held bars =
    input_held P cells same m cell q moves inputs steps held bars
act_held P N cells same m (act.Assign base len index value) q moves inputs steps held bars =
    let write = act.Assign base len index value in
    let never = subst (λ cells. (new : List ℤ) → StepsStore cells write m.store.values new → ⊥) same
    bars.1 in
    subst (IsHeld P (stage_of m inputs steps)) (sym bars.0) (
      refl,
      λ t step.
          let equal =
          one_open P N m.point step.act write t.point q m.calls.items m.store.values step.point
          moves
          (open_of P.cells step.act m.calls.items t.stack m.store.values t.store.values step.stack
          step.store) tt in
          never t.store.values
          (subst (λ (b : Act). StepsStore P.cells b m.store.values t.store.values) equal.0
          step.store),
    )
act_held P N cells same m act.Skip q moves inputs steps held bars = absurd bars
act_held P N cells same m (act.Assume test holds) q moves inputs steps held bars = absurd bars
act_held P N cells same m (act.Call site) q moves inputs steps held bars = absurd bars
act_held P N cells same m (act.Return site) q moves inputs steps held bars = absurd bars

-- the inputs that an act takes stand between the two places
plain_inputs : (inputs : List ℤ) (from to : ℕ) → to ≡ from
    → (drop from inputs ≡ [] ++ drop to inputs) × (take to inputs ≡ take from inputs ++ [])
plain_inputs inputs from to same = (
  ap (λ (k : ℕ). drop k inputs) (sym same),
  ap (λ (k : ℕ). take k inputs) same ∙ sym (append-nil (take from inputs)),
)

act_inputs : (cells : List Cell) (a : Act) (inputs old new : List ℤ) (from to : ℕ)
    → AreValues (types_of cells) old → StepsStore cells a old new → Takes a inputs old new from to
    → (drop from inputs ≡ input_by a new ++ drop to inputs)
    × (take to inputs ≡ take from inputs ++ input_by a new)
act_inputs cells act.Skip inputs old new from to are store takes = plain_inputs inputs from to takes
act_inputs cells (act.Assign base len index value) inputs old new from to are store takes =
    plain_inputs inputs from to takes
act_inputs cells (act.Assume test holds) inputs old new from to are store takes =
    plain_inputs inputs from to takes
act_inputs cells (act.Call site) inputs old new from to are store takes =
    plain_inputs inputs from to takes
act_inputs cells (act.Return site) inputs old new from to are store takes =
    plain_inputs inputs from to takes
act_inputs cells (act.Input cell) inputs old new from to are store takes =
    let v = takes.0 in
    let inside = value_there cells old cell store.0 are store.1 in
    let is : get_or new cell (pos 0) ≡ v =
    ap (λ values. get_or values cell (pos 0)) takes.2 ∙ set_there old cell v inside in (
      from_place inputs from v takes.1
          ∙ ap (λ (k : ℕ). v ∷ drop k inputs) (sym takes.3)
          ∙ ap (λ (n : ℤ). n ∷ drop to inputs) (sym is),
      ap (λ (k : ℕ). take k inputs) takes.3
          ∙ up_to_place inputs from v takes.1
          ∙ ap (λ (n : ℤ). take from inputs ++ n ∷ []) (sym is),
    )

-- a machine that has done the act and gone on has made a step
pub turned : (P : Program) → StepsKeepStates P → (cells : List Cell) → cells ≡ P.cells
    → (old new : Machine) → IsState P.cells (point_count P) (state_of old) → (a : Act) (q : ℕ)
    → Moves P old.point a q → (inputs : List ℤ) → new.point ≡ q
    → StepsStack a old.calls.items new.calls.items
    → StepsStore cells a old.store.values new.store.values
    → Takes a inputs old.store.values new.store.values old.taken new.taken
    → Turns P inputs old new None
turned P keeps cells same old new is a q moves inputs point stack store takes =
    let there = subst (λ cells. StepsStore cells a old.store.values new.store.values) same store in
    let apart : StepsApart P (state_of old) (state_of new) = record {
      act = a;
      point = subst (λ (k : ℕ). Moves P old.point a k) (sym point) moves;
      stack = stack;
      store = there;
    } in
    let taken = sym (taken_by P old.point a q new.store.values moves) in
    let inputs_are =
    act_inputs P.cells a inputs old.store.values new.store.values old.taken new.taken is.store there
    takes in (
      step_of P keeps (state_of old) (state_of new) is apart,
      inputs_are.0 ∙ ap (λ xs. xs ++ drop new.taken inputs) taken,
      inputs_are.1 ∙ ap (λ xs. take old.taken inputs ++ xs) taken,
    )

-- the move of an edge that leaves the point
pub move_of : (P : Program) (cfa : Cfa) → IsAutomatonOf P cfa → (point : ℕ) (edges : List Edge)
    → Leave cfa point edges → (edge : Edge) → Contains edges edge → Moves P point edge.act edge.to
move_of P cfa A point edges leave edge here =
    let at = (leave.each edge).0 here in
    subst (λ (p : ℕ). Moves P p edge.act edge.to) at.1 (A.moves edge at.0)

-- ---- a call or a return

stack_left : (a : Act) (old new next : List ℕ) (done : Bool) → StepsStack a old next
    → (if done then Some new else None) ≡ stack_after a old → StepsStack a old new
stack_left a old new next true steps is = stack_after-means a old new (sym is)
stack_left a old new next false steps is =
    let left = stack_after-whole a old next steps in
    absurd (cc (is, left))

-- what a call and a return do: they change the stack, and nothing else
abbrev DoesToStack : List Cell → List ℤ → List ℕ → List ℕ → List ℤ → ℕ → Act → Type 0
DoesToStack cells inputs old new values taken a =
    StepsStack a old new × StepsStore cells a values values
    × Takes a inputs values values taken taken

-- and each that is open can do it
pub stack_performed : (cells : List Cell) (a : Act) (inputs : List ℤ) (old new : List ℕ)
    (values : List ℤ) (taken : ℕ) (done : Bool)
    → ((site : ℕ) × (a ≡ act.Call site)) ⊎ ((site : ℕ) × (a ≡ act.Return site))
    → IsOpen a old values → (if done then Some new else None) ≡ stack_after a old
    → DoesToStack cells inputs old new values taken a
stack_performed cells a inputs old new values taken done which opens is =
    ⊎_elim
    (λ (site, at).
    let left = subst (λ (x : Act). (if done then Some new else None) ≡ stack_after x old) at is in
    subst (DoesToStack cells inputs old new values taken) (sym at)
    (stack_left (act.Call site) old new (old ++ site ∷ []) done refl left, refl, refl))
    (λ (site, at).
    let left = subst (λ (x : Act). (if done then Some new else None) ≡ stack_after x old) at is in
    let top = subst (λ (x : Act). IsOpen x old values) at opens in
    subst (DoesToStack cells inputs old new values taken) (sym at)
    (stack_left (act.Return site) old new top.0 done top.1 left, refl, refl))
    which
