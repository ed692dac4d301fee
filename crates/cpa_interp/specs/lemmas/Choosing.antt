-- Two steps from one state that take the same input lead to the same state.
use Rattle.std.proofs.Common.{◌≡◌, ℕ, zero, suc, ◌+◌, ◌<◌, ℤ, pos, List, [], ◌∷◌, Option}
use Rattle.std.proofs.Common.{length, get_or, slice_get, slice_set, IsSomeAnd, refl, sym, ap}
use Rattle.std.proofs.Common.{◌∙◌, subst, arith}
use Rattle.std.proofs.lemmas.Option.{same_Some}
use Rattle.cpa_ints.specs.Integers.{IsInRange}
use Rattle.cpa_expr.specs.Cells.{AreValues}
use Rattle.cpa_expr.specs.Values.{value_of}
use Rattle.cpa_model.specs.declared.program.Cell.{Cell}
use Rattle.cpa_model.specs.declared.program.Program.{Program}
use Rattle.cpa_model.specs.declared.automaton.Act.{Act}
use Rattle.cpa_model.specs.declared.automaton.Act.TheVariants as act
use Rattle.cpa_model.specs.declared.states.State.{State}
use Rattle.cpa_model.specs.Expressions.{types_of}
use Rattle.cpa_model.specs.Programs.{IsNumbered, point_count}
use Rattle.cpa_model.specs.States.{IsState, state_at}
use Rattle.cpa_model.specs.Steps.{Step, StepsApart, StepsStack, StepsStore, StepsKeepStates}
use Rattle.cpa_model.specs.Steps.{Assigns}
use Rattle.cpa_model.specs.lemmas.Stacks.{stack_one}
use Rattle.cpa_interp.specs.Replays.{input_of}
use Rattle.cpa_interp.specs.lemmas.Opening.{input_by, one_open, open_of, taken_by}

-- the parts of a step from a state are a step
pub step_of : (P : Program) → StepsKeepStates P → (s t : State)
    → IsState P.cells (point_count P) s → StepsApart P s t → Step P s t
step_of P keeps s t is apart = record {
  act = apart.act;
  before = is;
  after = keeps s t is apart;
  point = apart.point;
  stack = apart.stack;
  store = apart.store;
}

-- the value written to a cell that is there is its value
pub set_there : (values : List ℤ) (k : ℕ) (v : ℤ) → k < length values
    → get_or (slice_set values k v) k (pos 0) ≡ v
set_there [] k v less = absurd (omega arith)
set_there (w ∷ values) zero v less = refl
set_there (w ∷ values) (suc k) v less = set_there values k v (omega arith)

-- a cell of the program has a value
pub value_there : (cells : List Cell) (values : List ℤ) (k : ℕ) (v : ℤ)
    → AreValues (types_of cells) values → IsSomeAnd (slice_get cells k) (λ c. IsInRange c.ty v)
    → k < length values
value_there [] values k v are here = absurd here
value_there (cell ∷ cells) [] k v are here = absurd are
value_there (cell ∷ cells) (w ∷ values) zero v are here = omega arith
value_there (cell ∷ cells) (w ∷ values) (suc k) v are here =
    let rest = value_there cells values k v are.1 here in omega (arith, rest)

-- what the cell of an input has after it
pub input_is : (cells : List Cell) (old new : List ℤ) (cell : ℕ) (v : ℤ)
    → AreValues (types_of cells) old → IsSomeAnd (slice_get cells cell) (λ c. IsInRange c.ty v)
    → new ≡ slice_set old cell v → input_by (act.Input cell) new ≡ v ∷ []
input_is cells old new cell v are here after =
    let at = ap (λ values. get_or values cell (pos 0)) after in
    ap (λ (n : ℤ). n ∷ []) (at ∙ set_there old cell v (value_there cells old cell v are here))

-- one store after a write
pub assigns_one : (base len : ℕ) (index value : Option ℤ) (old xs ys : List ℤ)
    → Assigns base len index value old xs → Assigns base len index value old ys → xs ≡ ys
assigns_one base len index value old xs ys x y =
    let at = same_Some (pos x.place) (pos y.place) (sym x.index_is ∙ y.index_is) in
    let place : x.place ≡ y.place = cc (at) in
    let written = same_Some x.written y.written (sym x.value_is ∙ y.value_is) in
    x.after ∙ ap (λ (k : ℕ). slice_set old (base + k) x.written) place
    ∙ ap (slice_set old (base + y.place)) written ∙ sym y.after

-- one store after an act that takes this input
store_one : (cells : List Cell) (a : Act) (old xs ys : List ℤ) → AreValues (types_of cells) old
    → StepsStore cells a old xs → StepsStore cells a old ys → input_by a xs ≡ input_by a ys
    → xs ≡ ys
store_one cells act.Skip old xs ys are x y same = x ∙ sym y
store_one cells (act.Assign base len index value) old xs ys are x y same =
    assigns_one base len (value_of index old) (value_of value old) old xs ys x y
store_one cells (act.Assume test holds) old xs ys are x y same = x.1 ∙ sym y.1
store_one cells (act.Input cell) old xs ys are x y same =
    let one = input_is cells old xs cell x.0 are x.1 x.2 in
    let two = input_is cells old ys cell y.0 are y.1 y.2 in
    let lists : x.0 ∷ [] ≡ y.0 ∷ [] = sym one ∙ same ∙ two in
    let value : x.0 ≡ y.0 = cc (lists) in
    x.2 ∙ ap (slice_set old cell) value ∙ sym y.2
store_one cells (act.Call site) old xs ys are x y same = x ∙ sym y
store_one cells (act.Return site) old xs ys are x y same = x ∙ sym y

-- two steps from one state do the same act and lead to the same point
pub same_move : (P : Program) → IsNumbered P → (s t u : State) (x : Step P s t) (y : Step P s u)
    → (x.act ≡ y.act) × (t.point ≡ u.point)
same_move P N s t u x y =
    one_open P N s.point x.act y.act t.point u.point s.stack s.store.values x.point y.point
    (open_of P.cells x.act s.stack t.stack s.store.values t.store.values x.stack x.store)
    (open_of P.cells y.act s.stack u.stack s.store.values u.store.values y.stack y.store)

pub same_state : (P : Program) → IsNumbered P → (s t u : State) → Step P s t → Step P s u
    → input_of P s t ≡ input_of P s u → t ≡ u
same_state P N s t u x y taken =
    let same = same_move P N s t u x y in
    let stack = subst (λ (a : Act). StepsStack a s.stack u.stack) (sym same.0) y.stack in
    let store =
    subst (λ (a : Act). StepsStore P.cells a s.store.values u.store.values) (sym same.0) y.store in
    let inputs =
    sym (taken_by P s.point x.act t.point t.store.values x.point) ∙ taken
    ∙ taken_by P s.point y.act u.point u.store.values y.point
    ∙ ap (λ (a : Act). input_by a u.store.values) (sym same.0) in
    let stacks = stack_one x.act s.stack t.stack u.stack x.stack stack in
    let stores =
    store_one P.cells x.act s.store.values t.store.values u.store.values x.before.store x.store
    store inputs in
    ap (λ (p : ℕ). state_at p t.stack t.store.values) same.1
    ∙ ap (λ calls. state_at u.point calls t.store.values) stacks
    ∙ ap (λ values. state_at u.point u.stack values) stores
