-- Of a well-formed program, the inputs and the budget give exactly one outcome.
use Rattle.std.proofs.Common.{◌≡◌, ℕ, zero, suc, ◌+◌, ◌<◌, ◌≤◌, ℤ, pos, negsuc, List, [], ◌∷◌, ◌++◌}
use Rattle.std.proofs.Common.{Option, Some, None, Bool, true, false, length, slice_get, slice_set}
use Rattle.std.proofs.Common.{◌⊎◌, IsSomeAnd, inl, inr, ⊎_elim, refl, sym, ap, ◌∙◌, subst, arith}
use Rattle.std.proofs.Common.{append_assoc}
use Rattle.std.specs.Int.Signed.{clash_ℤ}
use Rattle.std.proofs.lemmas.Bool.{cases_lt}
use Rattle.std.proofs.lemmas.Int.{by_lt_z}
use Rattle.std.proofs.lemmas.List.{append_cancel_left, append-nil}
use Rattle.std.proofs.lemmas.Option.{none-some, same_Some, slice_get_within}
use Rattle.cpa_ints.specs.declared.integers.IntType.{IntType}
use Rattle.cpa_ints.specs.Integers.{IsInRange, least, greatest}
use Rattle.cpa_ints.specs.lemmas.WrapLaws.{zero_within}
use Rattle.cpa_expr.specs.declared.tree.Expr.{Expr}
use Rattle.cpa_expr.specs.Values.{value_of, is_nonzero, HasTruth}
use Rattle.cpa_model.specs.declared.program.Cell.{Cell}
use Rattle.cpa_model.specs.declared.program.Stmt.{Stmt}
use Rattle.cpa_model.specs.declared.program.Stmt.TheVariants as stmt
use Rattle.cpa_model.specs.declared.program.Program.{Program}
use Rattle.cpa_model.specs.declared.automaton.Act.{Act}
use Rattle.cpa_model.specs.declared.automaton.Act.TheVariants as act
use Rattle.cpa_model.specs.declared.states.State.{State}
use Rattle.cpa_model.specs.Programs.{IsStmt, IsNumbered, IsWellFormed, point_count}
use Rattle.cpa_model.specs.States.{IsState, initial_of, state_at}
use Rattle.cpa_model.specs.Steps.{Moves, MovesAt, at_statement, at_exit, Step, StepsApart}
use Rattle.cpa_model.specs.Steps.{StepsStore, StepsKeepStates, BeginsInState, Assigns, IsChain}
use Rattle.cpa_model.specs.Steps.{IsError, IsEnd, GoesOn, IsExecution, CallsError}
use Rattle.cpa_model.specs.lemmas.Trees.{some_next}
use Rattle.cpa_interp.specs.declared.outcome.Outcome.{Outcome}
use Rattle.cpa_interp.specs.declared.outcome.Outcome.TheVariants as outcome
use Rattle.cpa_interp.specs.Replays.{input_left, input_of, inputs_of, last_of}
use Rattle.cpa_interp.specs.Replays.{IsInputFor, Stage, Arrives, IsHeld, ComesTo, Replay}
use Rattle.cpa_interp.specs.Turns.{IsOpen}
use Rattle.cpa_interp.specs.lemmas.Opening.{input_by, input_moves, moves_at, one_stmt, one_open}
use Rattle.cpa_interp.specs.lemmas.Opening.{open_of, taken_by}
use Rattle.cpa_interp.specs.lemmas.Calling.{Fits, fits_along, fits_first}
use Rattle.cpa_interp.specs.lemmas.Going.{Goes, goes, goes_error, goes_end, goes_on, IsOnTop}
use Rattle.cpa_interp.specs.lemmas.Going.{moves_go_on}
use Rattle.cpa_interp.specs.lemmas.Choosing.{input_is, same_state, step_of}

-- Executions, one step longer.

chain_more : (P : Program) (s t : State) (states : List State) → IsChain (Step P) s states
    → Step P (last_of s states) t → IsChain (Step P) s (states ++ t ∷ [])
chain_more P s t [] chain step = (step, tt)
chain_more P s t (u ∷ states) chain step = (chain.0, chain_more P u t states chain.1 step)

last_more : (s t : State) (states : List State) → last_of s (states ++ t ∷ []) ≡ t
last_more s t [] = refl
last_more s t (u ∷ states) = last_more u t states

inputs_more : (P : Program) (s t : State) (states : List State)
    → inputs_of P s (states ++ t ∷ []) ≡ inputs_of P s states ++ input_of P (last_of s states) t
inputs_more P s t [] = append-nil (input_of P s t)
inputs_more P s t (u ∷ states) =
    ap (λ xs. input_of P s u ++ xs) (inputs_more P u t states)
    ∙ sym (append_assoc (input_of P s u) (inputs_of P u states) (input_of P (last_of u states) t))

length_more : (states : List State) (t : State) → length (states ++ t ∷ []) ≡ length states + 1
length_more [] t = refl
length_more (u ∷ states) t = let rest = length_more states t in omega (arith, rest)

-- no step is made, and no input is taken
abbrev pub first_stage : Program → List ℤ → Stage
first_stage P inputs = record { steps = 0; state = initial_of P; taken = []; left = inputs }

pub arrives_first : (P : Program) (inputs : List ℤ) → Arrives P inputs (first_stage P inputs)
arrives_first P inputs = record {
  states = [];
  execution = (refl, tt);
  steps = refl;
  state = refl;
  taken = refl;
  in_order = refl;
}

-- the stage after one more step
abbrev pub next_stage : Program → Stage → State → List ℤ → Stage
next_stage P at t left = record {
  steps = at.steps + 1;
  state = t;
  taken = at.taken ++ input_of P at.state t;
  left = left;
}

pub arrives_next : (P : Program) (inputs : List ℤ) (at : Stage) (t : State) (left : List ℤ)
    → Arrives P inputs at → Step P at.state t → at.left ≡ input_of P at.state t ++ left
    → Arrives P inputs (next_stage P at t left)
arrives_next P inputs at t left there step takes =
    let first = initial_of P in
    let along = subst (λ (s : State). Step P s t) there.state step in
    record {
      states = there.states ++ t ∷ [];
      execution = (refl, chain_more P first t there.states there.execution.1 along);
      steps = ap (λ (n : ℕ). n + 1) there.steps ∙ sym (length_more there.states t);
      state = sym (last_more first t there.states);
      taken =
          ap (λ xs. xs ++ input_of P at.state t) there.taken
          ∙ ap (λ (s : State). inputs_of P first there.states ++ input_of P s t) there.state
          ∙ sym (inputs_more P first t there.states);
      in_order =
          there.in_order ∙ ap (λ xs. at.taken ++ xs) takes
          ∙ sym (append_assoc at.taken (input_of P at.state t) left);
    }

-- an execution comes to states
last_state : (P : Program) (s : State) (states : List State) → IsState P.cells (point_count P) s
    → IsChain (Step P) s states → IsState P.cells (point_count P) (last_of s states)
last_state P s [] is chain = is
last_state P s (t ∷ states) is chain = last_state P t states chain.0.after chain.1

pub stage_is_state : (P : Program) → BeginsInState P → (inputs : List ℤ) (at : Stage)
    → Arrives P inputs at → IsState P.cells (point_count P) at.state
stage_is_state P begins inputs at there =
    subst (λ (s : State). IsState P.cells (point_count P) s) (sym there.state)
    (last_state P (initial_of P) there.states begins there.execution.1)

pub stage_goes : (P : Program) → IsWellFormed P → (inputs : List ℤ) (at : Stage)
    → Arrives P inputs at → Goes P at.state.point at.state.stack
stage_goes P W inputs at there =
    let fits = fits_along P W (initial_of P) there.states there.execution.1 (fits_first P W) in
    goes P W at.state.point at.state.stack
    (subst (λ (s : State). Fits P s.point s.stack) (sym there.state) fits)

-- One outcome at most.

-- the error and the end are apart
error_or_end : (P : Program) (p : ℕ) → IsError P p → IsEnd P p → ⊥
error_or_end P p error end =
    ⊎_elim
    (λ is. let same = one_stmt P p stmt.Error stmt.Stop error is in cc (same))
    (λ at. let inside = slice_get_within P.stmts p stmt.Error error in omega (arith, inside, at))
    end

-- a step from an input takes a value of its cell
takes_value : (P : Program) (s t : State) (cell : ℕ) → IsStmt P s.point (stmt.Input cell)
    → Step P s t → (v : ℤ) × (input_of P s t ≡ v ∷ []) × IsInputFor P cell v
takes_value P s t cell is step =
    let move = moves_at P s.point (stmt.Input cell) step.act t.point is step.point in
    let store =
    subst (λ (a : Act). StepsStore P.cells a s.store.values t.store.values) move.0 step.store in
    let left = input_is P.cells s.store.values t.store.values cell store.0 step.before.store store.1
    store.2 in (
      store.0,
      taken_by P s.point step.act t.point t.store.values step.point
          ∙ ap (λ (a : Act). input_by a t.store.values) move.0 ∙ left,
      store.1,
    )

-- where a replay is held, no step takes the next input
not_held : (P : Program) (at : Stage) (held : Outcome) (t : State) (left : List ℤ)
    → IsHeld P at held → Step P at.state t → at.left ≡ input_of P at.state t ++ left → ⊥
not_held P at (outcome.InputsShort p) t left held step takes =
    let is = subst (λ (k : ℕ). IsStmt P k (stmt.Input held.1)) held.0 held.2 in
    let value = takes_value P at.state t held.1 is step in
    let e : [] ≡ value.0 ∷ left = sym held.3 ∙ takes ∙ ap (λ xs. xs ++ left) value.1 in
    cc (e)
not_held P at (outcome.BadInput place) t left held step takes =
    let value = takes_value P at.state t held.1 held.2 step in
    let e : held.3 ∷ held.4 ≡ value.0 ∷ left =
    sym held.5 ∙ takes ∙ ap (λ xs. xs ++ left) value.1 in
    let same : value.0 ≡ held.3 = cc (e) in
    held.6 (subst (λ (n : ℤ). IsInputFor P held.1 n) same value.2)
not_held P at (outcome.Trapped p) t left held step takes = held.1 t step
not_held P at (outcome.Error steps) t left held step takes = absurd held
not_held P at outcome.Ended t left held step takes = absurd held
not_held P at outcome.StepsSpent t left held step takes = absurd held

-- where an outcome comes, no step is made
no_more : (P : Program) (budget : ℕ) (at : Stage) (result : Outcome) (t : State) (left : List ℤ)
    → ComesTo P budget at result → at.steps < budget → Step P at.state t
    → at.left ≡ input_of P at.state t ++ left → ⊥
no_more P budget at (outcome.Error steps) t left comes less step takes =
    (moves_go_on P at.state.point step.act t.point step.point).no_error comes.0
no_more P budget at outcome.Ended t left comes less step takes =
    (moves_go_on P at.state.point step.act t.point step.point).no_end comes
no_more P budget at outcome.StepsSpent t left comes less step takes = omega (arith, comes.1, less)
no_more P budget at (outcome.InputsShort p) t left comes less step takes =
    not_held P at (outcome.InputsShort p) t left comes.2 step takes
no_more P budget at (outcome.BadInput place) t left comes less step takes =
    not_held P at (outcome.BadInput place) t left comes.2 step takes
no_more P budget at (outcome.Trapped p) t left comes less step takes =
    not_held P at (outcome.Trapped p) t left comes.2 step takes

-- some value of a cell that is there
some_value : (cells : List Cell) (k : ℕ) → k < length cells
    → (v : ℤ) × IsSomeAnd (slice_get cells k) (λ c. IsInRange c.ty v)
some_value [] k less = absurd (omega arith)
some_value (cell ∷ cells) zero less = (pos 0, zero_within cell.ty)
some_value (cell ∷ cells) (suc k) less = some_value cells k (omega arith)

-- the step that gives the cell this value
input_step : (P : Program) → IsWellFormed P → StepsKeepStates P → (s : State) (cell q : ℕ) (v : ℤ)
    → IsState P.cells (point_count P) s → Moves P s.point (act.Input cell) q → IsInputFor P cell v
    → Step P s (state_at q s.stack (slice_set s.store.values cell v))
input_step P W keeps s cell q v is moves here =
    step_of P keeps s (state_at q s.stack (slice_set s.store.values cell v)) is
    (record { act = act.Input cell; point = moves; stack = refl; store = (v, here, refl) })

-- a step leads on from an input
input_goes : (P : Program) → IsWellFormed P → StepsKeepStates P → (s : State) (cell : ℕ)
    → IsState P.cells (point_count P) s → IsStmt P s.point (stmt.Input cell)
    → ((t : State) → Step P s t → ⊥) → ⊥
input_goes P W keeps s cell is at none =
    let next = some_next P W.numbered s.point
    (slice_get_within P.stmts s.point (stmt.Input cell) at) in
    let value = some_value P.cells cell (W.sound s.point (stmt.Input cell) at) in
    none (state_at next.0 s.stack (slice_set s.store.values cell value.0))
    (input_step P W keeps s cell next.0 value.0 is
    (at_statement (stmt.Input cell) at (refl, next.1)) value.1)

same_cell : (P : Program) (n a b : ℕ) → IsStmt P n (stmt.Input a) → IsStmt P n (stmt.Input b)
    → a ≡ b
same_cell P n a b x y = let same = one_stmt P n (stmt.Input a) (stmt.Input b) x y in cc (same)

-- what holds a replay up is one
one_held : (P : Program) → IsWellFormed P → StepsKeepStates P → (at : Stage)
    → IsState P.cells (point_count P) at.state → (a b : Outcome) → IsHeld P at a → IsHeld P at b
    → a ≡ b
one_held P W keeps at is (outcome.InputsShort p) (outcome.InputsShort q) x y =
    ap outcome.InputsShort (x.0 ∙ sym y.0)
one_held P W keeps at is (outcome.InputsShort p) (outcome.BadInput place) x y =
    let e : [] ≡ y.3 ∷ y.4 = sym x.3 ∙ y.5 in absurd (cc (e))
one_held P W keeps at is (outcome.InputsShort p) (outcome.Trapped q) x y =
    absurd (input_goes P W keeps at.state x.1 is
    (subst (λ (k : ℕ). IsStmt P k (stmt.Input x.1)) x.0 x.2) y.1)
one_held P W keeps at is (outcome.BadInput place) (outcome.InputsShort q) x y =
    let e : [] ≡ x.3 ∷ x.4 = sym y.3 ∙ x.5 in absurd (cc (e))
one_held P W keeps at is (outcome.BadInput place) (outcome.BadInput other) x y =
    ap outcome.BadInput (x.0 ∙ sym y.0)
one_held P W keeps at is (outcome.BadInput place) (outcome.Trapped q) x y =
    absurd (input_goes P W keeps at.state x.1 is x.2 y.1)
one_held P W keeps at is (outcome.Trapped p) (outcome.InputsShort q) x y =
    absurd (input_goes P W keeps at.state y.1 is
    (subst (λ (k : ℕ). IsStmt P k (stmt.Input y.1)) y.0 y.2) x.1)
one_held P W keeps at is (outcome.Trapped p) (outcome.BadInput place) x y =
    absurd (input_goes P W keeps at.state y.1 is y.2 x.1)
one_held P W keeps at is (outcome.Trapped p) (outcome.Trapped q) x y =
    ap outcome.Trapped (x.0 ∙ sym y.0)
one_held P W keeps at is (outcome.Error n) b x y = absurd x
one_held P W keeps at is outcome.Ended b x y = absurd x
one_held P W keeps at is outcome.StepsSpent b x y = absurd x
one_held P W keeps at is (outcome.InputsShort p) b x y = absurd y
one_held P W keeps at is (outcome.BadInput place) b x y = absurd y
one_held P W keeps at is (outcome.Trapped p) b x y = absurd y

-- what comes at a stage is one
one_at : (P : Program) → IsWellFormed P → StepsKeepStates P → (budget : ℕ) (at : Stage)
    → IsState P.cells (point_count P) at.state → (a b : Outcome) → ComesTo P budget at a
    → ComesTo P budget at b → a ≡ b
one_at P W keeps budget at is (outcome.Error m) (outcome.Error n) x y =
    ap outcome.Error (x.1 ∙ sym y.1)
one_at P W keeps budget at is (outcome.Error m) outcome.Ended x y =
    absurd (error_or_end P at.state.point x.0 y)
one_at P W keeps budget at is (outcome.Error m) b x y = absurd (y.0.no_error x.0)
one_at P W keeps budget at is outcome.Ended (outcome.Error n) x y =
    absurd (error_or_end P at.state.point y.0 x)
one_at P W keeps budget at is outcome.Ended outcome.Ended x y = refl
one_at P W keeps budget at is outcome.Ended b x y = absurd (y.0.no_end x)
one_at P W keeps budget at is a (outcome.Error n) x y = absurd (x.0.no_error y.0)
one_at P W keeps budget at is a outcome.Ended x y = absurd (x.0.no_end y)
one_at P W keeps budget at is outcome.StepsSpent outcome.StepsSpent x y = refl
one_at P W keeps budget at is outcome.StepsSpent b x y = absurd (omega (arith, x.1, y.1))
one_at P W keeps budget at is a outcome.StepsSpent x y = absurd (omega (arith, x.1, y.1))
one_at P W keeps budget at is a b x y = one_held P W keeps at is a b x.2 y.2

-- the inputs of two steps, where they begin the same list
same_heads : (o : Option Stmt) (xs ys ls ms : List ℤ)
    → input_left o xs ++ ls ≡ input_left o ys ++ ms
    → (input_left o xs ≡ input_left o ys) × (ls ≡ ms)
same_heads None xs ys ls ms e = (refl, e)
same_heads (Some (stmt.Input cell)) xs ys ls ms e = (cc (e), cc (e))
same_heads (Some s) xs ys ls ms e = (refl, e)

-- the stage where an execution from s ends that has made n steps before
pub record Ends (s : State) (n : ℕ) (states : List State) (end : Stage) : Type 0 where
  pub state : end.state ≡ last_of s states
  pub steps : end.steps ≡ n + length states

-- an execution that has come to an outcome is not the front of a longer one
not_longer : (P : Program) (budget n : ℕ) (s t : State) (states : List State) (end last : Stage)
    (result : Outcome) (left : List ℤ) → Ends s n [] end → Ends s n (t ∷ states) last
    → last.steps ≤ budget → ComesTo P budget end result → Step P s t
    → end.left ≡ input_of P s t ++ left → ⊥
not_longer P budget n s t states end last result left here there within comes step takes =
    let along = subst (λ (k : State). Step P k t) (sym here.state) step in
    let taken = takes ∙ ap (λ (k : State). input_of P k t ++ left) (sym here.state) in
    let one = here.steps in
    let two = there.steps in
    no_more P budget end result t left comes (omega (arith, one, two, within)) along taken

-- two executions with the same inputs that both come to an outcome are one
one_way : (P : Program) → IsNumbered P → (budget n : ℕ) (s : State) (xs ys : List State)
    (x y : Stage) (a b : Outcome) → IsChain (Step P) s xs → IsChain (Step P) s ys
    → inputs_of P s xs ++ x.left ≡ inputs_of P s ys ++ y.left → Ends s n xs x → Ends s n ys y
    → x.steps ≤ budget → y.steps ≤ budget → ComesTo P budget x a → ComesTo P budget y b → xs ≡ ys
one_way P N budget n s [] [] x y a b one two lists end_x end_y in_x in_y at_x at_y = refl
one_way P N budget n s [] (t ∷ ys) x y a b one two lists end_x end_y in_x in_y at_x at_y =
    absurd (not_longer P budget n s t ys x y a (inputs_of P t ys ++ y.left) end_x end_y in_y at_x
    two.0 (lists ∙ append_assoc (input_of P s t) (inputs_of P t ys) y.left))
one_way P N budget n s (t ∷ xs) [] x y a b one two lists end_x end_y in_x in_y at_x at_y =
    absurd (not_longer P budget n s t xs y x b (inputs_of P t xs ++ x.left) end_y end_x in_x at_y
    one.0 (sym lists ∙ append_assoc (input_of P s t) (inputs_of P t xs) x.left))
one_way P N budget n s (t ∷ xs) (u ∷ ys) x y a b one two lists end_x end_y in_x in_y at_x at_y =
    let split =
    sym (append_assoc (input_of P s t) (inputs_of P t xs) x.left) ∙ lists
    ∙ append_assoc (input_of P s u) (inputs_of P u ys) y.left in
    let heads =
    same_heads (slice_get P.stmts s.point) t.store.values u.store.values
    (inputs_of P t xs ++ x.left) (inputs_of P u ys ++ y.left) split in
    let same = same_state P N s t u one.0 two.0 heads.0 in
    let steps_x = end_x.steps in
    let steps_y = end_y.steps in
    let rest =
    one_way P N budget (n + 1) t xs ys x y a b one.1
    (subst (λ (k : State). IsChain (Step P) k ys) (sym same) two.1)
    (heads.1 ∙ ap (λ (k : State). inputs_of P k ys ++ y.left) (sym same))
    (record { state = end_x.state; steps = omega (arith, steps_x) })
    (record {
      state = end_y.state ∙ ap (λ (k : State). last_of k ys) (sym same);
      steps = omega (arith, steps_y);
    })
    in_x in_y at_x at_y in
    cc (same, rest)

abbrev stage : ℕ → State → List ℤ → List ℤ → Stage
stage steps state taken left = record { steps = steps; state = state; taken = taken; left = left }

-- the stage after these states is one
same_stage : (P : Program) (inputs : List ℤ) (x y : Stage) (a : Arrives P inputs x)
    (b : Arrives P inputs y) → a.states ≡ b.states → x ≡ y
same_stage P inputs x y a b same =
    let first = initial_of P in
    let steps : x.steps ≡ y.steps = a.steps ∙ ap length same ∙ sym b.steps in
    let state : x.state ≡ y.state = a.state ∙ ap (last_of first) same ∙ sym b.state in
    let taken : x.taken ≡ y.taken = a.taken ∙ ap (inputs_of P first) same ∙ sym b.taken in
    let lists = ap (λ xs. xs ++ x.left) (sym taken) ∙ sym a.in_order ∙ b.in_order in
    let left : x.left ≡ y.left = append_cancel_left y.taken x.left y.left lists in
    ap (λ (n : ℕ). stage n x.state x.taken x.left) steps
    ∙ ap (λ (s : State). stage y.steps s x.taken x.left) state
    ∙ ap (λ xs. stage y.steps y.state xs x.left) taken
    ∙ ap (stage y.steps y.state y.taken) left

pub one_outcome : (P : Program) → IsWellFormed P → StepsKeepStates P → BeginsInState P
    → (inputs : List ℤ) (budget : ℕ) (a b : Outcome) → Replay P inputs budget a
    → Replay P inputs budget b → a ≡ b
one_outcome P W keeps begins inputs budget a b x y =
    let one = x.arrives in
    let two = y.arrives in
    let first = initial_of P in
    let steps_one = one.steps in
    let steps_two = two.steps in
    let lists =
    ap (λ xs. xs ++ x.at.left) (sym one.taken) ∙ sym one.in_order ∙ two.in_order
    ∙ ap (λ xs. xs ++ y.at.left) two.taken in
    let same =
    one_way P W.numbered budget 0 first one.states two.states x.at y.at a b one.execution.1
    two.execution.1 lists (record { state = one.state; steps = omega (arith, steps_one) })
    (record { state = two.state; steps = omega (arith, steps_two) }) x.within y.within x.comes
    y.comes in
    let at = same_stage P inputs x.at y.at one two same in
    one_at P W keeps budget x.at (stage_is_state P begins inputs x.at one) a b x.comes
    (subst (λ (s : Stage). ComesTo P budget s b) (sym at) y.comes)

-- One outcome at least.

-- a step with the next input, or why there is none
pub data Tries : Program → Stage → Type 0 where
  tries_step : {P : Program} {at : Stage} (t : State) (left : List ℤ) → Step P at.state t
      → at.left ≡ input_of P at.state t ++ left → Tries P at
  tries_held : {P : Program} {at : Stage} (held : Outcome) → IsHeld P at held → Tries P at

-- what holds a replay up comes of it
pub held_comes : (P : Program) (budget : ℕ) (at : Stage) (held : Outcome)
    → GoesOn P at.state.point → at.steps < budget → IsHeld P at held → ComesTo P budget at held
held_comes P budget at (outcome.InputsShort p) on less held = (on, less, held)
held_comes P budget at (outcome.BadInput place) on less held = (on, less, held)
held_comes P budget at (outcome.Trapped p) on less held = (on, less, held)
held_comes P budget at (outcome.Error n) on less held = absurd held
held_comes P budget at outcome.Ended on less held = absurd held
held_comes P budget at outcome.StepsSpent on less held = absurd held

-- a step that takes no input
plain_step : (P : Program) → StepsKeepStates P → (at : Stage) (t : State) → StepsApart P at.state t
    → IsState P.cells (point_count P) at.state → (a : Act) (q : ℕ) → Moves P at.state.point a q
    → input_by a t.store.values ≡ [] → Tries P at
plain_step P keeps at t apart is a q moves none =
    let taken = taken_by P at.state.point a q t.store.values moves ∙ none in
    tries_step t at.left (step_of P keeps at.state t is apart)
    (sym (ap (λ xs. xs ++ at.left) taken))

-- no step leads on where the opens move cannot be done
barred : (P : Program) → IsNumbered P → (at : Stage) (a : Act) (q : ℕ)
    → Moves P at.state.point a q → IsOpen a at.state.stack at.state.store.values
    → ((new : List ℤ) → StepsStore P.cells a at.state.store.values new → ⊥) → Tries P at
barred P N at a q moves opens never =
    tries_held (outcome.Trapped at.state.point) (
      refl,
      λ t step.
          let s = at.state in
          let same =
          one_open P N s.point step.act a t.point q s.stack s.store.values step.point moves
          (open_of P.cells step.act s.stack t.stack s.store.values t.store.values step.stack
          step.store)
          opens in
          never t.store.values
          (subst (λ (b : Act). StepsStore P.cells b s.store.values t.store.values) same.0
          step.store),
    )

-- a write can be done or not
can_write : (base len : ℕ) (index value : Option ℤ) (old : List ℤ)
    → ((new : List ℤ) × Assigns base len index value old new)
    ⊎ ((new : List ℤ) → Assigns base len index value old new → ⊥)
can_write base len None value old = inr (λ new w. none-some (pos w.place) w.index_is)
can_write base len (Some (negsuc k)) value old =
    inr (λ new w. let same = same_Some (negsuc k) (pos w.place) w.index_is in cc (same))
can_write base len (Some (pos i)) None old = inr (λ new w. none-some w.written w.value_is)
can_write base len (Some (pos i)) (Some v) old =
    ⊎_elim
    (λ less. inl (
      slice_set old (base + i) v,
      record
          { place = i; written = v; index_is = refl; value_is = refl; inside = less; after = refl },
    ))
    (λ more. inr (λ new w.
    let same = same_Some (pos i) (pos w.place) w.index_is in
    let place : i ≡ w.place = cc (same) in
    let inside = w.inside in
    omega (arith, inside)))
    (cases_lt i len)

-- the ways from a test are the same test
test_ways : (P : Program) (n : ℕ) (s : Stmt) (test : Expr) (holds : Bool) (q : ℕ)
    → MovesAt P n s (act.Assume test holds) q
    → (first second : ℕ) × (s ≡ stmt.If test first second)
test_ways P n (stmt.If e first second) test holds q x =
    ⊎_elim (λ yes. let same : test ≡ e = cc (yes.0) in (first, second, cc (same)))
    (λ no. let same : test ≡ e = cc (no.0) in (first, second, cc (same))) x
test_ways P n (stmt.Block []) test holds q x = absurd (cc (x.0))
test_ways P n (stmt.Block (item ∷ items)) test holds q x = absurd (cc (x.0))
test_ways P n (stmt.Loop body step) test holds q x = absurd (cc (x.0))
test_ways P n (stmt.Assign base len index value) test holds q x = absurd (cc (x.0))
test_ways P n (stmt.Input cell) test holds q x = absurd (cc (x.0))
test_ways P n (stmt.Call function) test holds q x = absurd (cc (x.0))
test_ways P n (stmt.Goto to) test holds q x = absurd (cc (x.0))
test_ways P n stmt.Break test holds q x = absurd (cc (x.0))
test_ways P n stmt.Continue test holds q x = absurd (cc (x.0))
test_ways P n stmt.Leave test holds q x = absurd (cc (x.0))
test_ways P n stmt.Stop test holds q x = absurd x
test_ways P n stmt.Error test holds q x = absurd x

pub test_statement : (P : Program) (p : ℕ) (test : Expr) (holds : Bool) (q : ℕ)
    → Moves P p (act.Assume test holds) q
    → (first second : ℕ) × IsStmt P p (stmt.If test first second)
test_statement P p test holds q (at_statement s is move) =
    let ways = test_ways P p s test holds q move in (ways.0, ways.1, is ∙ ap Some ways.2)
test_statement P p test holds q (at_exit f inside at x) = absurd (cc (x.3))

-- any other move of a point with a test is this test
pub tests_alike : (P : Program) (p : ℕ) (test : Expr) (holds : Bool) (q : ℕ) (b : Act) (r : ℕ)
    → Moves P p (act.Assume test holds) q → Moves P p b r
    → (other : Bool) × (b ≡ act.Assume test other)
tests_alike P p test holds q b r moves others =
    let at = test_statement P p test holds q moves in
    ⊎_elim (λ yes. (true, yes.0)) (λ no. (false, no.0))
    (moves_at P p (stmt.If test at.0 at.1) b r at.2 others)

-- the way from a test that has this truth
way_of : (P : Program) (p : ℕ) (test : Expr) (first second : ℕ)
    → IsStmt P p (stmt.If test first second) → (wanted : Bool)
    → (q : ℕ) × Moves P p (act.Assume test wanted) q
way_of P p test first second is true =
    (first, at_statement (stmt.If test first second) is (inl (refl, refl)))
way_of P p test first second is false =
    (second, at_statement (stmt.If test first second) is (inr (refl, refl)))

-- a test that traps leads nowhere, one with a value leads on
try_test : (P : Program) → StepsKeepStates P → (at : Stage)
    → IsState P.cells (point_count P) at.state
    → (test : Expr) (holds : Bool) (q : ℕ) → Moves P at.state.point (act.Assume test holds) q
    → (o : Option ℤ) → value_of test at.state.store.values ≡ o → Tries P at
try_test P keeps at is test holds q moves None traps =
    tries_held (outcome.Trapped at.state.point) (
      refl,
      λ t step.
          let s = at.state in
          let other = tests_alike P s.point test holds q step.act t.point moves step.point in
          let store =
          subst (λ (a : Act). StepsStore P.cells a s.store.values t.store.values) other.1
          step.store in
          subst (λ (o : Option ℤ). IsSomeAnd o (λ v. is_nonzero v ≡ other.0)) traps store.0,
    )
try_test P keeps at is test holds q moves (Some v) has =
    let s = at.state in
    let statement = test_statement P s.point test holds q moves in
    let way =
    way_of P s.point test statement.0 statement.1 statement.2 (is_nonzero v) in
    let truth : HasTruth s.store.values test (is_nonzero v) =
    subst (λ (o : Option ℤ). IsSomeAnd o (λ n. is_nonzero n ≡ is_nonzero v)) (sym has) refl in
    plain_step P keeps at (state_at way.0 s.stack s.store.values)
    (record {
      act = act.Assume test (is_nonzero v);
      point = way.1;
      stack = refl;
      store = (truth, refl);
    }) is (act.Assume test (is_nonzero v)) way.0 way.1 refl

-- a number is in the range of a type or not
in_range_or : (t : IntType) (n : ℤ) → IsInRange t n ⊎ (IsInRange t n → ⊥)
in_range_or t n =
    by_lt_z n (least t)
    (λ below. inr (λ is. clash_ℤ below is.0))
    (λ from. by_lt_z (greatest t) n
    (λ above. inr (λ is. clash_ℤ above is.1))
    (λ upto. inl (from, upto)))

input_or : (o : Option Cell) (n : ℤ)
    → IsSomeAnd o (λ c. IsInRange c.ty n) ⊎ (IsSomeAnd o (λ c. IsInRange c.ty n) → ⊥)
input_or None n = inr (λ none. absurd none)
input_or (Some c) n = in_range_or c.ty n

try_input : (P : Program) → IsWellFormed P → StepsKeepStates P → (at : Stage)
    → IsState P.cells (point_count P) at.state → (cell q : ℕ)
    → Moves P at.state.point (act.Input cell) q → (left : List ℤ) → at.left ≡ left → Tries P at
try_input P W keeps at is cell q moves [] left =
    let statement = input_moves P at.state.point cell q moves in
    tries_held (outcome.InputsShort at.state.point) (refl, cell, statement, left)
try_input P W keeps at is cell q moves (n ∷ rest) left =
    let s = at.state in
    let statement = input_moves P s.point cell q moves in
    ⊎_elim
    (λ here.
    let t = state_at q s.stack (slice_set s.store.values cell n) in
    let taken =
    taken_by P s.point (act.Input cell) q t.store.values moves
    ∙ input_is P.cells s.store.values t.store.values cell n is.store here refl in
    tries_step t rest (input_step P W keeps s cell q n is moves here)
    (left ∙ sym (ap (λ xs. xs ++ rest) taken)))
    (λ bad. tries_held (outcome.BadInput (length at.taken))
    (refl, cell, statement, n, rest, left, bad))
    (input_or (slice_get P.cells cell) n)

try_act : (P : Program) → IsWellFormed P → StepsKeepStates P → (at : Stage)
    → IsState P.cells (point_count P) at.state → (a : Act) (q : ℕ) → Moves P at.state.point a q
    → IsOnTop a at.state.stack → Tries P at
try_act P W keeps at is act.Skip q moves top =
    plain_step P keeps at (state_at q at.state.stack at.state.store.values)
    (record { act = act.Skip; point = moves; stack = refl; store = refl }) is act.Skip q moves refl
try_act P W keeps at is (act.Assign base len index value) q moves top =
    let s = at.state in
    ⊎_elim
    (λ can. plain_step P keeps at (state_at q s.stack can.0)
    (record { act = act.Assign base len index value; point = moves; stack = refl; store = can.1 })
    is (act.Assign base len index value) q moves refl)
    (λ never. barred P W.numbered at (act.Assign base len index value) q moves tt never)
    (can_write base len (value_of index s.store.values) (value_of value s.store.values)
    s.store.values)
try_act P W keeps at is (act.Assume test holds) q moves top =
    try_test P keeps at is test holds q moves (value_of test at.state.store.values) refl
try_act P W keeps at is (act.Input cell) q moves top =
    try_input P W keeps at is cell q moves at.left refl
try_act P W keeps at is (act.Call site) q moves top =
    let s = at.state in
    plain_step P keeps at (state_at q (s.stack ++ site ∷ []) s.store.values)
    (record { act = act.Call site; point = moves; stack = refl; store = refl }) is (act.Call site) q
    moves refl
try_act P W keeps at is (act.Return site) q moves top =
    let s = at.state in
    plain_step P keeps at (state_at q top.0 s.store.values)
    (record { act = act.Return site; point = moves; stack = top.1; store = refl }) is
    (act.Return site) q moves refl

-- what comes at a stage comes of the replay
outcome_at : (P : Program) (inputs : List ℤ) (budget : ℕ) (at : Stage) → Arrives P inputs at
    → at.steps ≤ budget → (result : Outcome) → ComesTo P budget at result
    → (result : Outcome) × Replay P inputs budget result
outcome_at P inputs budget at there within result comes =
    (result, record { at = at; arrives = there; within = within; comes = comes })

-- what comes of a replay that has so many steps left
outcome_from : (P : Program) → IsWellFormed P → StepsKeepStates P → BeginsInState P
    → (inputs : List ℤ) (budget fuel : ℕ) (at : Stage) → Arrives P inputs at
    → at.steps + fuel ≡ budget → (result : Outcome) × Replay P inputs budget result
outcome_from P W keeps begins inputs budget zero at there spent =
    let within : at.steps ≤ budget = omega (arith, spent) in
    elim (stage_goes P W inputs at there) [
      | goes_error is ↦ outcome_at P inputs budget at there within (outcome.Error at.steps)
          (is, refl)
      | goes_end is ↦ outcome_at P inputs budget at there within outcome.Ended is
      | goes_on can ↦ outcome_at P inputs budget at there within outcome.StepsSpent
          (moves_go_on P at.state.point can.act can.to can.moves, omega (arith, spent))
    ]
outcome_from P W keeps begins inputs budget (suc fuel) at there spent =
    let within : at.steps ≤ budget = omega (arith, spent) in
    let less : at.steps < budget = omega (arith, spent) in
    elim (stage_goes P W inputs at there) [
      | goes_error is ↦ outcome_at P inputs budget at there within (outcome.Error at.steps)
          (is, refl)
      | goes_end is ↦ outcome_at P inputs budget at there within outcome.Ended is
      | goes_on can ↦
          elim (try_act P W keeps at (stage_is_state P begins inputs at there) can.act can.to
          can.moves can.top) [
            | tries_step t left step takes ↦
                outcome_from P W keeps begins inputs budget fuel (next_stage P at t left)
                (arrives_next P inputs at t left there step takes) (omega (arith, spent))
            | tries_held held is ↦ outcome_at P inputs budget at there within held
                (held_comes P budget at held (moves_go_on P at.state.point can.act can.to can.moves)
                less is)
          ]
    ]

pub some_outcome : (P : Program) → IsWellFormed P → StepsKeepStates P → BeginsInState P
    → (inputs : List ℤ) (budget : ℕ) → (result : Outcome) × Replay P inputs budget result
some_outcome P W keeps begins inputs budget =
    outcome_from P W keeps begins inputs budget budget (first_stage P inputs)
    (arrives_first P inputs) (omega arith)

-- where an execution ends at an error, it calls the error
calls_at_end : (P : Program) (s : State) (states : List State)
    → IsError P (last_of s states).point → CallsError P (s ∷ states)
calls_at_end P s [] is = inl is
calls_at_end P s (t ∷ states) is = inr (calls_at_end P t states is)

pub error_is_called : (P : Program) (inputs : List ℤ) (budget steps : ℕ)
    → Replay P inputs budget (outcome.Error steps)
    → (states : List State) × IsExecution P states × CallsError P states
error_is_called P inputs budget steps replay =
    let there = replay.arrives in (
      initial_of P ∷ there.states,
      there.execution,
      calls_at_end P (initial_of P) there.states
          (subst (λ (s : State). IsError P s.point) there.state replay.comes.0),
    )
