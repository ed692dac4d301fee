-- Steps lead from states to states.
use Rattle.std.proofs.Common.{◌≡◌, ℕ, ◌+◌, ◌<◌, List, [], ◌∷◌, ℤ, Some, length, slice_get}
use Rattle.std.proofs.Common.{slice_index, ⊎_elim, refl, sym, ap, subst, arith}
use Rattle.std.specs.Bool.{⊤}
use Rattle.std.specs.List.{AllByRecursion}
use Rattle.std.proofs.lemmas.Option.{slice_get_within, slice_get-get_or}
use Rattle.cpa_model.specs.declared.program.Stmt.{Stmt}
use Rattle.cpa_model.specs.declared.program.Stmt.TheVariants as stmt
use Rattle.cpa_model.specs.declared.program.Program.{Program}
use Rattle.cpa_model.specs.declared.automaton.Act.{Act}
use Rattle.cpa_model.specs.declared.automaton.Act.TheVariants as act
use Rattle.cpa_expr.specs.Shape.{type_of, AreCells}
use Rattle.cpa_expr.specs.Cells.{AreValues}
use Rattle.cpa_model.specs.Expressions.{types_of, IsExpr}
use Rattle.cpa_model.specs.Programs.{IsStmt, IsWellFormed, parts_of, point_count}
use Rattle.cpa_model.specs.Steps.{Moves, MovesAt, at_statement, at_exit, StepsStack, StepsStore}
use Rattle.cpa_model.specs.Steps.{StepsKeepStates, BeginsInState}
use Rattle.cpa_model.specs.lemmas.Lists.{AllByRecursion-push, AllByRecursion-front}
use Rattle.cpa_model.proofs.Stores.{AreValues-set, AreValues-start, by_type, by_types}
use Rattle.cpa_model.proofs.Stores.{expr_in_range}
use Rattle.cpa_model.specs.lemmas.Parts.{part_of_place}
use Rattle.cpa_model.specs.lemmas.Trees.{part_above, body_inside, next_inside, function_inside}
use Rattle.cpa_model.specs.lemmas.Trees.{some_function}

-- a part of a statement is a point
part_inside : (P : Program) → IsWellFormed P → (b k c : ℕ) (s : Stmt) → IsStmt P b s
    → slice_get (parts_of s) k ≡ Some c → c < point_count P
part_inside P W b k c s is at =
    let place = part_of_place b s k c at in
    let h =
    part_above P W.numbered b c (record { stmt = s; is = is; place = place.0; part = place.1 }) in
    omega (arith, h.1)

-- a move from a statement leads to a point
point_after : (P : Program) → IsWellFormed P → (n : ℕ) (s : Stmt) (a : Act) (m : ℕ) → IsStmt P n s
    → MovesAt P n s a m → m < point_count P
point_after P W n (stmt.Block []) a m is move = next_inside P W.numbered n m move.1
point_after P W n (stmt.Block (item ∷ items)) a m is move =
    part_inside P W n 0 m (stmt.Block (item ∷ items)) is (ap Some (sym move.1))
point_after P W n (stmt.If test first second) a m is move =
    ⊎_elim
    (λ yes_branch. part_inside P W n 0 m (stmt.If test first second) is
    (ap Some (sym yes_branch.1)))
    (λ no_branch. part_inside P W n 1 m (stmt.If test first second) is (ap Some (sym no_branch.1)))
    move
point_after P W n (stmt.Loop body step) a m is move =
    part_inside P W n 0 m (stmt.Loop body step) is (ap Some (sym move.1))
point_after P W n (stmt.Assign base len index value) a m is move =
    next_inside P W.numbered n m move.1
point_after P W n (stmt.Input cell) a m is move = next_inside P W.numbered n m move.1
point_after P W n (stmt.Call function) a m is move =
    let h : m < length P.stmts = body_inside P W.numbered function m move.1 in
    omega arith
point_after P W n (stmt.Goto to) a m is move =
    let f = some_function P W.numbered n (slice_get_within P.stmts n (stmt.Goto to) is) in
    let h = W.sound n (stmt.Goto to) is f.0 f.1 in
    omega (arith, h.0, move.1)
point_after P W n stmt.Break a m is move = next_inside P W.numbered move.1 m move.3
point_after P W n stmt.Continue a m is move =
    part_inside P W move.1 1 m (stmt.Loop move.2 m) move.4 refl
point_after P W n stmt.Leave a m is move =
    let h : move.1 < length P.bodies = function_inside P W.numbered move.1 n move.2 in
    omega (arith, move.3)
point_after P W n stmt.Stop a m is move = absurd move
point_after P W n stmt.Error a m is move = absurd move

-- a move leads to a point
move_inside : (P : Program) → IsWellFormed P → (p : ℕ) (a : Act) (q : ℕ) → Moves P p a q
    → q < point_count P
move_inside P W p a q (at_statement s is move) = point_after P W p s a q is move
move_inside P W p a q (at_exit f inside at returns) = next_inside P W.numbered returns.1 q returns.4

-- and from one
pub moves_inside : (P : Program) (p : ℕ) (a : Act) (q : ℕ) → IsWellFormed P → Moves P p a q
    → (p < point_count P) × (q < point_count P)
moves_inside P p a q W (at_statement s is move) =
    let h : p < length P.stmts = slice_get_within P.stmts p s is in
    (omega arith, point_after P W p s a q is move)
moves_inside P p a q W (at_exit f inside at returns) =
    (omega arith, next_inside P W.numbered returns.1 q returns.4)

-- what an act of the program names is there, and the value that it writes has the type of the cell
pub IsSoundAct : Program → Act → Type 0
IsSoundAct P act.Skip = ⊤
IsSoundAct P (act.Assign base len index value) =
    IsExpr P.cells value × AreCells (types_of P.cells) base len (type_of value)
IsSoundAct P (act.Assume test holds) = ⊤
IsSoundAct P (act.Input cell) = ⊤
IsSoundAct P (act.Call site) = site < point_count P
IsSoundAct P (act.Return site) = ⊤

-- the act of a statement is sound
statement_act : (P : Program) → IsWellFormed P → (n : ℕ) (s : Stmt) (a : Act) (m : ℕ) → IsStmt P n s
    → MovesAt P n s a m → IsSoundAct P a
unfolding IsSoundAct
statement_act P W n (stmt.Block []) a m is move = subst (IsSoundAct P) (sym move.0) tt
statement_act P W n (stmt.Block (item ∷ items)) a m is move = subst (IsSoundAct P) (sym move.0) tt
statement_act P W n (stmt.If test first second) a m is move =
    ⊎_elim (λ branch. subst (IsSoundAct P) (sym branch.0) tt)
    (λ branch. subst (IsSoundAct P) (sym branch.0) tt) move
statement_act P W n (stmt.Loop body step) a m is move = subst (IsSoundAct P) (sym move.0) tt
statement_act P W n (stmt.Assign base len index value) a m is move =
    let sound = W.sound n (stmt.Assign base len index value) is in
    subst (IsSoundAct P) (sym move.0) (sound.2, sound.3)
statement_act P W n (stmt.Input cell) a m is move = subst (IsSoundAct P) (sym move.0) tt
statement_act P W n (stmt.Call function) a m is move =
    let h : n < length P.stmts = slice_get_within P.stmts n (stmt.Call function) is in
    subst (IsSoundAct P) (sym move.0) (omega arith)
statement_act P W n (stmt.Goto to) a m is move = subst (IsSoundAct P) (sym move.0) tt
statement_act P W n stmt.Break a m is move = subst (IsSoundAct P) (sym move.0) tt
statement_act P W n stmt.Continue a m is move = subst (IsSoundAct P) (sym move.0) tt
statement_act P W n stmt.Leave a m is move = subst (IsSoundAct P) (sym move.0) tt
statement_act P W n stmt.Stop a m is move = absurd move
statement_act P W n stmt.Error a m is move = absurd move

-- the act of a move is sound
act_sound : (P : Program) → IsWellFormed P → (p : ℕ) (a : Act) (q : ℕ) → Moves P p a q
    → IsSoundAct P a
unfolding IsSoundAct
act_sound P W p a q (at_statement s is move) = statement_act P W p s a q is move
act_sound P W p a q (at_exit f inside at returns) = subst (IsSoundAct P) (sym returns.3) tt

-- each site of the stack is a point
ArePoints : ℕ → List ℕ → Type 0
ArePoints points sites = AllByRecursion (λ site. site < points) sites

-- after a sound act the stack names points
stack_named : (P : Program) (a : Act) (old new : List ℕ) → IsSoundAct P a → StepsStack a old new
    → ArePoints (point_count P) old → ArePoints (point_count P) new
unfolding IsSoundAct ArePoints
stack_named P act.Skip old new sound steps all = subst (ArePoints (point_count P)) (sym steps) all
stack_named P (act.Assign base len index value) old new sound steps all =
    subst (ArePoints (point_count P)) (sym steps) all
stack_named P (act.Assume test holds) old new sound steps all =
    subst (ArePoints (point_count P)) (sym steps) all
stack_named P (act.Input cell) old new sound steps all =
    subst (ArePoints (point_count P)) (sym steps) all
stack_named P (act.Call site) old new sound steps all =
    subst (ArePoints (point_count P)) (sym steps)
    (AllByRecursion-push (λ k. k < point_count P) old site all sound)
stack_named P (act.Return site) old new sound steps all =
    AllByRecursion-front (λ k. k < point_count P) new site
    (subst (ArePoints (point_count P)) steps all)

-- after a sound act the store has a value in range for each cell
store_after : (P : Program) (a : Act) (old new : List ℤ) → IsSoundAct P a
    → StepsStore P.cells a old new → AreValues (types_of P.cells) old
    → AreValues (types_of P.cells) new
unfolding IsSoundAct
store_after P act.Skip old new sound steps are =
    subst (AreValues (types_of P.cells)) (sym steps) are
store_after P (act.Assign base len index value) old new sound steps are =
    let within = expr_in_range P.cells old value steps.written are sound.0 steps.value_is in
    let here =
    by_type (types_of P.cells) (base + steps.place) (type_of value) steps.written
    (sound.1 steps.place steps.inside) within in
    subst (AreValues (types_of P.cells)) (sym steps.after)
    (AreValues-set (types_of P.cells) old (base + steps.place) steps.written are here)
store_after P (act.Assume test holds) old new sound steps are =
    subst (AreValues (types_of P.cells)) (sym steps.1) are
store_after P (act.Input cell) old new sound steps are =
    subst (AreValues (types_of P.cells)) (sym steps.2)
    (AreValues-set (types_of P.cells) old cell steps.0 are (by_types P.cells cell steps.0 steps.1))
store_after P (act.Call site) old new sound steps are =
    subst (AreValues (types_of P.cells)) (sym steps) are
store_after P (act.Return site) old new sound steps are =
    subst (AreValues (types_of P.cells)) (sym steps) are

-- the three parts of a step lead from a state to a state
pub steps_keep_states_lem : (P : Program) → IsWellFormed P → StepsKeepStates P
unfolding ArePoints
steps_keep_states_lem P W s t state steps =
    let sound = act_sound P W s.point steps.act t.point steps.point in
    record {
      point = move_inside P W s.point steps.act t.point steps.point;
      stack = stack_named P steps.act s.stack t.stack sound steps.stack state.stack;
      store = store_after P steps.act s.store.values t.store.values sound steps.store state.store;
    }

-- main's body is a point, and the starts of the cells are values
pub initial_is_state_lem : (P : Program) → IsWellFormed P → BeginsInState P
initial_is_state_lem P W =
    let h : slice_index P.bodies P.main < length P.stmts =
    body_inside P W.numbered P.main (slice_index P.bodies P.main)
    (slice_get-get_or P.bodies P.main 0 W.main) in
    record { point = omega arith; stack = tt; store = AreValues-start P.cells W.starts }
