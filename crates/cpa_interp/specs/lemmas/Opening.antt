-- Of the moves of one point at most one is open in a state, and a move says what input it takes.
use Rattle.std.proofs.Common.{◌≡◌, ℕ, ◌<◌, ◌≤◌, ℤ, pos, List, [], ◌∷◌, ◌++◌, Option, Some, None}
use Rattle.std.proofs.Common.{Bool, true, false, length, get_or, slice_get}
use Rattle.std.proofs.Common.{IsSomeAnd, ⊎_elim, refl, sym, ap, ◌∙◌, subst, arith}
use Rattle.std.proofs.lemmas.Bool.{false≢true}
use Rattle.std.proofs.lemmas.Option.{same_Some, slice_get_within, slice_get_past}
use Rattle.cpa_expr.specs.declared.tree.Expr.{Expr}
use Rattle.cpa_expr.specs.Values.{value_of, is_nonzero}
use Rattle.cpa_model.specs.declared.program.Cell.{Cell}
use Rattle.cpa_model.specs.declared.program.Stmt.{Stmt}
use Rattle.cpa_model.specs.declared.program.Stmt.TheVariants as stmt
use Rattle.cpa_model.specs.declared.program.Program.{Program}
use Rattle.cpa_model.specs.declared.automaton.Act.{Act}
use Rattle.cpa_model.specs.declared.automaton.Act.TheVariants as act
use Rattle.cpa_model.specs.Programs.{IsStmt, IsNumbered, Next, exit_of}
use Rattle.cpa_model.specs.Steps.{Moves, MovesAt, at_statement, at_exit, StepsStack, StepsStore}
use Rattle.cpa_model.specs.lemmas.Trees.{one_next, one_loop, one_function}
use Rattle.cpa_interp.specs.Replays.{input_left}
use Rattle.cpa_interp.specs.Turns.{IsOpen}

-- lists that end in one more are equal only as wholes
pub snoc_not_empty : {X : Type 0} (xs : List X) (x : X) → [] ≡ xs ++ x ∷ [] → ⊥
snoc_not_empty [] x e = cc (e)
snoc_not_empty (y ∷ ys) x e = cc (e)

pub snoc_same : {X : Type 0} (xs ys : List X) (x y : X) → xs ++ x ∷ [] ≡ ys ++ y ∷ []
    → (xs ≡ ys) × (x ≡ y)
snoc_same [] [] x y e = (refl, cc (e))
snoc_same [] (b ∷ ys) x y e =
    let rest : [] ≡ ys ++ y ∷ [] = cc (e) in absurd (snoc_not_empty ys y rest)
snoc_same (a ∷ xs) [] x y e =
    let rest : [] ≡ xs ++ x ∷ [] = cc (e) in absurd (snoc_not_empty xs x rest)
snoc_same (a ∷ xs) (b ∷ ys) x y e =
    let first : a ≡ b = cc (e) in
    let rest : xs ++ x ∷ [] ≡ ys ++ y ∷ [] = cc (e) in
    let same = snoc_same xs ys x y rest in
    (cc (first, same.0), same.1)

-- a test has one truth
pub truth_one : (o : Option ℤ) (w u : Bool) → IsSomeAnd o (λ v. is_nonzero v ≡ w)
    → IsSomeAnd o (λ v. is_nonzero v ≡ u) → w ≡ u
truth_one None w u a b = absurd a
truth_one (Some v) w u a b = sym a ∙ b

-- what a step does to the stack and to the store can be done only where its act is open
pub open_of : (cells : List Cell) (a : Act) (old new : List ℕ) (values others : List ℤ)
    → StepsStack a old new → StepsStore cells a values others → IsOpen a old values
open_of cells act.Skip old new values others stack store = tt
open_of cells (act.Assign base len index value) old new values others stack store = tt
open_of cells (act.Assume test holds) old new values others stack store = store.0
open_of cells (act.Input cell) old new values others stack store = tt
open_of cells (act.Call site) old new values others stack store = tt
open_of cells (act.Return site) old new values others stack store = (new, stack)

pub one_stmt : (P : Program) (n : ℕ) (s t : Stmt) → IsStmt P n s → IsStmt P n t → s ≡ t
one_stmt P n s t e f = same_Some s t (sym e ∙ f)

-- a move from a statement is one of its kind
pub moves_at : (P : Program) (n : ℕ) (s : Stmt) (a : Act) (q : ℕ) → IsStmt P n s → Moves P n a q
    → MovesAt P n s a q
moves_at P n s a q is (at_statement t is_t h) =
    let same : t ≡ s = one_stmt P n t s is_t is in subst (λ (u : Stmt). MovesAt P n u a q) same h
moves_at P n s a q is (at_exit f inside at r) =
    let below : n < length P.stmts = slice_get_within P.stmts n s is in absurd (omega arith)

-- the two ways from a test are not both open
true_and_false : (test : Expr) (stack : List ℕ) (values : List ℤ) (a b : Act)
    → a ≡ act.Assume test true → b ≡ act.Assume test false → IsOpen a stack values
    → IsOpen b stack values → ⊥
true_and_false test stack values a b is not opens other =
    let holds = subst (λ (x : Act). IsOpen x stack values) is opens in
    let fails = subst (λ (x : Act). IsOpen x stack values) not other in
    let same = truth_one (value_of test values) true false holds fails in
    false≢true (sym same)

-- of the moves of a statement at most one is open
alike_open : (P : Program) → IsNumbered P → (n : ℕ) (s : Stmt) (a b : Act) (q r : ℕ)
    (stack : List ℕ) (values : List ℤ) → MovesAt P n s a q → MovesAt P n s b r
    → IsOpen a stack values → IsOpen b stack values → (a ≡ b) × (q ≡ r)
alike_open P N n (stmt.Block []) a b q r stack values x y opens other =
    (x.0 ∙ sym y.0, one_next P N n q r x.1 y.1)
alike_open P N n (stmt.Block (item ∷ items)) a b q r stack values x y opens other =
    (x.0 ∙ sym y.0, x.1 ∙ sym y.1)
alike_open P N n (stmt.If test first second) a b q r stack values x y opens other =
    ⊎_elim
    (λ yes. ⊎_elim
    (λ too. (yes.0 ∙ sym too.0, yes.1 ∙ sym too.1))
    (λ not. absurd (true_and_false test stack values a b yes.0 not.0 opens other))
    y)
    (λ no. ⊎_elim
    (λ yes. absurd (true_and_false test stack values b a yes.0 no.0 other opens))
    (λ too. (no.0 ∙ sym too.0, no.1 ∙ sym too.1))
    y)
    x
alike_open P N n (stmt.Loop body step) a b q r stack values x y opens other =
    (x.0 ∙ sym y.0, x.1 ∙ sym y.1)
alike_open P N n (stmt.Assign base len index value) a b q r stack values x y opens other =
    (x.0 ∙ sym y.0, one_next P N n q r x.1 y.1)
alike_open P N n (stmt.Input cell) a b q r stack values x y opens other =
    (x.0 ∙ sym y.0, one_next P N n q r x.1 y.1)
alike_open P N n (stmt.Call function) a b q r stack values x y opens other =
    (x.0 ∙ sym y.0, same_Some q r (sym x.1 ∙ y.1))
alike_open P N n (stmt.Goto to) a b q r stack values x y opens other =
    (x.0 ∙ sym y.0, x.1 ∙ sym y.1)
alike_open P N n stmt.Break a b q r stack values x y opens other =
    let same : x.1 ≡ y.1 = one_loop P N x.1 y.1 n x.2 y.2 in
    (x.0 ∙ sym y.0, one_next P N x.1 q r x.3 (subst (λ (l : ℕ). Next P l r) (sym same) y.3))
alike_open P N n stmt.Continue a b q r stack values x y opens other =
    let same : x.1 ≡ y.1 = one_loop P N x.1 y.1 n x.3 y.3 in
    let there = subst (λ (l : ℕ). IsStmt P l (stmt.Loop y.2 r)) (sym same) y.4 in
    let loops : stmt.Loop x.2 q ≡ stmt.Loop y.2 r =
    one_stmt P x.1 (stmt.Loop x.2 q) (stmt.Loop y.2 r) x.4 there in
    (x.0 ∙ sym y.0, cc loops)
alike_open P N n stmt.Leave a b q r stack values x y opens other =
    let same : x.1 ≡ y.1 = one_function P N x.1 y.1 n x.2 y.2 in
    (x.0 ∙ sym y.0, x.3 ∙ ap (exit_of P) same ∙ sym y.3)
alike_open P N n stmt.Stop a b q r stack values x y opens other = absurd x
alike_open P N n stmt.Error a b q r stack values x y opens other = absurd x

-- of the moves of one point at most one is open
pub one_open : (P : Program) → IsNumbered P → (p : ℕ) (a b : Act) (q r : ℕ) (stack : List ℕ)
    (values : List ℤ) → Moves P p a q → Moves P p b r → IsOpen a stack values
    → IsOpen b stack values → (a ≡ b) × (q ≡ r)
one_open P N p a b q r stack values (at_statement s is move) other opens too_open =
    alike_open P N p s a b q r stack values move (moves_at P p s b r is other) opens too_open
one_open P N p a b q r stack values (at_exit f inside at x) (at_statement s is move) opens too_open
    =
    let below : p < length P.stmts = slice_get_within P.stmts p s is in absurd (omega arith)
one_open P N p a b q r stack values (at_exit f inside at x) (at_exit g within is y) opens too_open =
    let one = subst (λ (d : Act). IsOpen d stack values) x.3 opens in
    let two = subst (λ (d : Act). IsOpen d stack values) y.3 too_open in
    let same = (snoc_same one.0 two.0 x.1 y.1 (sym one.1 ∙ two.1)).1 in
    let next = subst (λ (site : ℕ). Next P site r) (sym same) y.4 in
    (x.3 ∙ ap act.Return same ∙ sym y.3, one_next P N x.1 q r x.4 next)

-- what an act takes of the inputs, where it leaves these values
abbrev pub input_by : Act → List ℤ → List ℤ
input_by (act.Input cell) values = get_or values cell (pos 0) ∷ []
input_by _ values = []

by_act : (a b : Act) (values : List ℤ) → a ≡ b → input_by b values ≡ [] → [] ≡ input_by a values
by_act a b values e none = sym (ap (λ (x : Act). input_by x values) e ∙ none)

taken_at : (P : Program) (n : ℕ) (s : Stmt) (a : Act) (m : ℕ) (values : List ℤ) → MovesAt P n s a m
    → input_left (Some s) values ≡ input_by a values
taken_at P n (stmt.Block []) a m values x = by_act a act.Skip values x.0 refl
taken_at P n (stmt.Block (item ∷ items)) a m values x = by_act a act.Skip values x.0 refl
taken_at P n (stmt.If test first second) a m values x =
    ⊎_elim (λ yes. by_act a (act.Assume test true) values yes.0 refl)
    (λ no. by_act a (act.Assume test false) values no.0 refl) x
taken_at P n (stmt.Loop body step) a m values x = by_act a act.Skip values x.0 refl
taken_at P n (stmt.Assign base len index value) a m values x =
    by_act a (act.Assign base len index value) values x.0 refl
taken_at P n (stmt.Input cell) a m values x =
    sym (ap (λ (y : Act). input_by y values) x.0)
taken_at P n (stmt.Call function) a m values x = by_act a (act.Call n) values x.0 refl
taken_at P n (stmt.Goto to) a m values x = by_act a act.Skip values x.0 refl
taken_at P n stmt.Break a m values x = by_act a act.Skip values x.0 refl
taken_at P n stmt.Continue a m values x = by_act a act.Skip values x.0 refl
taken_at P n stmt.Leave a m values x = by_act a act.Skip values x.0 refl
taken_at P n stmt.Stop a m values x = absurd x
taken_at P n stmt.Error a m values x = absurd x

-- the input that a step takes is the one of its act
pub taken_by : (P : Program) (p : ℕ) (a : Act) (q : ℕ) (values : List ℤ) → Moves P p a q
    → input_left (slice_get P.stmts p) values ≡ input_by a values
taken_by P p a q values (at_statement s is move) =
    ap (λ (o : Option Stmt). input_left o values) is ∙ taken_at P p s a q values move
taken_by P p a q values (at_exit f inside at x) =
    let past : length P.stmts ≤ p = omega arith in
    ap (λ (o : Option Stmt). input_left o values) (slice_get_past P.stmts p past)
    ∙ by_act a (act.Return x.1) values x.3 refl

input_stmt : (P : Program) (n : ℕ) (s : Stmt) (cell m : ℕ) → MovesAt P n s (act.Input cell) m
    → s ≡ stmt.Input cell
input_stmt P n (stmt.Block []) cell m x = absurd (cc (x.0))
input_stmt P n (stmt.Block (item ∷ items)) cell m x = absurd (cc (x.0))
input_stmt P n (stmt.If test first second) cell m x =
    ⊎_elim (λ yes. absurd (cc (yes.0))) (λ no. absurd (cc (no.0))) x
input_stmt P n (stmt.Loop body step) cell m x = absurd (cc (x.0))
input_stmt P n (stmt.Assign base len index value) cell m x = absurd (cc (x.0))
input_stmt P n (stmt.Input other) cell m x = cc (x.0)
input_stmt P n (stmt.Call function) cell m x = absurd (cc (x.0))
input_stmt P n (stmt.Goto to) cell m x = absurd (cc (x.0))
input_stmt P n stmt.Break cell m x = absurd (cc (x.0))
input_stmt P n stmt.Continue cell m x = absurd (cc (x.0))
input_stmt P n stmt.Leave cell m x = absurd (cc (x.0))
input_stmt P n stmt.Stop cell m x = absurd x
input_stmt P n stmt.Error cell m x = absurd x

-- the statement of an input
pub input_moves : (P : Program) (p cell q : ℕ) → Moves P p (act.Input cell) q
    → IsStmt P p (stmt.Input cell)
input_moves P p cell q (at_statement s is move) = is ∙ ap Some (input_stmt P p s cell q move)
input_moves P p cell q (at_exit f inside at x) = absurd (cc (x.3))
