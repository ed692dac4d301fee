-- The edges from a statement are its moves, kind by kind.
use Rattle.std.proofs.Common.{◌≡◌, ℕ, ◌<◌, true, false, List, [], ◌∷◌, length, Option, Some, None}
use Rattle.std.proofs.Common.{refl, sym, ap, ◌∙◌, subst, inl, inr, ⊎_elim, arith, lit<, IfSome}
use Rattle.std.proofs.Common.{IsSomeAnd, map, option_to_list}
use Rattle.std.specs.List.{slice_get}
use Rattle.std.proofs.lemmas.Option.{same_Some, none-some, slice_get_within}
use Rattle.cpa_model.specs.declared.automaton.Act.{Act}
use Rattle.cpa_model.specs.declared.automaton.Act.TheVariants as act
use Rattle.cpa_model.specs.declared.automaton.Edge.{Edge}
use Rattle.cpa_expr.specs.declared.tree.Expr.{Expr}
use Rattle.cpa_model.specs.declared.program.Stmt.{Stmt}
use Rattle.cpa_model.specs.declared.program.Stmt.TheVariants as stmt
use Rattle.cpa_model.specs.declared.program.Program.{Program}
use Rattle.cpa_model.specs.Automata.{edge_of}
use Rattle.cpa_model.specs.Programs.{IsStmt, IsBody, exit_of, Next, InLoop, InFunction}
use Rattle.cpa_model.specs.Steps.{Moves, MovesAt, at_statement, at_exit}
use Rattle.cpa_model.specs.TreeLaws.{TreeLaws}
use Rattle.cfa_build.specs.declared.places.Place.{Place}
use Rattle.cfa_build.specs.Places.{IsPlace, ArePlaces}
use Rattle.cfa_build.specs.Edges.{AreEdgesFrom}

one_stmt : (P : Program) (n : ℕ) (s t : Stmt) → IsStmt P n s → IsStmt P n t → s ≡ t
one_stmt P n s t e f = same_Some s t (sym e ∙ f)

-- a move from a statement is one of its kind
moves_at : (P : Program) (n : ℕ) (s : Stmt) (a : Act) (q : ℕ) → IsStmt P n s → Moves P n a q
    → MovesAt P n s a q
moves_at P n s a q is (at_statement t is_t h) =
    let same : t ≡ s = one_stmt P n t s is_t is in subst (λ (u : Stmt). MovesAt P n u a q) same h
moves_at P n s a q is (at_exit f inside at r) =
    let below : n < length P.stmts = slice_get_within P.stmts n s is in absurd (omega arith)

-- no move
pub none_from : (P : Program) (n : ℕ) (s : Stmt) → IsStmt P n s
    → ((a : Act) (q : ℕ) → MovesAt P n s a q → ⊥) → AreEdgesFrom P n []
none_from P n s is never = record {
  moves = tt;
  all = λ a q h. absurd (never a q (moves_at P n s a q is h));
  ordered = tt;
}

-- one move
pub one_from : (P : Program) (n : ℕ) (s : Stmt) (a : Act) (q : ℕ) → IsStmt P n s → MovesAt P n s a q
    → ((b : Act) (m : ℕ) → MovesAt P n s b m → (b ≡ a) × (m ≡ q))
    → AreEdgesFrom P n (edge_of n a q ∷ [])
one_from P n s a q is move only = record {
  moves = ((refl, at_statement s is move), tt);
  all = λ b m h.
      let same : (b ≡ a) × (m ≡ q) = only b m (moves_at P n s b m is h) in (
        0,
        lit< tt,
        (let e : edge_of n a q ≡ edge_of n b m = ap (λ c. edge_of n c q) (sym same.0)
            ∙ ap (edge_of n b) (sym same.1) in e),
      );
  ordered = (tt, tt);
}

pub from_block : (P : Program) → TreeLaws P → (n next : ℕ) → IsStmt P n (stmt.Block [])
    → Next P n next → AreEdgesFrom P n (edge_of n act.Skip next ∷ [])
from_block P T n next is h =
    one_from P n (stmt.Block []) act.Skip next is (refl, h)
    (λ b m move. (move.0, T.one_next n m next move.1 h))

pub from_items : (P : Program) (n item : ℕ) (items : List ℕ)
    → IsStmt P n (stmt.Block (item ∷ items)) → AreEdgesFrom P n (edge_of n act.Skip item ∷ [])
from_items P n item items is =
    one_from P n (stmt.Block (item ∷ items)) act.Skip item is (refl, refl) (λ b m move. move)

pub from_if : (P : Program) (n : ℕ) (test : Expr) (first second : ℕ)
    → IsStmt P n (stmt.If test first second)
    → AreEdgesFrom P n (edge_of n (act.Assume test true) first
    ∷ edge_of n (act.Assume test false) second ∷ [])
from_if P n test first second is = record {
  moves = (
    (refl, at_statement (stmt.If test first second) is (inl (refl, refl))),
    ((refl, at_statement (stmt.If test first second) is (inr (refl, refl))), tt),
  );
  all = λ a q h. ⊎_elim
      (λ move. (
        0,
        lit< tt,
        (let e : edge_of n (act.Assume test true) first
            ≡ edge_of n a q =
            ap (λ c. edge_of n c first) (sym move.0) ∙ ap (edge_of n a) (sym move.1) in
            e),
      ))
      (λ move. (
        1,
        lit< tt,
        (let e : edge_of n (act.Assume test false) second
            ≡ edge_of n a q =
            ap (λ c. edge_of n c second) (sym move.0) ∙ ap (edge_of n a) (sym move.1) in
            e),
      ))
      (moves_at P n (stmt.If test first second) a q is h);
  ordered = ((inr (refl, lit< tt), tt), (tt, tt));
}

pub from_loop : (P : Program) (n body step : ℕ) → IsStmt P n (stmt.Loop body step)
    → AreEdgesFrom P n (edge_of n act.Skip body ∷ [])
from_loop P n body step is =
    one_from P n (stmt.Loop body step) act.Skip body is (refl, refl) (λ b m move. move)

pub from_assign : (P : Program) → TreeLaws P → (n base len : ℕ) (index value : Expr) (next : ℕ)
    → IsStmt P n (stmt.Assign base len index value) → Next P n next
    → AreEdgesFrom P n (edge_of n (act.Assign base len index value) next ∷ [])
from_assign P T n base len index value next is h =
    one_from P n (stmt.Assign base len index value) (act.Assign base len index value) next is
    (refl, h) (λ b m move. (move.0, T.one_next n m next move.1 h))

pub from_input : (P : Program) → TreeLaws P → (n cell next : ℕ) → IsStmt P n (stmt.Input cell)
    → Next P n next → AreEdgesFrom P n (edge_of n (act.Input cell) next ∷ [])
from_input P T n cell next is h =
    one_from P n (stmt.Input cell) (act.Input cell) next is (refl, h)
    (λ b m move. (move.0, T.one_next n m next move.1 h))

pub from_call : (P : Program) (n function body : ℕ) → IsStmt P n (stmt.Call function)
    → IsBody P function body → AreEdgesFrom P n (edge_of n (act.Call n) body ∷ [])
from_call P n function body is h =
    one_from P n (stmt.Call function) (act.Call n) body is (refl, h)
    (λ b m move. (move.0, same_Some m body (sym move.1 ∙ h)))

pub from_goto : (P : Program) (n to : ℕ) → IsStmt P n (stmt.Goto to)
    → AreEdgesFrom P n (edge_of n act.Skip to ∷ [])
from_goto P n to is = one_from P n (stmt.Goto to) act.Skip to is (refl, refl) (λ b m move. move)

pub from_leave : (P : Program) → TreeLaws P → (n f : ℕ) → IsStmt P n stmt.Leave → InFunction P f n
    → AreEdgesFrom P n (edge_of n act.Skip (exit_of P f) ∷ [])
from_leave P T n f is h =
    one_from P n stmt.Leave act.Skip (exit_of P f) is (refl, f, h, refl)
    (λ b m move. (move.0, move.3 ∙ ap (exit_of P) (T.one_function move.1 f n move.2 h)))

pub from_stop : (P : Program) (n : ℕ) → IsStmt P n stmt.Stop → AreEdgesFrom P n []
from_stop P n is = none_from P n stmt.Stop is (λ a q h. h)

pub from_error : (P : Program) (n : ℕ) → IsStmt P n stmt.Error → AreEdgesFrom P n []
from_error P n is = none_from P n stmt.Error is (λ a q h. h)

-- the nearest loop that the place names
pub loop_of_place : (P : Program) (n l : ℕ) (place : Place) → IsPlace P n place
    → place.inner_loop ≡ Some l → InLoop P l n
loop_of_place P n l place h e =
    let inner : IfSome place.inner_loop (λ l. InLoop P l n) = h.inner in
    rw e at inner

-- the place that the table gives
pub place_in_table : (P : Program) (n : ℕ) (places : List Place) (place : Place)
    → n < length P.stmts → ArePlaces P places → slice_get places n ≡ Some place → IsPlace P n place
place_in_table P n places place inside h e =
    let is : IsSomeAnd (slice_get places n) (IsPlace P n) = h.right n inside in
    rw e at is

pub from_any_block : (P : Program) → TreeLaws P → (n next to : ℕ) (items : List ℕ)
    → IsStmt P n (stmt.Block items) → Next P n next → (items ≡ [] → to ≡ next)
    → ((item : ℕ) (rest : List ℕ) → items ≡ item ∷ rest → to ≡ item)
    → AreEdgesFrom P n (edge_of n act.Skip to ∷ [])
from_any_block P T n next to [] is h empty first = rw (empty refl) (from_block P T n next is h)
from_any_block P T n next to (item ∷ rest) is h empty first =
    rw (first item rest refl) (from_items P n item rest is)

-- one edge to the point, if there is one
abbrev pub skips_to : ℕ → Option ℕ → List Edge
skips_to n to = map (λ m. edge_of n act.Skip m) (option_to_list to)

pub from_break : (P : Program) (n : ℕ) (to : Option ℕ) → IsStmt P n stmt.Break
    → IfSome to (λ m. (l : ℕ) × InLoop P l n × Next P l m)
    → ((l m : ℕ) → InLoop P l n → Next P l m → to ≡ Some m) → AreEdgesFrom P n (skips_to n to)
from_break P n None is found all =
    none_from P n stmt.Break is (λ a q h. none-some q (all h.1 q h.2 h.3))
from_break P n (Some m) is found all =
    one_from P n stmt.Break act.Skip m is (refl, found.0, found.1, found.2)
    (λ b q h. (h.0, same_Some q m (sym (all h.1 q h.2 h.3))))

pub from_continue : (P : Program) (n : ℕ) (to : Option ℕ) → IsStmt P n stmt.Continue
    → IfSome to (λ m. (l body : ℕ) × InLoop P l n × IsStmt P l (stmt.Loop body m))
    → ((l body m : ℕ) → InLoop P l n → IsStmt P l (stmt.Loop body m) → to ≡ Some m)
    → AreEdgesFrom P n (skips_to n to)
from_continue P n None is found all =
    none_from P n stmt.Continue is (λ a q h. none-some q (all h.1 h.2 q h.3 h.4))
from_continue P n (Some m) is found all =
    one_from P n stmt.Continue act.Skip m is (refl, found.0, found.1, found.2, found.3)
    (λ b q h. (h.0, same_Some q m (sym (all h.1 h.2 q h.3 h.4))))
