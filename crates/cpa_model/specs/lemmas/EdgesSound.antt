-- The edges of an automaton name what is there: each is a move of its program, whose statements do.
use Rattle.std.proofs.Common.{◌≡◌, ℕ, ◌<◌, ◌≤◌, List, [], ◌∷◌, Some, length, ⊎_elim, sym, subst}
use Rattle.std.proofs.Common.{arith}
use Rattle.std.specs.Prelude.{slice_get, zero, suc}
use Rattle.std.specs.List.{AllByRecursion, Contains}
use Rattle.std.proofs.lemmas.Option.{slice_get_within, slice_get-get_or}
use Rattle.cpa_expr.specs.Shape.{type_of, AreCells}
use Rattle.cpa_model.specs.declared.program.Stmt.{Stmt}
use Rattle.cpa_model.specs.declared.program.Stmt.TheVariants as stmt
use Rattle.cpa_model.specs.declared.automaton.Act.{Act}
use Rattle.cpa_model.specs.declared.automaton.Edge.{Edge}
use Rattle.cpa_model.specs.declared.automaton.Cfa.{Cfa}
use Rattle.cpa_model.specs.Expressions.{types_of, IsExpr}
use Rattle.cpa_model.specs.Programs.{IsStmt}
use Rattle.cpa_model.specs.Steps.{Moves, MovesAt, at_statement, at_exit}
use Rattle.cpa_model.specs.Automata.{IsAutomaton}
use Rattle.cpa_model.specs.Acts.{IsActOf, IsEdgeOf}

-- a statement of the automaton's program moves by an act that names what is there
of_statement : (cfa : Cfa) (a : IsAutomaton cfa) (n : ℕ) (s : Stmt) (move : Act) (m : ℕ)
    → IsStmt a.program n s
    → MovesAt a.program n s move m → IsActOf cfa move
of_statement cfa a n (stmt.Block []) move m is moves = subst (IsActOf cfa) (sym moves.0) tt
of_statement cfa a n (stmt.Block (item ∷ items)) move m is moves =
    subst (IsActOf cfa) (sym moves.0) tt
of_statement cfa a n (stmt.If test first second) move m is moves =
    let typed = a.well_formed.sound n (stmt.If test first second) is in
    let here : IsExpr cfa.cells test =
    subst (λ cells. IsExpr cells test) (sym a.automaton.cells) typed in
    ⊎_elim (λ branch. subst (IsActOf cfa) (sym branch.0) here)
    (λ branch. subst (IsActOf cfa) (sym branch.0) here) moves
of_statement cfa a n (stmt.Loop body step) move m is moves = subst (IsActOf cfa) (sym moves.0) tt
of_statement cfa a n (stmt.Assign base len index value) move m is moves =
    let sound = a.well_formed.sound n (stmt.Assign base len index value) is in
    subst (IsActOf cfa) (sym moves.0)
    (subst (λ cells. (1 ≤ len) × IsExpr cells index × IsExpr cells value
    × AreCells (types_of cells) base len (type_of value)) (sym a.automaton.cells) sound)
of_statement cfa a n (stmt.Input cell) move m is moves =
    let sound = a.well_formed.sound n (stmt.Input cell) is in
    subst (IsActOf cfa) (sym moves.0)
    (subst (λ cells. cell < length cells) (sym a.automaton.cells) sound)
of_statement cfa a n (stmt.Call function) move m is moves =
    let inside : n < length a.program.stmts =
    slice_get_within a.program.stmts n (stmt.Call function) is in
    subst (IsActOf cfa) (sym moves.0) (omega (arith, a.automaton.points))
of_statement cfa a n (stmt.Goto to) move m is moves = subst (IsActOf cfa) (sym moves.0) tt
of_statement cfa a n stmt.Break move m is moves = subst (IsActOf cfa) (sym moves.0) tt
of_statement cfa a n stmt.Continue move m is moves = subst (IsActOf cfa) (sym moves.0) tt
of_statement cfa a n stmt.Leave move m is moves = subst (IsActOf cfa) (sym moves.0) tt
of_statement cfa a n stmt.Stop move m is moves = absurd moves
of_statement cfa a n stmt.Error move m is moves = absurd moves

of_move : (cfa : Cfa) (a : IsAutomaton cfa) (p : ℕ) (move : Act) (q : ℕ) → Moves a.program p move q
    → IsActOf cfa move
of_move cfa a p move q (at_statement s is moves) = of_statement cfa a p s move q is moves
of_move cfa a p move q (at_exit f inside at returns) =
    let site = returns.1 in
    let within : site < length a.program.stmts =
    slice_get_within a.program.stmts site (stmt.Call f) returns.2 in
    subst (IsActOf cfa) (sym returns.3) (omega (arith, a.automaton.points))

-- an item of a list for whose items P holds
pub all_at : {X : Type 0} (P : X → Type 0) (xs : List X) (i : ℕ) (x : X) → AllByRecursion P xs
    → slice_get xs i ≡ Some x → P x
all_at P [] i x all at = absurd (cc)
all_at P (y ∷ xs) zero x all at = let same : y ≡ x = cc in subst P same all.0
all_at P (y ∷ xs) (suc i) x all at = all_at P xs i x all.1 at

-- what stands at a place of a list is one of its items
at_place : {X : Type 0} (xs : List X) (i : ℕ) (x : X) → slice_get xs i ≡ Some x → Contains xs x
at_place xs i x at =
    let h =
    slice_get-get_or xs i x (slice_get_within xs i x at) in (i, slice_get_within xs i x at, cc)

pub edge_sound : (cfa : Cfa) (n : ℕ) (edge : Edge) → IsAutomaton cfa
    → slice_get cfa.edges n ≡ Some edge → IsEdgeOf cfa edge
edge_sound cfa n edge a at =
    let ends =
    all_at (λ x. (x.from < cfa.points) × (x.to < cfa.points)) cfa.edges n edge
    a.automaton.inside at in
    record {
      from = ends.0;
      to = ends.1;
      act =
          of_move cfa a edge.from edge.act edge.to
          (a.automaton.moves edge (at_place cfa.edges n edge at));
    }
