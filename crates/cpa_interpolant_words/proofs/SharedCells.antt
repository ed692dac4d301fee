-- An expression that reads only cells that are shared, cell by cell.
use Rattle.std.proofs.Common.{◌≡◌, ℕ, zero, suc, ◌+◌, ◌<◌, IsTrue, List, [], ◌∷◌, length, get_or}
use Rattle.std.proofs.Common.{arith}
use Rattle.std.proofs.Common.{Some, slice_get, sym, subst, inl, inr}
use Rattle.std.specs.List.{AllByRecursion}
use Rattle.std.proofs.lemmas.List.{length-map}
use Rattle.cpa_expr.specs.declared.tree.Expr.{Expr}
use Rattle.cpa_expr.specs.Cells.{may_read}
use Rattle.cpa_model.specs.declared.program.Cell.{Cell}
use Rattle.cpa_model.specs.declared.automaton.Act.{Act}
use Rattle.cpa_model.specs.declared.automaton.Edge.{Edge}
use Rattle.cpa_model.specs.declared.automaton.Cfa.{Cfa}
use Rattle.cpa_model.specs.Expressions.{types_of, IsExpr}
use Rattle.cpa_form_renaming.specs.Laws.{cells_behind_change_nothing}
use Rattle.cpa_form_rules.specs.Reading.{ActReads}
use Rattle.cpa_folds.specs.Along.{acts_along}
use Rattle.cpa_interpolant_rules.specs.Stores.{SomeActReads}
use Rattle.cpa_interpolant_words.specs.Words.{IsShared}
use Rattle.cpa_interpolant_rules.specs.lemmas.Keeping.{edge_there}
use Rattle.cpa_interpolant_rules.specs.lemmas.Paths.{acts_of}

-- a cell that a well-typed expression may read is there
pub inside_of : (cells : List Cell) (e : Expr) (cell : ℕ) → IsExpr cells e
    → IsTrue (may_read e cell) → cell < length cells
inside_of cells e cell is reads =
    let long = length-map cells (λ (c : Cell). c.ty) in
    let inside = cells_behind_change_nothing.inside (types_of cells) cell e is.typed reads in
    omega (arith, long, inside)

-- one of the edges reads the cell
pub some_there : (cfa : Cfa) (edges : List ℕ) (i : ℕ) (g : Edge) (cell : ℕ)
    → AllByRecursion (λ n. n < length cfa.edges) edges → i < length edges
    → slice_get cfa.edges (get_or edges i 0) ≡ Some g → ActReads g.act cell
    → SomeActReads (acts_along cfa edges) cell
some_there cfa [] i g cell inside less at reads = absurd (omega (arith, less))
some_there cfa (n ∷ ns) zero g cell inside less at reads =
    subst (λ (acts : List Act). SomeActReads acts cell) (sym (acts_of cfa n ns g at)) (inl reads)
some_there cfa (n ∷ ns) (suc i) g cell inside less at reads =
    let h = edge_there cfa n inside.0 in
    subst (λ (acts : List Act). SomeActReads acts cell) (sym (acts_of cfa n ns h.0 h.1))
    (inr (some_there cfa ns i g cell inside.1 (omega (arith, less)) at reads))

-- one cell more
pub next_cell : (f e : Expr) (a : Act) (acts : List Act) (i : ℕ)
    → ((cell : ℕ) → cell < i → IsTrue (may_read f cell) → IsShared e a acts cell)
    → (IsTrue (may_read f i) → IsShared e a acts i)
    → (cell : ℕ) → cell < i + 1 → IsTrue (may_read f cell) → IsShared e a acts cell
next_cell f e a acts i before own =
    up_to (λ cell. IsTrue (may_read f cell) → IsShared e a acts cell) i before own
  where
    up_to : (P : ℕ → Type 0) (i : ℕ) → ((n : ℕ) → n < i → P n) → P i → (n : ℕ) → n < i + 1 → P n
    up_to P zero before own zero less = own
    up_to P zero before own (suc n) less = absurd (omega (arith, less))
    up_to P (suc i) before own zero less = before zero (omega arith)
    up_to P (suc i) before own (suc n) less =
        up_to (λ m. P (suc m)) i (λ m low. before (suc m) (omega (arith, low))) own n
        (omega (arith, less))
