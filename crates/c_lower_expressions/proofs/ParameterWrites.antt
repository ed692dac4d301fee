-- Writes to parameters, the first made and the others left.
use Rattle.std.proofs.Common.{◌≡◌, ◌<◌, ℕ, ◌+◌, List, [], ◌∷◌, ◌++◌, length, get_or, drop, ap, sym}
use Rattle.std.proofs.Common.{◌∙◌, arith, append_assoc, append-nil}
use Rattle.cpa_expr.specs.declared.tree.Expr.{Expr}
use Rattle.c_types_rules.specs.declared.meaning.Object.{Object}
use Rattle.c_types_rules.specs.Tables.{cells_of}
use Rattle.c_core_rules.specs.Values.{cell_at}
use Rattle.cpa_model_trees.specs.Numbering.{Trees}
use Rattle.c_core_rules.specs.Trees.{set}
use Rattle.c_core_rules.specs.Expressions.{passed, cells_from}

pub pass_step : (origin : ℕ) (before : Trees) (n : ℕ) (objects : List Object) (o : Object)
    (xs vs : List Expr)
    (v : Expr) → 0 < length objects → o ≡ get_or objects 0 o → xs ≡ v ∷ vs →
    before ++ passed origin (cells_from n objects) xs
    ≡ (before ++ set origin (cell_at o.ty n) v ∷ [])
    ++ passed origin (cells_from (n + cells_of o) (drop 1 objects)) vs
pass_step origin before n [] o xs vs v h is e = absurd (omega arith)
pass_step origin before n (p ∷ objects) o xs vs v h is e =
    ap (λ ys. before ++ passed origin (cells_from n (p ∷ objects)) ys) e
    ∙ ap (λ (q : Object). before ++ (set origin (cell_at q.ty n) v
    ∷ passed origin (cells_from (n + cells_of q) objects) vs)) (sym is)
    ∙ sym (append_assoc before (set origin (cell_at o.ty n) v ∷ [])
    (passed origin (cells_from (n + cells_of o) objects) vs))

pub pass_none : (origin : ℕ) (before : Trees) (n : ℕ) (objects : List Object) (xs : List Expr) →
    length objects < 1 → before ++ passed origin (cells_from n objects) xs ≡ before
pass_none origin before n [] xs h = append-nil before
pass_none origin before n (p ∷ objects) xs h = absurd (omega arith)

-- no value is left
pub pass_end : (origin : ℕ) (before : Trees) (n : ℕ) (objects : List Object) →
    before ++ passed origin (cells_from n objects) [] ≡ before
pass_end origin before n [] = append-nil before
pass_end origin before n (p ∷ objects) = append-nil before

pub pass_past : (origin : ℕ) (before : Trees) (n : ℕ) (objects : List Object) (xs : List Expr) →
    length xs ≡ 0 → before ++ passed origin (cells_from n objects) xs ≡ before
pass_past origin before n objects [] h = pass_end origin before n objects
pass_past origin before n objects (x ∷ xs) h = absurd (omega arith)

-- what `passed` of src/passing.rt proves by
pub ruleset passed_rules = (pass_step, pass_none, pass_end, pass_past)
