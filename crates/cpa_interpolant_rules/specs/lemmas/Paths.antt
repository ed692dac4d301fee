-- Acts along the edges of a path, and expressions at its cuts.
use Rattle.std.proofs.Common.{◌≡◌, ℕ, zero, suc, ◌<◌, List, [], ◌∷◌, ◌++◌, length, drop, Option}
use Rattle.std.proofs.Common.{take, ◌-◌, Some, slice_get, get_or, refl, ap, ◌∙◌, arith, pos}
use Rattle.std.specs.List.{AllByRecursion}
use Rattle.std.proofs.lemmas.Int.{ints}
use Rattle.std.proofs.lemmas.List.{length-drop, take_all}
use Rattle.cpa_ints.specs.declared.integers.IntType.TheVariants as ty
use Rattle.cpa_expr.specs.Laws.{a_constant_is_its_number}
use Rattle.cpa_expr.specs.declared.tree.Expr.{Expr}
use Rattle.cpa_model.specs.declared.program.Cell.{Cell}
use Rattle.cpa_model.specs.declared.automaton.Edge.{Edge}
use Rattle.cpa_model.specs.declared.automaton.Cfa.{Cfa}
use Rattle.cpa_model.specs.Expressions.{types_of, IsExpr}
use Rattle.cpa_folds.specs.Along.{act_of, acts_along}
use Rattle.cpa_interpolant_rules.specs.Interpolants.{last_of, one}
use Rattle.cpa_interpolant_rules.specs.lemmas.Keeping.{edge_there}

pub last_at : (e d : Expr) (fs : List Expr) → get_or (e ∷ fs) (length fs) d ≡ last_of e fs
last_at e d [] = refl
last_at e d (f ∷ fs) = last_at f d fs

pub acts_of : (cfa : Cfa) (n : ℕ) (ns : List ℕ) (g : Edge) → slice_get cfa.edges n ≡ Some g
    → acts_along cfa (n ∷ ns) ≡ g.act ∷ acts_along cfa ns
acts_of cfa n ns g at = ap (λ (o : Option Edge). act_of o ++ acts_along cfa ns) at

pub acts_long : (cfa : Cfa) (path : List ℕ) → AllByRecursion (λ n. n < length cfa.edges) path
    → length (acts_along cfa path) ≡ length path
acts_long cfa [] inside = refl
acts_long cfa (n ∷ ns) inside =
    let g = edge_there cfa n inside.0 in
    ap length (acts_of cfa n ns g.0 g.1) ∙ ap suc (acts_long cfa ns inside.1)

pub rest_in : (m : ℕ) (path : List ℕ) (k : ℕ) → AllByRecursion (λ n. n < m) path
    → AllByRecursion (λ n. n < m) (drop k path)
rest_in m path zero all = all
rest_in m [] (suc k) all = tt
rest_in m (n ∷ ns) (suc k) all = rest_in m ns k all.1

pub one_is_expr : (cells : List Cell) → IsExpr cells one
one_is_expr cells =
    (a_constant_is_its_number (types_of cells) ty.I32 (pos 1)).1
    (omega (arith, ints), omega (arith, ints))

-- the path behind an edge, as a slice of the path
pub whole_rest : (path : List ℕ) (k : ℕ) → take (length path - k) (drop k path) ≡ drop k path
whole_rest path k =
    take_all (length path - k) (drop k path) (let long = length-drop k path in omega (arith, long))
