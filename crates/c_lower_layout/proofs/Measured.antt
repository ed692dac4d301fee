-- A size with statements more is that with the first of them more, and then with the others.
use Rattle.std.proofs.Common.{◌≡◌, ℕ, ◌+◌, ◌≤◌, max, List, [], ◌∷◌, ◌++◌, length, refl, ap, sym}
use Rattle.std.proofs.Common.{◌∙◌}
use Rattle.std.proofs.Common.{arith, length-append, drop, get_or, ◌<◌}
use Rattle.std.proofs.Math.ListN.{drop_of_length-le}
use Rattle.std.proofs.lemmas.List.{drop_more}
use Rattle.cpa_expr.specs.Shape.{greatest}
use Rattle.cpa_model_trees.specs.declared.tree.CoreTree.{CoreTree}
use Rattle.cpa_model_trees.specs.declared.tree.CoreTree.TheVariants.{Node}
use Rattle.cpa_model_trees.specs.declared.tree.Head.{Head}
use Rattle.cpa_model_trees.specs.Numbering.{Trees}
use Rattle.c_core_rules_laws.specs.Sizes.{head_height, heights_of, points_of, tallest_of}
use Rattle.c_core_rules_laws.specs.lemmas.Statements.{heights_append, heights_node, heights_none}
use Rattle.c_lower_layout.specs.declared.sizes.Size.{Size}
use Rattle.c_lower_layout.specs.Measures.{grown, marks_of}

pub grown_append : (size : Size) (xs ys : List ℕ) →
    grown size (xs ++ ys) ≡ grown (grown size xs) ys
grown_append size [] ys = refl
grown_append size (x ∷ xs) ys =
    grown_append (record { points = size.points + 1; tallest = max size.tallest x }) xs ys

-- a tree: its root, and then its parts
pub node_grown : (size : Size) (h : Head) (parts : Trees) (place : ℕ) →
    grown size (heights_of (Node h parts place ∷ []))
    ≡ grown (grown size (head_height h ∷ [])) (heights_of parts)
node_grown size h parts place = ap (grown size) (heights_node place h parts)

-- the same, of a root that is measured first
pub node_measured : (size root : Size) (h : Head) (height : ℕ) (parts : Trees) (place : ℕ) →
    height ≡ head_height h → root ≡ grown size (height ∷ []) →
    grown root (heights_of parts) ≡ grown size (heights_of (Node h parts place ∷ []))
node_measured size root h height parts place high is =
    ap (λ (s : Size). grown s (heights_of parts))
    (is ∙ ap (λ n. grown size (n ∷ [])) high)
    ∙ sym (node_grown size h parts place)

-- trees: the first, and then the others
pub row_grown : (size : Size) (tree : CoreTree) (trees : Trees) →
    grown size (heights_of (tree ∷ trees))
    ≡ grown (grown size (heights_of (tree ∷ []))) (heights_of trees)
row_grown size tree trees =
    ap (grown size) (heights_append (tree ∷ []) trees)
    ∙ grown_append size (heights_of (tree ∷ [])) (heights_of trees)

pub none_grown : (size : Size) → grown size (heights_of []) ≡ size
none_grown size = ap (grown size) heights_none

-- what is left of trees
pub trees_kept : (before after : Size) (xs : Trees) (i : ℕ) (x : CoreTree) (whole : Size) →
    i < length xs → x ≡ get_or xs i x → after ≡ grown before (heights_of (x ∷ [])) →
    grown before (heights_of (drop i xs)) ≡ whole →
    grown after (heights_of (drop (i + 1) xs)) ≡ whole
trees_kept before after xs i x whole h item is so =
    let here : drop i xs ≡ x ∷ drop (i + 1) xs =
    drop_more xs i x h ∙ ap (λ t. t ∷ drop (i + 1) xs) (sym item) in
    ap (λ (s : Size). grown s (heights_of (drop (i + 1) xs))) is
    ∙ sym (row_grown before x (drop (i + 1) xs))
    ∙ ap (λ ts. grown before (heights_of ts)) (sym here)
    ∙ so

pub trees_done : (size : Size) (xs : Trees) (i : ℕ) (whole : Size) → length xs ≤ i →
    grown size (heights_of (drop i xs)) ≡ whole → size ≡ whole
trees_done size xs i whole h so =
    sym (none_grown size)
    ∙ ap (λ ts. grown size (heights_of ts)) (sym (drop_of_length-le xs h))
    ∙ so

nothing_behind : (xs : List ℕ) → xs ++ [] ≡ xs
nothing_behind [] = refl
nothing_behind (x ∷ xs) = ap (λ ys. x ∷ ys) (nothing_behind xs)

-- a function: its tree, and then its exit
pub exit_grown : (size : Size) (tree : CoreTree) →
    grown size (marks_of (tree ∷ []))
    ≡ grown (grown size (heights_of (tree ∷ []))) (0 ∷ [])
exit_grown size tree =
    ap (grown size) (nothing_behind (heights_of (tree ∷ []) ++ 0 ∷ []))
    ∙ grown_append size (heights_of (tree ∷ [])) (0 ∷ [])

-- functions: the first, and then the others
pub marks_grown : (size : Size) (tree : CoreTree) (trees : Trees) →
    grown size (marks_of (tree ∷ trees))
    ≡ grown (grown size (marks_of (tree ∷ []))) (marks_of trees)
marks_grown size tree trees =
    let own = heights_of (tree ∷ []) ++ 0 ∷ [] in
    grown_append size own (marks_of trees)
    ∙ ap (λ s. grown s (marks_of trees)) (ap (grown size) (sym (nothing_behind own)))

-- what is grown in numbers

pub grown_points : (size : Size) (hs : List ℕ) →
    (grown size hs).points ≡ size.points + length hs
grown_points size [] = omega arith
grown_points size (h ∷ hs) =
    let more : Size = record { points = size.points + 1; tallest = max size.tallest h } in
    omega (arith, grown_points more hs)

pub grown_tallest : (size : Size) (hs : List ℕ) →
    (grown size hs).tallest ≡ max size.tallest (greatest hs)
grown_tallest size [] = omega arith
grown_tallest size (h ∷ hs) =
    let more : Size = record { points = size.points + 1; tallest = max size.tallest h } in
    omega (arith, grown_tallest more hs)

greatest_append : (xs ys : List ℕ) → greatest (xs ++ ys) ≡ max (greatest xs) (greatest ys)
greatest_append [] ys = omega arith
greatest_append (x ∷ xs) ys = omega (arith, greatest_append xs ys)

-- the points of functions, and the height of their highest expression
pub marks_length : (trees : Trees) → length (marks_of trees) ≡ points_of trees
marks_length [] = sym (ap (λ (hs : List ℕ). length hs + 0) heights_none)
marks_length (tree ∷ trees) =
    let own = heights_of (tree ∷ []) in
    let all : length (heights_of (tree ∷ trees)) ≡ length own + length (heights_of trees) =
    ap length (heights_append (tree ∷ []) trees) ∙ length-append own (heights_of trees) in
    omega (
      arith,
      all,
      length-append (own ++ 0 ∷ []) (marks_of trees),
      length-append own (0 ∷ []),
      marks_length trees,
    )

pub marks_greatest : (trees : Trees) → greatest (marks_of trees) ≡ tallest_of trees
marks_greatest [] = sym (ap greatest heights_none)
marks_greatest (tree ∷ trees) =
    let own = heights_of (tree ∷ []) in
    let all : greatest (heights_of (tree ∷ trees)) ≡ max (greatest own)
    (greatest (heights_of trees)) =
    ap greatest (heights_append (tree ∷ []) trees) ∙ greatest_append own (heights_of trees) in
    let zero : greatest (own ++ 0 ∷ []) ≡ greatest own =
    greatest_append own (0 ∷ []) ∙ omega arith in
    omega (
      arith,
      all,
      greatest_append (own ++ 0 ∷ []) (marks_of trees),
      zero,
      marks_greatest trees,
    )
