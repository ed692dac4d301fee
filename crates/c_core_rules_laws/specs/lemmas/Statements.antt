-- Statements that are put together alike are alike.
use Rattle.std.proofs.Common.{◌≡◌, ℕ, max, Bool, true, false, List, [], ◌∷◌, ◌++◌}
use Rattle.std.proofs.Common.{map, refl, ap, sym, ◌∙◌, append_assoc}
use Rattle.std.proofs.lemmas.List.{map-append}
use Rattle.cpa_expr.specs.declared.tree.Expr.{Expr}
use Rattle.cpa_expr.specs.Shape.{height}
use Rattle.cpa_model_trees.specs.declared.tree.CoreTree.{CoreTree, out-CoreTree, roll-CoreTree}
use Rattle.cpa_model_trees.specs.declared.tree.CoreTree.TheViews.{roll-out-CoreTree}
use Rattle.cpa_model_trees.specs.declared.tree.CoreTree.TheOpen.{CoreTree-F}
use Rattle.cpa_model_trees.specs.declared.tree.CoreTree.TheVariants.{Node}
use Rattle.cpa_model_trees.specs.declared.tree.Head.{Head}
use Rattle.cpa_model_trees.specs.declared.tree.Head.TheVariants as head
use Rattle.cpa_model_trees.specs.Numbering.{Trees, Placed, statements}
use Rattle.cpa_model_trees.specs.Rows.{row_of}
use Rattle.cpa_model_trees.specs.lemmas.Nodes.{node_placed, open_statements}
use Rattle.c_core_rules.specs.declared.tree.Location.{Location}
use Rattle.c_core_rules.specs.declared.tree.Valued.{Valued}
use Rattle.c_core_rules.specs.Values.{conv, first_index}
use Rattle.c_core_rules.specs.Acts.{is_nil, is_pure}
use Rattle.c_core_rules.specs.Trees.{leaf, block, choice, repeated, write, set, input, valued}
use Rattle.c_core_rules_laws.specs.Sizes.{head_height, heights_of}
use Rattle.c_core_rules_laws.specs.Alike.{SameValue, SameTrees, SameValued, SameLocation}
use Rattle.c_core_rules_laws.specs.lemmas.Values.{value_self, conv_to}

abbrev heights_in : List Placed → List ℕ
heights_in placed = map (λ (one : Placed). head_height one.head) placed

pub heights_none : heights_of [] ≡ []
unfolding heights_of
heights_none = refl

pub heights_append : (xs ys : Trees) → heights_of (xs ++ ys) ≡ heights_of xs ++ heights_of ys
unfolding heights_of
heights_append [] ys = refl
heights_append (t ∷ xs) ys =
    map-append (λ (one : Placed). head_height one.head) (statements t) (row_of (xs ++ ys))
    ∙ ap (λ hs. heights_in (statements t) ++ hs) (heights_append xs ys)
    ∙ sym (append_assoc (heights_in (statements t)) (heights_in (row_of xs))
    (heights_in (row_of ys)))
    ∙ ap (λ hs. hs ++ heights_in (row_of ys))
    (sym (map-append (λ (one : Placed). head_height one.head) (statements t) (row_of xs)))

one_behind : (xs : List ℕ) → xs ++ [] ≡ xs
one_behind [] = refl
one_behind (x ∷ xs) = ap (λ ys. x ∷ ys) (one_behind xs)

nothing_behind : (placed : List Placed) → heights_in (placed ++ []) ≡ heights_in placed
nothing_behind [] = refl
nothing_behind (p ∷ placed) = ap (λ ns. head_height p.head ∷ ns) (nothing_behind placed)

pub heights_only : (t : CoreTree) →
    heights_of (t ∷ []) ≡ map (λ (one : Placed). head_height one.head) (statements t)
unfolding heights_of
heights_only t = nothing_behind (statements t)

pub heights_node : (origin : ℕ) (h : Head) (parts : Trees) →
    heights_of (Node h parts origin ∷ []) ≡ head_height h ∷ heights_of parts
unfolding heights_of
heights_node origin h parts =
    nothing_behind (statements (Node h parts origin)) ∙ ap heights_in (node_placed h parts origin)

-- the relation

pub trees_self : (xs : Trees) → SameTrees xs xs
trees_self xs = record { heights = refl }

pub same_append : {xs ys vs ws : Trees} → SameTrees xs ys → SameTrees vs ws →
    SameTrees (xs ++ vs) (ys ++ ws)
same_append {xs = xs} {ys = ys} {vs = vs} {ws = ws} is are = record {
  heights = heights_append xs vs
      ∙ ap (λ hs. hs ++ heights_of vs) is.heights
      ∙ ap (λ hs. heights_of ys ++ hs) are.heights
      ∙ sym (heights_append ys ws);
}

pub same_more : {t u : CoreTree} {xs ys : Trees} → SameTrees (t ∷ []) (u ∷ []) → SameTrees xs ys →
    SameTrees (t ∷ xs) (u ∷ ys)
same_more {t = t} {u = u} {xs = xs} {ys = ys} is are =
    same_append {xs = t ∷ []} {ys = u ∷ []} {vs = xs} {ws = ys} is are

pub same_node : (origin : ℕ) (h k : Head) {xs ys : Trees} → head_height h ≡ head_height k →
    SameTrees xs ys →
    SameTrees (Node h xs origin ∷ []) (Node k ys origin ∷ [])
same_node origin h k {xs = xs} {ys = ys} is are = record {
  heights = heights_node origin h xs
      ∙ ap (λ n. n ∷ heights_of xs) is
      ∙ ap (λ hs. head_height k ∷ hs) are.heights
      ∙ sym (heights_node origin k ys);
}

pub same_leaf : (origin : ℕ) (h k : Head) → head_height h ≡ head_height k →
    SameTrees (leaf origin h ∷ []) (leaf origin k ∷ [])
same_leaf origin h k is = same_node origin h k is (trees_self [])

-- a tree has a statement
abbrev is_none : List ℕ → Bool
is_none [] = true
is_none (n ∷ ns) = false

node_some : (x : CoreTree-F CoreTree) (trees : Trees) →
    is_none (heights_in (statements (roll-CoreTree x) ++ row_of trees)) ≡ false
node_some (CoreTree-F.Node h parts place) trees =
    ap (λ placed. is_none (heights_in (placed ++ row_of trees)))
    (open_statements (CoreTree-F.Node h parts place))

pub heights_nil : (xs : Trees) → is_nil xs ≡ is_none (heights_of xs)
unfolding heights_of
heights_nil [] = refl
heights_nil (t ∷ xs) =
    sym (ap (λ u. is_none (heights_in (statements u ++ row_of xs))) (sym (roll-out-CoreTree t))
    ∙ node_some (out-CoreTree t) xs)

pub same_nil : {xs ys : Trees} → SameTrees xs ys → is_nil xs ≡ is_nil ys
same_nil {xs = xs} {ys = ys} is = heights_nil xs ∙ ap is_none is.heights ∙ sym (heights_nil ys)

pub same_pure : {v w : Valued} → SameValued v w → is_pure v ≡ is_pure w
same_pure is = same_nil is.statements

pub valued_self : (v : Valued) → SameValued v v
valued_self v = record { statements = trees_self v.statements; value = value_self v.value }

pub same_valued : {xs ys : Trees} {v w : Expr} → SameTrees xs ys → SameValue v w →
    SameValued (valued xs v) (valued ys w)
same_valued is are = record { statements = is; value = are }

-- the forms

pub same_block : (origin : ℕ) {xs ys : Trees} → SameTrees xs ys →
    SameTrees (block origin xs ∷ []) (block origin ys ∷ [])
same_block origin is = same_node origin head.Block head.Block refl is

pub same_choice : (origin : ℕ) {v w : Expr} {ks bs cs ds : Trees} → SameValue v w →
    SameTrees ks bs →
    SameTrees cs ds → SameTrees (choice origin v ks cs ∷ []) (choice origin w bs ds ∷ [])
same_choice origin {v = v} {w = w} test first second =
    same_node origin (head.If v) (head.If w) test.height
    (same_more (same_block origin first) (same_block origin second))

pub same_repeated : (origin : ℕ) {ks bs cs ds : Trees} → SameTrees ks bs → SameTrees cs ds →
    SameTrees (repeated origin ks cs ∷ []) (repeated origin bs ds ∷ [])
same_repeated origin body step =
    same_node origin head.Loop head.Loop refl
    (same_more (same_block origin body) (same_block origin step))

pub same_write : (origin : ℕ) (a b : Location) {v w x y : Expr} → SameLocation a b → SameValue v w →
    SameValue x y → SameTrees (write origin a v x ∷ []) (write origin b w y ∷ [])
same_write origin a b {v = v} {w = w} {x = x} {y = y} at index is =
    same_leaf origin (head.Assign a.base a.len v (conv x a.ty))
    (head.Assign b.base b.len w (conv y b.ty))
    (ap (λ n. max n (height (conv x a.ty))) index.height
    ∙ ap (max (height w)) (conv_to a.ty b.ty at.type is).height)

pub same_set : (origin : ℕ) (a b : Location) {v w : Expr} → SameLocation a b → SameValue v w →
    SameTrees (set origin a v ∷ []) (set origin b w ∷ [])
same_set origin a b at is = same_write origin a b at (value_self first_index) is

pub same_input : (origin : ℕ) (m n : ℕ) → SameTrees (input origin m ∷ []) (input origin n ∷ [])
same_input origin m n = same_leaf origin (head.Input m) (head.Input n) refl
