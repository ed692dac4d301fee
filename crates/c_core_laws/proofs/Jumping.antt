-- The labels and jumps of trees, by how they are put together.
use Rattle.std.proofs.Common.{◌≡◌, ℕ, ◌+◌, Bool, true, false, ◌||◌, List, [], ◌∷◌, ◌++◌, map}
use Rattle.std.proofs.Common.{length, refl, ap, sym, ◌∙◌, subst, arith, append_assoc, add_assoc}
use Rattle.std.specs.List.{AllByRecursion}
use Rattle.std.proofs.lemmas.List.{append-nil}
use Rattle.cpa_expr.specs.declared.tree.Expr.{Expr}
use Rattle.cpa_model_trees.specs.declared.tree.CoreTree.{CoreTree, roll-CoreTree}
use Rattle.cpa_model_trees.specs.declared.tree.CoreTree.TheOpen.{CoreTree-F}
use Rattle.cpa_model_trees.specs.declared.tree.CoreTree.TheVariants.{Node, rolls-Node}
use Rattle.cpa_model_trees.specs.declared.tree.CoreTree.TheFolds.{map-CoreTree, ind-CoreTree}
use Rattle.cpa_model_trees.specs.declared.tree.CoreTree.TheFolds.{fold-roll-CoreTree}
use Rattle.cpa_model_trees.specs.declared.tree.Head.{Head}
use Rattle.cpa_model_trees.specs.declared.tree.Head.TheVariants as head
use Rattle.cpa_model_trees.specs.Numbering.{Trees, Placed, joined, node_statements, statements}
use Rattle.c_core_rules.specs.Trees.{leaf, block, choice, repeated}
use Rattle.c_core_laws.specs.Jumps.{Jumps, no_jumps, then_jumps, all_jumps, in_loop, head_jumps}
use Rattle.c_core_laws.specs.Jumps.{node_jumps, tree_jumps}
use Rattle.cpa_model_trees.specs.Shapes.{HasParts, PlacedFits, Shaped, AllShaped, Anything}
use Rattle.c_core_laws.proofs.Shapes.{IsPlain}
use Rattle.cpa_model_trees.specs.lemmas.Nodes.{open_statements, append_shaped, shaped_node}

pub jumps_is : (a b : Jumps) → a.labels ≡ b.labels → a.gotos ≡ b.gotos → a.loose ≡ b.loose → a ≡ b
jumps_is a b l g o =
    ap (λ x. record { labels = x; gotos = a.gotos; loose = a.loose }) l
    ∙ ap (λ x. record { labels = b.labels; gotos = x; loose = a.loose }) g
    ∙ ap (λ x. record { labels = b.labels; gotos = b.gotos; loose = x }) o

none_added : (n : ℕ) → 0 + n ≡ n
none_added n = omega arith

adds_none : (n : ℕ) → n + 0 ≡ n
adds_none n = omega arith

or_false : (b : Bool) → (b || false) ≡ b
or_false true = refl
or_false false = refl

or_assoc : (a b c : Bool) → ((a || b) || c) ≡ (a || (b || c))
or_assoc true b c = refl
or_assoc false b c = refl

pub none_then : (a : Jumps) → then_jumps no_jumps a ≡ a
none_then a = jumps_is (then_jumps no_jumps a) a (none_added a.labels) refl refl

pub then_none : (a : Jumps) → then_jumps a no_jumps ≡ a
then_none a =
    jumps_is (then_jumps a no_jumps) a (adds_none a.labels) (append-nil a.gotos) (or_false a.loose)

pub then_assoc : (a b c : Jumps) → then_jumps (then_jumps a b) c ≡ then_jumps a (then_jumps b c)
then_assoc a b c =
    jumps_is (then_jumps (then_jumps a b) c) (then_jumps a (then_jumps b c))
    (add_assoc a.labels b.labels c.labels) (append_assoc a.gotos b.gotos c.gotos)
    (or_assoc a.loose b.loose c.loose)

unfoldable pub trees_jumps : Trees → Jumps
trees_jumps trees = all_jumps (map tree_jumps trees)

pub no_tree : trees_jumps [] ≡ no_jumps
unfolding trees_jumps
no_tree = refl

pub more_trees : (t : CoreTree) (trees : Trees) →
    trees_jumps (t ∷ trees) ≡ then_jumps (tree_jumps t) (trees_jumps trees)
unfolding trees_jumps
more_trees t trees = refl

pub only_tree : (t : CoreTree) → trees_jumps (t ∷ []) ≡ tree_jumps t
only_tree t =
    more_trees t [] ∙ ap (then_jumps (tree_jumps t)) no_tree ∙ then_none (tree_jumps t)

pub joined_jumps : (xs ys : Trees) →
    trees_jumps (xs ++ ys) ≡ then_jumps (trees_jumps xs) (trees_jumps ys)
joined_jumps [] ys =
    sym (ap (λ (a : Jumps). then_jumps a (trees_jumps ys)) no_tree ∙ none_then (trees_jumps ys))
joined_jumps (t ∷ xs) ys =
    more_trees t (xs ++ ys)
    ∙ ap (then_jumps (tree_jumps t)) (joined_jumps xs ys)
    ∙ sym (then_assoc (tree_jumps t) (trees_jumps xs) (trees_jumps ys))
    ∙ ap (λ (a : Jumps). then_jumps a (trees_jumps ys)) (sym (more_trees t xs))

pub node_jumping : (origin : ℕ) (h : Head) (parts : Trees) →
    tree_jumps (Node h parts origin) ≡ head_jumps h (trees_jumps parts)
unfolding tree_jumps trees_jumps
node_jumping origin h parts =
    ap tree_jumps (sym (rolls-Node h parts origin))
    ∙ fold-roll-CoreTree Jumps node_jumps (CoreTree-F.Node h parts origin)

-- plain trees have no jumps

plain_head : (h : Head) (inside : Jumps) → IsPlain h → head_jumps h inside ≡ inside
plain_head head.Block inside is = refl
plain_head head.Labeled inside is = absurd is
plain_head (head.If test) inside is = refl
plain_head head.Loop inside is = absurd is
plain_head (head.Assign base len index value) inside is = refl
plain_head (head.Input cell) inside is = refl
plain_head (head.Call function) inside is = refl
plain_head (head.Goto label) inside is = absurd is
plain_head head.Break inside is = absurd is
plain_head head.Continue inside is = absurd is
plain_head head.Leave inside is = refl
plain_head head.Stop inside is = refl
plain_head head.Error inside is = refl

abbrev Plain : List Placed → Type 0
Plain placed = AllByRecursion (PlacedFits IsPlain) placed

left_plain : (a b : List Placed) → Plain (a ++ b) → Plain a
left_plain [] b h = tt
left_plain (p ∷ a) b h = (h.0, left_plain a b h.1)

right_plain : (a b : List Placed) → Plain (a ++ b) → Plain b
right_plain [] b h = h
right_plain (p ∷ a) b h = right_plain a b h.1

abbrev IsQuiet : CoreTree → Type 0
IsQuiet t = Plain (statements t) → tree_jumps t ≡ no_jumps

abbrev Held : Type 0
Held = (t : CoreTree) × IsQuiet t

abbrev bare : CoreTree-F Held → CoreTree-F CoreTree
bare y = map-CoreTree Held CoreTree (λ t. t.0) y

all_quiet : (held : List Held) → Plain (joined (map statements (map (λ (t : Held). t.0) held))) →
    all_jumps (map tree_jumps (map (λ (t : Held). t.0) held)) ≡ no_jumps
all_quiet [] h = refl
all_quiet (t ∷ held) h =
    let own = statements t.0 in
    let others = joined (map statements (map (λ (u : Held). u.0) held)) in
    let rest = all_jumps (map tree_jumps (map (λ (u : Held). u.0) held)) in
    ap (λ (a : Jumps). then_jumps a rest) (t.1 (left_plain own others h))
    ∙ none_then rest ∙ all_quiet held (right_plain own others h)

layer : (y : CoreTree-F Held) →
    Plain (node_statements (map-CoreTree CoreTree (List Placed) statements (bare y))) →
    node_jumps (map-CoreTree CoreTree Jumps tree_jumps (bare y)) ≡ no_jumps
layer (CoreTree-F.Node h held place) plain =
    plain_head h (all_jumps (map tree_jumps (map (λ (t : Held). t.0) held))) plain.0.1
    ∙ all_quiet held plain.1

pub open_jumps : (x : CoreTree-F CoreTree) →
    tree_jumps (roll-CoreTree x) ≡ node_jumps (map-CoreTree CoreTree Jumps tree_jumps x)
unfolding tree_jumps
open_jumps x = fold-roll-CoreTree Jumps node_jumps x

at_tree : (y : CoreTree-F Held) (x : CoreTree-F CoreTree) → bare y ≡ x →
    IsQuiet (roll-CoreTree x)
at_tree y x is =
    subst (λ (z : CoreTree-F CoreTree). IsQuiet (roll-CoreTree z)) is
    (λ h. open_jumps (bare y) ∙ layer y (subst Plain (open_statements (bare y)) h))

quiet : (t : CoreTree) → IsQuiet t
quiet = ind-CoreTree IsQuiet (λ x y is. at_tree y x is)

pub plain_quiet : (trees : Trees) → AllShaped IsPlain trees → trees_jumps trees ≡ no_jumps
plain_quiet [] h = no_tree
plain_quiet (t ∷ trees) h =
    more_trees t trees
    ∙ ap (λ (a : Jumps). then_jumps a (trees_jumps trees)) (quiet t h.0.all)
    ∙ none_then (trees_jumps trees) ∙ plain_quiet trees h.1

-- any head
abbrev pub AllAny : Trees → Type 0
AllAny trees = AllShaped Anything trees

fits_weaker : (placed : List Placed) → Plain placed → AllByRecursion (PlacedFits Anything) placed
fits_weaker [] h = tt
fits_weaker (p ∷ placed) h = ((h.0.0, tt), fits_weaker placed h.1)

pub plain_any : (trees : Trees) → AllShaped IsPlain trees → AllShaped Anything trees
plain_any [] h = tt
plain_any (t ∷ trees) h =
    (record { all = fits_weaker (statements t) h.0.all }, plain_any trees h.1)

-- trees whose nodes have the parts of their heads, with these jumps
pub record Has (jumps : Jumps) (trees : Trees) : Type 0 where
  pub shaped : AllShaped Anything trees
  pub are : trees_jumps trees ≡ jumps

pub record TreeHas (jumps : Jumps) (t : CoreTree) : Type 0 where
  pub shaped : Shaped Anything t
  pub are : tree_jumps t ≡ jumps

pub has_none : Has no_jumps []
has_none = record { shaped = tt; are = no_tree }

pub has_plain : (trees : Trees) → AllShaped IsPlain trees → Has no_jumps trees
has_plain trees h = record { shaped = plain_any trees h; are = plain_quiet trees h }

pub has_append : (a b : Jumps) (xs ys : Trees) → Has a xs → Has b ys →
    Has (then_jumps a b) (xs ++ ys)
has_append a b xs ys h k = record {
  shaped = append_shaped Anything xs ys h.shaped k.shaped;
  are = joined_jumps xs ys ∙ ap (λ (c : Jumps). then_jumps c (trees_jumps ys)) h.are
      ∙ ap (then_jumps a) k.are;
}

pub has_one : (a : Jumps) (t : CoreTree) → TreeHas a t → Has a (t ∷ [])
has_one a t h = record { shaped = (h.shaped, tt); are = only_tree t ∙ h.are }

pub plain_then : (a : Jumps) (xs ys : Trees) → AllShaped IsPlain xs → Has a ys → Has a (xs ++ ys)
plain_then a xs ys h k =
    subst (λ (c : Jumps). Has c (xs ++ ys)) (none_then a)
    (has_append no_jumps a xs ys (has_plain xs h) k)

pub node_has : (origin : ℕ) (h : Head) (parts : Trees) (a : Jumps) → HasParts h (length parts) →
    Has a parts → TreeHas (head_jumps h a) (Node h parts origin)
node_has origin h parts a has k = record {
  shaped = shaped_node Anything h parts origin has tt k.shaped;
  are = node_jumping origin h parts ∙ ap (head_jumps h) k.are;
}

pub leaf_has : (origin : ℕ) (h : Head) → HasParts h 0 →
    TreeHas (head_jumps h no_jumps) (leaf origin h)
leaf_has origin h has = node_has origin h [] no_jumps has has_none

pub block_has : (origin : ℕ) (a : Jumps) (items : Trees) → Has a items →
    TreeHas a (block origin items)
block_has origin a items h = node_has origin head.Block items a tt h

two_have : (a b : Jumps) (t u : CoreTree) → TreeHas a t → TreeHas b u →
    Has (then_jumps a b) (t ∷ u ∷ [])
two_have a b t u h k = has_append a b (t ∷ []) (u ∷ []) (has_one a t h) (has_one b u k)

pub choice_has : (origin : ℕ) (a b : Jumps) (test : Expr) (first second : Trees) → Has a first →
    Has b second →
    TreeHas (then_jumps a b) (choice origin test first second)
choice_has origin a b test first second h k =
    node_has origin (head.If test) (block origin first ∷ block origin second ∷ []) (then_jumps a b)
    refl
    (two_have a b (block origin first) (block origin second) (block_has origin a first h)
    (block_has origin b second k))

pub loop_has : (origin : ℕ) (a b : Jumps) (body step : Trees) → Has a body → Has b step →
    TreeHas (in_loop (then_jumps a b)) (repeated origin body step)
loop_has origin a b body step h k =
    node_has origin head.Loop (block origin body ∷ block origin step ∷ []) (then_jumps a b) refl
    (two_have a b (block origin body) (block origin step) (block_has origin a body h)
    (block_has origin b step k))
