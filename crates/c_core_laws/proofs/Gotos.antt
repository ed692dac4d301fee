-- The labels of the tree of a function, and the gotos in it.
use Rattle.std.proofs.Common.{◌≡◌, ℕ, zero, suc, ◌+◌, ◌<◌, List, [], ◌∷◌, ◌++◌, map, length, Some}
use Rattle.std.proofs.Common.{slice_get, refl, ap, sym, ◌∙◌, subst, arith, inl, inr, length-append}
use Rattle.std.proofs.Common.{append_assoc}
use Rattle.std.specs.Prelude.{◌⊎◌}
use Rattle.std.specs.List.{AllByRecursion}
use Rattle.std.proofs.lemmas.Option.{none-some, same_Some}
use Rattle.cpa_model_trees.specs.declared.tree.CoreTree.{CoreTree, roll-CoreTree}
use Rattle.cpa_model_trees.specs.declared.tree.CoreTree.TheOpen.{CoreTree-F}
use Rattle.cpa_model_trees.specs.declared.tree.CoreTree.TheFolds.{map-CoreTree, ind-CoreTree}
use Rattle.cpa_model_trees.specs.declared.tree.Head.{Head}
use Rattle.cpa_model_trees.specs.declared.tree.Head.TheVariants as head
use Rattle.cpa_model_trees.specs.Numbering.{Trees, Placed, joined, statements, label_here}
use Rattle.cpa_model_trees.specs.Numbering.{labels_from}
use Rattle.c_core_laws.specs.Jumps.{Jumps, all_jumps, head_jumps, node_jumps, tree_jumps}
use Rattle.cpa_model_trees.specs.Shapes.{HasParts}
use Rattle.cpa_model_trees.specs.lemmas.Nodes.{node_of, open_statements}
use Rattle.c_core_laws.proofs.Jumping.{open_jumps}
use Rattle.cpa_model_trees.specs.lemmas.Numbered.{get_split, Behind, lengths}
use Rattle.c_core_laws.proofs.ProgramTrees.{AllFit, fit_left, fit_right}

-- where the labels of statements stand

pub labels_append : (n : ℕ) (a b : List Placed) →
    labels_from n (a ++ b) ≡ labels_from n a ++ labels_from (n + length a) b
labels_append n [] b = ap (λ m. labels_from m b) (omega arith)
labels_append n (p ∷ a) b =
    let here = label_here p.head n in
    ap (λ ls. here ++ ls) (labels_append (n + 1) a b)
    ∙ sym (append_assoc here (labels_from (n + 1) a) (labels_from ((n + 1) + length a) b))
    ∙ ap (λ m. (here ++ labels_from (n + 1) a) ++ labels_from m b) (omega arith)

-- a label stands at its number, at a statement of these
abbrev LabelAt : ℕ → List Placed → ℕ → Type 0
LabelAt n placed m = (i : ℕ) × (p : Placed) × (m ≡ n + i) × (slice_get placed i ≡ Some p)

here_is : (h : Head) (n l m : ℕ) → slice_get (label_here h n) l ≡ Some m → m ≡ n
here_is head.Labeled n zero m e = sym (same_Some n m e)
here_is head.Labeled n (suc l) m e = absurd (none-some m e)
here_is head.Block n l m e = absurd (none-some m e)
here_is (head.If test) n l m e = absurd (none-some m e)
here_is head.Loop n l m e = absurd (none-some m e)
here_is (head.Assign base len index value) n l m e = absurd (none-some m e)
here_is (head.Input cell) n l m e = absurd (none-some m e)
here_is (head.Call function) n l m e = absurd (none-some m e)
here_is (head.Goto label) n l m e = absurd (none-some m e)
here_is head.Break n l m e = absurd (none-some m e)
here_is head.Continue n l m e = absurd (none-some m e)
here_is head.Leave n l m e = absurd (none-some m e)
here_is head.Stop n l m e = absurd (none-some m e)
here_is head.Error n l m e = absurd (none-some m e)

label_by : (n : ℕ) (p : Placed) (placed : List Placed) (l m : ℕ) →
    ((k : ℕ) → slice_get (labels_from (n + 1) placed) k ≡ Some m → LabelAt (n + 1) placed m) →
    (slice_get (label_here p.head n) l ≡ Some m)
    ⊎ Behind (label_here p.head n) (labels_from (n + 1) placed) l m →
    LabelAt n (p ∷ placed) m
label_by n p placed l m more (inl e) =
    (0, p, here_is p.head n l m e ∙ omega arith, refl)
label_by n p placed l m more (inr r) =
    let found : LabelAt (n + 1) placed m = more r.0 r.2 in
    (suc found.0, found.1, found.2 ∙ omega arith, found.3)

pub label_at : (n : ℕ) (placed : List Placed) (l m : ℕ) →
    slice_get (labels_from n placed) l ≡ Some m → LabelAt n placed m
label_at n [] l m e = absurd (none-some m e)
label_at n (p ∷ placed) l m e =
    label_by n p placed l m (λ k at. label_at (n + 1) placed k m at)
    (get_split (label_here p.head n) (labels_from (n + 1) placed) l m e)

-- as many as the tree has

pub record Marked (t : CoreTree) : Type 0 where
  pub at : (n : ℕ) → AllFit (statements t) →
      length (labels_from n (statements t)) ≡ (tree_jumps t).labels

-- a goto to a label below a number
abbrev pub GotoBelow : ℕ → Head → Type 0
GotoBelow n (head.Goto label) = label < n
GotoBelow n _ = Unit {0}

abbrev AllBelow : ℕ → List ℕ → Type 0
AllBelow n labels = AllByRecursion (λ l. l < n) labels

abbrev pub GotosBelow : ℕ → List Placed → Type 0
GotosBelow n placed = AllByRecursion (λ (p : Placed). GotoBelow n p.head) placed

pub record Going (n : ℕ) (t : CoreTree) : Type 0 where
  pub at : AllFit (statements t) → AllBelow n (tree_jumps t).gotos →
      GotosBelow n (statements t)

pub forest_marked : (trees : Trees) → AllByRecursion Marked trees → (n : ℕ) →
    AllFit (joined (map statements trees)) →
    length (labels_from n (joined (map statements trees)))
    ≡ (all_jumps (map tree_jumps trees)).labels
forest_marked [] all n fits = refl
forest_marked (t ∷ trees) all n fits =
    let own = statements t in
    let others = joined (map statements trees) in
    ap (λ (ls : List ℕ). length ls) (labels_append n own others)
    ∙ length-append (labels_from n own) (labels_from (n + length own) others)
    ∙ ap (λ m. m + length (labels_from (n + length own) others))
    (all.0.at n (fit_left own others fits))
    ∙ ap (λ m. (tree_jumps t).labels + m)
    (forest_marked trees all.1 (n + length own) (fit_right own others fits))

no_trees : (trees : Trees) → length (lengths trees) ≡ 0 →
    (all_jumps (map tree_jumps trees)).labels ≡ 0
no_trees [] none = refl
no_trees (t ∷ trees) none = absurd (omega (arith, none))

-- the labels behind a head that is none
abbrev Inside : Trees → ℕ → Type 0
Inside trees labels = labels ≡ (all_jumps (map tree_jumps trees)).labels

node_marked : (h : Head) (trees : Trees) (n labels : ℕ) → HasParts h (length (lengths trees)) →
    Inside trees labels →
    length (label_here h n) + labels ≡ (head_jumps h (all_jumps (map tree_jumps trees))).labels
node_marked head.Labeled trees n labels has is = omega (arith, is)
node_marked head.Block trees n labels has is = omega (arith, is)
node_marked (head.If test) trees n labels has is = omega (arith, is)
node_marked head.Loop trees n labels has is = omega (arith, is)
node_marked (head.Assign base len index value) trees n labels has is = omega (arith, is)
node_marked (head.Input cell) trees n labels has is = omega (arith, is)
node_marked (head.Call function) trees n labels has is = omega (arith, is)
node_marked (head.Goto label) trees n labels has is = omega (arith, is, no_trees trees has)
node_marked head.Break trees n labels has is = omega (arith, is, no_trees trees has)
node_marked head.Continue trees n labels has is = omega (arith, is, no_trees trees has)
node_marked head.Leave trees n labels has is = omega (arith, is)
node_marked head.Stop trees n labels has is = omega (arith, is)
node_marked head.Error trees n labels has is = omega (arith, is)

abbrev HeldMarked : Type 0
HeldMarked = (t : CoreTree) × Marked t

all_marked : (held : List HeldMarked) →
    AllByRecursion Marked (map (λ (t : HeldMarked). t.0) held)
all_marked [] = tt
all_marked (t ∷ held) = (t.1, all_marked held)

abbrev bare_marked : CoreTree-F HeldMarked → CoreTree-F CoreTree
bare_marked y = map-CoreTree HeldMarked CoreTree (λ t. t.0) y

layer_marked : (y : CoreTree-F HeldMarked) (n : ℕ) → AllFit (node_of (bare_marked y)) →
    length (labels_from n (node_of (bare_marked y)))
    ≡ (node_jumps (map-CoreTree CoreTree Jumps tree_jumps (bare_marked y))).labels
layer_marked (CoreTree-F.Node h held place) n fits =
    let trees = map (λ (t : HeldMarked). t.0) held in
    let others = joined (map statements trees) in
    length-append (label_here h n) (labels_from (n + 1) others)
    ∙ node_marked h trees n (length (labels_from (n + 1) others)) fits.0.0
    (forest_marked trees (all_marked held) (n + 1) fits.1)

marked_at : (y : CoreTree-F HeldMarked) (x : CoreTree-F CoreTree) → bare_marked y ≡ x →
    Marked (roll-CoreTree x)
marked_at y x is =
    subst (λ (z : CoreTree-F CoreTree). Marked (roll-CoreTree z)) is (record {
      at = λ n fits.
          ap (λ (ps : List Placed). length (labels_from n ps)) (open_statements (bare_marked y))
          ∙ layer_marked y n (subst AllFit (open_statements (bare_marked y)) fits)
          ∙ ap (λ (a : Jumps). a.labels) (sym (open_jumps (bare_marked y)));
    })

pub marked : (t : CoreTree) → Marked t
marked = ind-CoreTree Marked (λ x y is. marked_at y x is)

pub each_marked : (trees : Trees) → AllByRecursion Marked trees
each_marked [] = tt
each_marked (t ∷ trees) = (marked t, each_marked trees)

-- gotos

below_left : (n : ℕ) (a b : List ℕ) → AllBelow n (a ++ b) → AllBelow n a
below_left n [] b h = tt
below_left n (l ∷ a) b h = (h.0, below_left n a b h.1)

below_right : (n : ℕ) (a b : List ℕ) → AllBelow n (a ++ b) → AllBelow n b
below_right n [] b h = h
below_right n (l ∷ a) b h = below_right n a b h.1

gotos_append : (n : ℕ) (a b : List Placed) → GotosBelow n a → GotosBelow n b →
    GotosBelow n (a ++ b)
gotos_append n [] b h k = k
gotos_append n (p ∷ a) b h k = (h.0, gotos_append n a b h.1 k)

module _ (n : ℕ) where
  forest_going : (trees : Trees) → AllByRecursion (Going n) trees →
      AllFit (joined (map statements trees)) →
      AllBelow n (all_jumps (map tree_jumps trees)).gotos →
      GotosBelow n (joined (map statements trees))
  forest_going [] all fits below = tt
  forest_going (t ∷ trees) all fits below =
      let own = statements t in
      let others = joined (map statements trees) in
      let rest = (all_jumps (map tree_jumps trees)).gotos in
      gotos_append n own others
      (all.0.at (fit_left own others fits) (below_left n (tree_jumps t).gotos rest below))
      (forest_going trees all.1 (fit_right own others fits)
      (below_right n (tree_jumps t).gotos rest below))

  none_going : (trees : Trees) → length (lengths trees) ≡ 0 →
      GotosBelow n (joined (map statements trees))
  none_going [] none = tt
  none_going (t ∷ trees) none = absurd (omega (arith, none))

  node_going : (h : Head) (trees : Trees) → AllByRecursion (Going n) trees →
      HasParts h (length (lengths trees)) → AllFit (joined (map statements trees)) →
      AllBelow n (head_jumps h (all_jumps (map tree_jumps trees))).gotos →
      GotoBelow n h × GotosBelow n (joined (map statements trees))
  node_going head.Labeled trees all has fits below = (tt, forest_going trees all fits below)
  node_going head.Block trees all has fits below = (tt, forest_going trees all fits below)
  node_going (head.If test) trees all has fits below = (tt, forest_going trees all fits below)
  node_going head.Loop trees all has fits below = (tt, forest_going trees all fits below)
  node_going (head.Assign base len index value) trees all has fits below =
      (tt, forest_going trees all fits below)
  node_going (head.Input cell) trees all has fits below = (tt, forest_going trees all fits below)
  node_going (head.Call function) trees all has fits below =
      (tt, forest_going trees all fits below)
  node_going (head.Goto label) trees all has fits below = (below.0, none_going trees has)
  node_going head.Break trees all has fits below = (tt, none_going trees has)
  node_going head.Continue trees all has fits below = (tt, none_going trees has)
  node_going head.Leave trees all has fits below = (tt, forest_going trees all fits below)
  node_going head.Stop trees all has fits below = (tt, forest_going trees all fits below)
  node_going head.Error trees all has fits below = (tt, forest_going trees all fits below)

  abbrev Held : Type 0
  Held = (t : CoreTree) × Going n t

  all_held : (held : List Held) → AllByRecursion (Going n) (map (λ (t : Held). t.0) held)
  all_held [] = tt
  all_held (t ∷ held) = (t.1, all_held held)

  abbrev bare : CoreTree-F Held → CoreTree-F CoreTree
  bare y = map-CoreTree Held CoreTree (λ t. t.0) y

  layer : (y : CoreTree-F Held) → AllFit (node_of (bare y)) →
      AllBelow n (node_jumps (map-CoreTree CoreTree Jumps tree_jumps (bare y))).gotos →
      GotosBelow n (node_of (bare y))
  layer (CoreTree-F.Node h held place) fits below =
      node_going h (map (λ (t : Held). t.0) held) (all_held held) fits.0.0 fits.1 below

  at_tree : (y : CoreTree-F Held) (x : CoreTree-F CoreTree) → bare y ≡ x →
      Going n (roll-CoreTree x)
  at_tree y x is =
      subst (λ (z : CoreTree-F CoreTree). Going n (roll-CoreTree z)) is (record {
        at = λ fits below.
            subst (GotosBelow n) (sym (open_statements (bare y)))
            (layer y (subst AllFit (open_statements (bare y)) fits)
            (subst (λ (a : Jumps). AllBelow n a.gotos) (open_jumps (bare y)) below));
      })

  pub going : (t : CoreTree) → Going n t
  going = ind-CoreTree (Going n) (λ x y is. at_tree y x is)
