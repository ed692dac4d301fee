-- The trees that the rules make have nodes with as many parts as their heads ask for.
use Rattle.std.proofs.Common.{ℕ, Bool, true, false, if◌then◌else◌, List, [], ◌∷◌, ◌++◌, length}
use Rattle.std.proofs.Common.{refl}
use Rattle.std.specs.List.{AllByRecursion}
use Rattle.cpa_ints.specs.declared.integers.IntType.{IntType}
use Rattle.cpa_expr.specs.declared.tree.Expr.{Expr}
use Rattle.cpa_model_trees.specs.declared.tree.Head.{Head}
use Rattle.cpa_model_trees.specs.declared.tree.Head.TheVariants as head
use Rattle.c_core_rules.specs.declared.tree.Location.{Location}
use Rattle.c_core_rules.specs.Values.{cell_at, conv, first_index}
use Rattle.cpa_model_trees.specs.Numbering.{Trees}
use Rattle.c_core_rules.specs.Trees.{leaf, block, choice, repeated, write, set}
use Rattle.c_core_rules.specs.Cells.{Taken}
use Rattle.c_core_rules.specs.Cells as core
use Rattle.cpa_model_trees.specs.Shapes.{HasParts, Shaped, AllShaped}
use Rattle.cpa_model_trees.specs.lemmas.Nodes.{shaped_node}
use Rattle.c_core_laws.proofs.Extending.{Extends, nothing_more, extended}

-- a head that is no label, no loop and no jump
abbrev pub IsPlain : Head → Type 0
IsPlain head.Labeled = ⊥
IsPlain head.Loop = ⊥
IsPlain (head.Goto label) = ⊥
IsPlain head.Break = ⊥
IsPlain head.Continue = ⊥
IsPlain head.Leave = ⊥
IsPlain _ = Unit {0}

module _ (H : Head → Type 0) (plain : (h : Head) → IsPlain h → H h) where
  pub leaf_shaped : (origin : ℕ) (h : Head) → HasParts h 0 → H h → Shaped H (leaf origin h)
  leaf_shaped origin h has is = shaped_node H h [] origin has is tt

  pub set_shaped : (origin : ℕ) (place : Location) (v : Expr) → Shaped H (set origin place v)
  set_shaped origin place v =
      let h = head.Assign place.base place.len first_index (conv v place.ty) in
      leaf_shaped origin h refl (plain h tt)

  pub write_shaped : (origin : ℕ) (place : Location) (index v : Expr) →
      Shaped H (write origin place index v)
  write_shaped origin place index v =
      let h = head.Assign place.base place.len index (conv v place.ty) in
      leaf_shaped origin h refl (plain h tt)

  pub block_shaped : (origin : ℕ) (items : Trees) → AllShaped H items →
      Shaped H (block origin items)
  block_shaped origin items all = shaped_node H head.Block items origin tt (plain head.Block tt) all

  pub choice_shaped : (origin : ℕ) (test : Expr) (first second : Trees) → AllShaped H first →
      AllShaped H second → Shaped H (choice origin test first second)
  choice_shaped origin test first second a b =
      shaped_node H (head.If test) (block origin first ∷ block origin second ∷ []) origin refl
      (plain (head.If test) tt)
      (block_shaped origin first a, (block_shaped origin second b, tt))

  pub repeated_shaped : (origin : ℕ) (body step : Trees) → H head.Loop → AllShaped H body →
      AllShaped H step → Shaped H (repeated origin body step)
  repeated_shaped origin body step is a b =
      shaped_node H head.Loop (block origin body ∷ block origin step ∷ []) origin refl is
      (block_shaped origin body a, (block_shaped origin step b, tt))

-- what a rule makes, whatever is taken before it; and that the cells which it takes start at 0
pub record Makes {S : Type 0} (P : S → Type 0) (rule : core.Rule S) : Type 0 where
  pub at : (taken : Taken) → P (rule taken).made
  pub extends : (taken : Taken) → Extends taken.cells (rule taken).taken.cells

pub makes : {S : Type 0} (P : S → Type 0) (x : S) → P x → Makes P (core.gives x)
makes P x h = record { at = λ taken. h; extends = λ taken. nothing_more taken.cells }

pub makes_then : {S U : Type 0} {P : S → Type 0} {Q : U → Type 0} {first : core.Rule S}
    (second : S → core.Rule U) → Makes P first → ((x : S) → P x → Makes Q (second x)) →
    Makes Q (core.then_by first second)
makes_then {first = first} second a b = record {
  at = λ taken. (b (first taken).made (a.at taken)).at (first taken).taken;
  extends = λ taken.
      let m = first taken in
      extended taken.cells m.taken.cells (second m.made m.taken).taken.cells (a.extends taken)
      ((b m.made (a.at taken)).extends m.taken);
}

pub makes_either : {S : Type 0} {P : S → Type 0} (b : Bool) (r s : core.Rule S) → Makes P r →
    Makes P s → Makes P (if b then r else s)
makes_either true r s h k = h
makes_either false r s h k = k

pub makes_freshly : {S : Type 0} (P : S → Type 0) (t : IntType) (make : Location → S) →
    ((place : Location) → P (make place)) →
    Makes P (core.then_by (core.fresh t) (λ place. core.gives (make place)))
makes_freshly P t make h = record {
  at = λ taken. h (cell_at t (length taken.cells));
  extends = λ taken. record { more = t ∷ []; is = refl };
}

pub makes_at : {S : Type 0} {P : S → Type 0} (rules : Taken → core.Rule S) →
    ((taken : Taken) → Makes P (rules taken)) → Makes P (λ taken. rules taken taken)
makes_at rules h = record {
  at = λ taken. (h taken).at taken;
  extends = λ taken. (h taken).extends taken;
}

-- rules in order
pub data EachMakes {S : Type 0} (P : S → Type 0) : List (core.Rule S) → Type 0 where
  none_makes : EachMakes P []
  more_make : {rule : core.Rule S} {rules : List (core.Rule S)} → Makes P rule
      → EachMakes P rules → EachMakes P (rule ∷ rules)

pub makes_each : {S : Type 0} (P : S → Type 0) {rules : List (core.Rule S)} →
    EachMakes P rules → Makes (AllByRecursion P) (core.each rules)
makes_each P none_makes = makes (AllByRecursion P) [] tt
makes_each P (more_make {rule = rule} {rules = rules} h more) =
    makes_then (λ first. core.then_by (core.each rules) (λ rest. core.gives (first ∷ rest))) h
    (λ x is. makes_then (λ rest. core.gives (x ∷ rest)) (makes_each P more)
    (λ xs are. makes (AllByRecursion P) (x ∷ xs) (is, are)))

pub makes_ordered : (P : Trees → Type 0) → P [] →
    ((xs ys : Trees) → P xs → P ys → P (xs ++ ys)) → {rules : List (core.Rule Trees)} →
    EachMakes P rules → Makes P (core.in_order rules)
makes_ordered P none behind none_makes = makes P [] none
makes_ordered P none behind (more_make {rule = rule} {rules = rules} h more) =
    makes_then (λ before. core.then_by (core.in_order rules)
    (λ after. core.gives (before ++ after)))
    h (λ x is. makes_then (λ after. core.gives (x ++ after)) (makes_ordered P none behind more)
    (λ xs are. makes P (x ++ xs) (behind x xs is are)))
