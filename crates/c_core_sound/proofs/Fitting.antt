-- Rules that make well typed trees and values, whatever is taken before them, where what is taken
-- behind them is the first part of the cells of a program.
use Rattle.std.proofs.Common.{◌≡◌, ℕ, ◌<◌, ◌≤◌, Bool, true, false, if◌then◌else◌, List, [], ◌∷◌}
use Rattle.std.proofs.Common.{◌++◌, map, length, Option, Some, refl, ap, sym, ◌∙◌, subst, slice_get}
use Rattle.std.proofs.Common.{append_assoc, pos}
use Rattle.std.specs.List.{AllByRecursion}
use Rattle.std.proofs.lemmas.List.{append-nil, map-append, length-map}
use Rattle.cpa_ints.specs.declared.integers.IntType.{IntType}
use Rattle.cpa_expr.specs.declared.tree.Expr.{Expr}
use Rattle.cpa_expr.specs.Shape.{type_of, AreCells, IsTyped}
use Rattle.cpa_model.specs.declared.program.Cell.{Cell}
use Rattle.cpa_model.specs.Expressions.{types_of}
use Rattle.cpa_model_trees.specs.declared.tree.CoreTree.{CoreTree}
use Rattle.cpa_model_trees.specs.declared.tree.CoreTree.TheVariants.{Node}
use Rattle.cpa_model_trees.specs.declared.tree.Head.{Head}
use Rattle.cpa_model_trees.specs.declared.tree.Head.TheVariants as head
use Rattle.c_core_rules.specs.declared.tree.Location.{Location}
use Rattle.c_core_rules.specs.Values.{cell_at, conv, first_index}
use Rattle.cpa_model_trees.specs.Numbering.{Trees, Placed, joined, statements}
use Rattle.c_core_rules.specs.Trees.{leaf, block, choice, repeated, write, set}
use Rattle.c_core_rules.specs.Cells.{Taken}
use Rattle.c_core_rules.specs.Cells as core
use Rattle.c_core_laws.specs.lemmas.MadeValues.{conv_type}
use Rattle.cpa_model_trees.specs.lemmas.Nodes.{node_placed}
use Rattle.c_core_sound.proofs.TypedValues.{PlaceFits, conv_typed, zero_typed, cell_fits}
use Rattle.cpa_ints.specs.declared.integers.IntType.TheVariants as ty

-- what a function stands in: the types of all cells of the program, the bodies that are called in
-- it, and what is known of a body where a call is made
pub record Ground : Type 1 where
  pub cells : List IntType
  pub calls : ℕ → Type 0
  pub lands : ℕ → Type 0

-- and what is known of where the objects begin whose names stand for them
pub record World : Type 1 where
  pub ground : Ground
  pub knows : (ℕ → Option ℕ) → Type 0

-- a head is well typed
abbrev pub HeadFits : Ground → Head → Type 0
HeadFits G (head.If test) = IsTyped G.cells test
HeadFits G (head.Assign base len index value) =
    (1 ≤ len) × IsTyped G.cells index × IsTyped G.cells value
    × AreCells G.cells base len (type_of value)
HeadFits G (head.Input cell) = cell < length G.cells
HeadFits G (head.Call function) = G.lands function
HeadFits G _ = Unit {0}

abbrev pub PlacedFit : Ground → List Placed → Type 0
PlacedFit G placed = AllByRecursion (λ (p : Placed). HeadFits G p.head) placed

-- each statement of a tree is
pub record TreeFits (G : Ground) (t : CoreTree) : Type 0 where
  pub all : PlacedFit G (statements t)

abbrev pub TreesFit : Ground → Trees → Type 0
TreesFit G trees = AllByRecursion (TreeFits G) trees

module _ (G : Ground) where
  placed_append : (a b : List Placed) → PlacedFit G a → PlacedFit G b → PlacedFit G (a ++ b)
  placed_append [] b h k = k
  placed_append (p ∷ a) b h k = (h.0, placed_append a b h.1 k)

  joined_fit : (trees : Trees) → TreesFit G trees → PlacedFit G (joined (map statements trees))
  joined_fit [] h = tt
  joined_fit (t ∷ trees) h =
      placed_append (statements t) (joined (map statements trees)) h.0.all (joined_fit trees h.1)

  pub node_fits : (origin : ℕ) (h : Head) (parts : Trees) → HeadFits G h → TreesFit G parts →
      TreeFits G (Node h parts origin)
  node_fits origin h parts is all = record {
    all = subst (PlacedFit G) (sym (node_placed h parts origin)) (is, joined_fit parts all);
  }

  pub leaf_fits : (origin : ℕ) (h : Head) → HeadFits G h → TreeFits G (leaf origin h)
  leaf_fits origin h is = node_fits origin h [] is tt

  pub append_fits : (xs ys : Trees) → TreesFit G xs → TreesFit G ys → TreesFit G (xs ++ ys)
  append_fits [] ys a b = b
  append_fits (t ∷ xs) ys a b = (a.0, append_fits xs ys a.1 b)

  pub push_fits : (xs : Trees) (t : CoreTree) → TreesFit G xs → TreeFits G t →
      TreesFit G (xs ++ t ∷ [])
  push_fits xs t a b = append_fits xs (t ∷ []) a (b, tt)

  pub block_fits : (origin : ℕ) (items : Trees) → TreesFit G items → TreeFits G (block origin items)
  block_fits origin items all = node_fits origin head.Block items tt all

  pub choice_fits : (origin : ℕ) (test : Expr) (first second : Trees) → IsTyped G.cells test →
      TreesFit G first → TreesFit G second → TreeFits G (choice origin test first second)
  choice_fits origin test first second h a b =
      node_fits origin (head.If test) (block origin first ∷ block origin second ∷ []) h
      (block_fits origin first a, (block_fits origin second b, tt))

  pub repeated_fits : (origin : ℕ) (body step : Trees) → TreesFit G body → TreesFit G step →
      TreeFits G (repeated origin body step)
  repeated_fits origin body step a b =
      node_fits origin head.Loop (block origin body ∷ block origin step ∷ []) tt
      (block_fits origin body a, (block_fits origin step b, tt))

  pub write_fits : (origin : ℕ) (place : Location) (index v : Expr) → PlaceFits G.cells place →
      IsTyped G.cells index → IsTyped G.cells v → TreeFits G (write origin place index v)
  write_fits origin place index v p h k =
      let value = conv v place.ty in
      leaf_fits origin (head.Assign place.base place.len index value) (
        p.some,
        h,
        conv_typed G.cells v place.ty k,
        subst (AreCells G.cells place.base place.len) (sym (conv_type v place.ty)) p.there,
      )

  pub set_fits : (origin : ℕ) (place : Location) (v : Expr) → PlaceFits G.cells place →
      IsTyped G.cells v →
      TreeFits G (set origin place v)
  set_fits origin place v p k = write_fits origin place first_index v p (zero_typed G.cells ty.I32)
      k

-- more is taken
pub record Extends (before after : Taken) : Type 0 where
  pub more : List IntType
  pub is : types_of after.cells ≡ types_of before.cells ++ more

-- what is taken is the first part of all
pub record Within (all : List IntType) (taken : Taken) : Type 0 where
  pub more : List IntType
  pub is : all ≡ types_of taken.cells ++ more

pub within_before : (all : List IntType) (a b : Taken) → Extends a b → Within all b → Within all a
within_before all a b e w = record {
  more = e.more ++ w.more;
  is = w.is ∙ ap (λ ts. ts ++ w.more) e.is ∙ append_assoc (types_of a.cells) e.more w.more;
}

pub extends_none : (a : Taken) → Extends a a
extends_none a = record { more = []; is = sym (append-nil (types_of a.cells)) }

pub extends_both : (a b c : Taken) → Extends a b → Extends b c → Extends a c
extends_both a b c e f = record {
  more = e.more ++ f.more;
  is = f.is ∙ ap (λ ts. ts ++ f.more) e.is ∙ append_assoc (types_of a.cells) e.more f.more;
}

-- a fresh cell is the last one
pub pushed : (t : IntType) (taken : Taken) →
    types_of (taken.cells ++ core.cell t (pos 0) ∷ []) ≡ types_of taken.cells ++ t ∷ []
pushed t taken = map-append (λ (cell : Cell). cell.ty) taken.cells (core.cell t (pos 0) ∷ [])

pub get_behind : (xs : List IntType) (t : IntType) (more : List IntType) →
    slice_get ((xs ++ t ∷ []) ++ more) (length xs) ≡ Some t
get_behind [] t more = refl
get_behind (x ∷ xs) t more = get_behind xs t more

-- What a rule makes, where this is given, whatever is taken before it. It takes no object.
pub record Fits (W : World) (Given : Type 0) {S : Type 0} (P : S → Type 0) (rule : core.Rule S)
    : Type 0 where
  pub extends : (taken : Taken) → Extends taken (rule taken).taken
  pub keeps : (taken : Taken) → (rule taken).taken.starts ≡ taken.starts
  pub at : (taken : Taken) → Given → W.knows taken.starts → Within W.ground.cells (rule taken).taken
      →
      P (rule taken).made

module _ (W : World) where
  pub fits_gives : {S : Type 0} {Given : Type 0} (P : S → Type 0) (x : S) → (Given → P x) →
      Fits W Given P (core.gives x)
  fits_gives P x f = record {
    extends = λ taken. extends_none taken;
    keeps = λ taken. refl;
    at = λ taken g k w. f g;
  }

  pub fits_then : {S U Given : Type 0} {P : S → Type 0} {Q : U → Type 0} {first : core.Rule S}
      (second : S → core.Rule U) → Fits W Given P first →
      ((x : S) → Fits W (Given × P x) Q (second x)) →
      Fits W Given Q (core.then_by first second)
  fits_then {first = first} second a b = record {
    extends = λ taken.
        let m = first taken in
        extends_both taken m.taken (second m.made m.taken).taken (a.extends taken)
        ((b m.made).extends m.taken);
    keeps = λ taken.
        let m = first taken in (b m.made).keeps m.taken ∙ a.keeps taken;
    at = λ taken g k w.
        let m = first taken in
        let before = within_before W.ground.cells m.taken (second m.made m.taken).taken
        ((b m.made).extends m.taken) w in
        (b m.made).at m.taken (g, a.at taken g k before) (subst W.knows (sym (a.keeps taken)) k) w;
  }

  pub fits_weaker : {S Given More : Type 0} {P : S → Type 0} {rule : core.Rule S} →
      (More → Given) → Fits W Given P rule → Fits W More P rule
  fits_weaker f h = record {
    extends = h.extends;
    keeps = h.keeps;
    at = λ taken g k w. h.at taken (f g) k w;
  }

  pub fits_either : {S Given : Type 0} {P : S → Type 0} (b : Bool) (r s : core.Rule S) →
      Fits W Given P r → Fits W Given P s → Fits W Given P (if b then r else s)
  fits_either true r s h k = h
  fits_either false r s h k = k

  pub fits_at : {S Given : Type 0} {P : S → Type 0} (rules : Taken → core.Rule S) →
      ((taken : Taken) → Fits W (Given × W.knows taken.starts) P (rules taken)) →
      Fits W Given P (λ taken. rules taken taken)
  fits_at rules h = record {
    extends = λ taken. (h taken).extends taken;
    keeps = λ taken. (h taken).keeps taken;
    at = λ taken g k w. (h taken).at taken (g, k) k w;
  }

  -- a fresh cell
  pub fits_freshly : {S Given : Type 0} (P : S → Type 0) (t : IntType) (make : Location → S) →
      ((place : Location) → Given → PlaceFits W.ground.cells place → place.ty ≡ t → P (make place))
      →
      Fits W Given P (core.then_by (core.fresh t) (λ place. core.gives (make place)))
  fits_freshly P t make h = record {
    extends = λ taken. record { more = t ∷ []; is = pushed t taken };
    keeps = λ taken. refl;
    at = λ taken g k w.
        let n = length taken.cells in
        let many : n ≡ length (types_of taken.cells) =
        sym (length-map taken.cells (λ (cell : Cell). cell.ty)) in
        let here : slice_get W.ground.cells n ≡ Some t =
        ap (λ (ts : List IntType). slice_get ts n)
        (w.is ∙ ap (λ ts. ts ++ w.more) (pushed t taken))
        ∙ ap (slice_get ((types_of taken.cells ++ t ∷ []) ++ w.more)) many
        ∙ get_behind (types_of taken.cells) t w.more in
        h (cell_at t n) g (cell_fits W.ground.cells t n here) refl;
  }

-- rules in order
pub data EachFits (W : World) (Given : Type 0) {S : Type 0} (P : S → Type 0)
    : List (core.Rule S) → Type 0 where
  none_fits : EachFits W Given P []
  more_fit : {rule : core.Rule S} {rules : List (core.Rule S)} → Fits W Given P rule
      → EachFits W Given P rules → EachFits W Given P (rule ∷ rules)

module _ (W : World) (Given : Type 0) where
  pub fits_each : {S : Type 0} (P : S → Type 0) {rules : List (core.Rule S)} →
      EachFits W Given P rules → Fits W Given (AllByRecursion P) (core.each rules)
  fits_each P none_fits = fits_gives W (AllByRecursion P) [] (λ g. tt)
  fits_each P (more_fit {rule = rule} {rules = rules} h more) =
      fits_then W (λ first. core.then_by (core.each rules) (λ rest. core.gives (first ∷ rest))) h
      (λ x. fits_then W (λ rest. core.gives (x ∷ rest))
      (fits_weaker W (λ g. g.0) (fits_each P more))
      (λ xs. fits_gives W (AllByRecursion P) (x ∷ xs) (λ g. (g.0.1, g.1))))

  pub fits_ordered : {rules : List (core.Rule Trees)} → EachFits W Given (TreesFit W.ground) rules →
      Fits W Given (TreesFit W.ground) (core.in_order rules)
  fits_ordered none_fits = fits_gives W (TreesFit W.ground) [] (λ g. tt)
  fits_ordered (more_fit {rule = rule} {rules = rules} h more) =
      fits_then W (λ before. core.then_by (core.in_order rules)
      (λ after. core.gives (before ++ after))) h
      (λ x. fits_then W (λ after. core.gives (x ++ after))
      (fits_weaker W (λ g. g.0) (fits_ordered more))
      (λ xs. fits_gives W (TreesFit W.ground) (x ++ xs) (λ g. append_fits W.ground x xs g.0.1 g.1)))
