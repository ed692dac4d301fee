-- What a test leaves of the bounds of cells, by its form.
use Rattle.std.proofs.Common.{◌≡◌, ℤ, pos, Bool, true, false, not, List, refl, sym, ap, ◌∙◌, subst}
use Rattle.std.proofs.Common.{cond}
use Rattle.std.specs.Prelude.{Option, None, Some, IsSomeAnd, option_and_then}
use Rattle.std.specs.Prelude.{if◌then◌else◌}
use Rattle.cpa_ints.specs.declared.integers.IntType.{IntType}
use Rattle.cpa_expr.specs.declared.tree.Expr.{Expr, out-Expr, roll-Expr}
use Rattle.cpa_expr.specs.declared.tree.Expr.TheVariants.{And, Or, Not, rolls-And, rolls-Or}
use Rattle.cpa_expr.specs.declared.tree.Expr.TheVariants.{rolls-Not}
use Rattle.cpa_expr.specs.declared.tree.Expr.TheOpen.{Expr-F}
use Rattle.cpa_expr.specs.declared.tree.Expr.TheViews.{roll-out-Expr, out-roll-Expr}
use Rattle.cpa_expr.specs.declared.tree.Expr.TheFolds.{map-Expr, fold-Expr, fold-roll-Expr}
use Rattle.cpa_expr.specs.Shape.{OfParts, IsTyped, IsTypedHere}
use Rattle.cpa_expr.specs.Values.{value_of, value_step, logical_and, logical_or, logical_not, truth}
use Rattle.cpa_expr.specs.Values.{truth_of, is_nonzero}
use Rattle.cpa_expr.specs.lemmas.Layers.{value_rolled, values_in}
use Rattle.cpa_expr.specs.lemmas.Parts.{by_parts, every_rolled}
use Rattle.cpa_folds.specs.lemmas.ScalarReads.{StaysInRange}
use Rattle.cpa_interval_bounds.specs.declared.bounds.Bounds.{Bounds}
use Rattle.cpa_interval_bounds.specs.ExpressionBounds.{AreOf, LieWithin}
use Rattle.cpa_interval_acts.specs.Cuts.{Assumed, decided, assume_step, assumed, after_node}
use Rattle.cpa_interval_acts.specs.lemmas.CutLemmas.{Lies, Are, are_then, decided_lies}
use Rattle.cpa_interval_acts.specs.lemmas.CutLemmas.{decided_are}

abbrev assuming : Expr → Assumed
assuming = fold-Expr Assumed assume_step

-- ---- the test that is kept beside is the test itself

abbrev Kept : Expr → Type 0
Kept e = (assuming e).whole ≡ e

abbrev wholes : Expr-F Expr → Expr-F Expr
wholes x = map-Expr Assumed Expr (λ p. p.whole) (map-Expr Expr Assumed assuming x)

layer_kept : (x : Expr-F Expr) → OfParts Kept x → wholes x ≡ x
layer_kept (Expr-F.Const t n) h = refl
layer_kept (Expr-F.Read t base len index) h = ap (λ z. Expr-F.Read t base len z) h.0
layer_kept (Expr-F.Un o t arg) h = ap (λ z. Expr-F.Un o t z) h.0
layer_kept (Expr-F.Bin o t left right) h =
    ap (λ z. Expr-F.Bin o t z (assuming right).whole) h.0
    ∙ ap (λ z. Expr-F.Bin o t left z) (h.1).0
layer_kept (Expr-F.Cmp o t left right) h =
    ap (λ z. Expr-F.Cmp o t z (assuming right).whole) h.0
    ∙ ap (λ z. Expr-F.Cmp o t left z) (h.1).0
layer_kept (Expr-F.Cast t arg) h = ap (λ z. Expr-F.Cast t z) h.0
layer_kept (Expr-F.And left right) h =
    ap (λ z. Expr-F.And z (assuming right).whole) h.0 ∙ ap (λ z. Expr-F.And left z) (h.1).0
layer_kept (Expr-F.Or left right) h =
    ap (λ z. Expr-F.Or z (assuming right).whole) h.0 ∙ ap (λ z. Expr-F.Or left z) (h.1).0
layer_kept (Expr-F.Not arg) h = ap (λ z. Expr-F.Not z) h.0
layer_kept (Expr-F.Cond t test first second) h =
    ap (λ z. Expr-F.Cond t z (assuming first).whole (assuming second).whole) h.0
    ∙ (ap (λ z. Expr-F.Cond t test z (assuming second).whole) (h.1).0
    ∙ ap (λ z. Expr-F.Cond t test first z) ((h.1).1).0)

kept : (e : Expr) → Kept e
kept = by_parts Kept (λ x h.
    ap (λ (a : Assumed). a.whole) (fold-roll-Expr Assumed assume_step x)
    ∙ ap roll-Expr (layer_kept x h))

each_kept : (x : Expr-F Expr) → OfParts Kept x
each_kept (Expr-F.Const t n) = tt
each_kept (Expr-F.Read t base len index) = (kept index, tt)
each_kept (Expr-F.Un o t arg) = (kept arg, tt)
each_kept (Expr-F.Bin o t left right) = (kept left, (kept right, tt))
each_kept (Expr-F.Cmp o t left right) = (kept left, (kept right, tt))
each_kept (Expr-F.Cast t arg) = (kept arg, tt)
each_kept (Expr-F.And left right) = (kept left, (kept right, tt))
each_kept (Expr-F.Or left right) = (kept left, (kept right, tt))
each_kept (Expr-F.Not arg) = (kept arg, tt)
each_kept (Expr-F.Cond t test first second) =
    (kept test, (kept first, (kept second, tt)))

-- ---- a node

-- what a node leaves
abbrev pub at_node : Expr → Expr-F Expr → Bool → List Bounds → Option (List Bounds)
at_node e x = after_node e (map-Expr Expr Assumed assuming x)

pub assumed_rolled : (x : Expr-F Expr) → assumed (roll-Expr x) ≡ at_node (roll-Expr x) x
assumed_rolled x =
    ap (λ (a : Assumed). a.after) (fold-roll-Expr Assumed assume_step x)
    ∙ ap (λ e. after_node e (map-Expr Expr Assumed assuming x))
    (ap roll-Expr (layer_kept x (each_kept x)))

-- the same of an expression
pub assumed_out : (e : Expr) → assumed e ≡ at_node e (out-Expr e)
assumed_out e =
    subst (λ d. assumed d ≡ at_node d (out-Expr d)) (roll-out-Expr e)
    (assumed_rolled (out-Expr e) ∙ ap (at_node (roll-Expr (out-Expr e)))
    (sym (out-roll-Expr (out-Expr e))))

-- the same at each variant
at_variant : (e : Expr) (x : Expr-F Expr) → roll-Expr x ≡ e → assumed e ≡ at_node e x
at_variant e x is = subst (λ d. assumed d ≡ at_node d x) is (assumed_rolled x)

pub assumed_and : (left right : Expr) (holds : Bool) (bs : List Bounds)
    → assumed (And left right) holds bs
    ≡ (if holds then option_and_then (assumed right true) (assumed left true bs)
    else decided (And left right) holds bs)
assumed_and left right holds bs = ap (λ (f : Bool → List Bounds → Option (List Bounds)). f holds bs)
    (at_variant (And left right) (Expr-F.And left right) (rolls-And left right))

pub assumed_or : (left right : Expr) (holds : Bool) (bs : List Bounds)
    → assumed (Or left right) holds bs
    ≡ (if holds then decided (Or left right) holds bs
    else option_and_then (assumed right false) (assumed left false bs))
assumed_or left right holds bs = ap (λ (f : Bool → List Bounds → Option (List Bounds)). f holds bs)
    (at_variant (Or left right) (Expr-F.Or left right) (rolls-Or left right))

pub assumed_not : (arg : Expr) (holds : Bool) (bs : List Bounds)
    → assumed (Not arg) holds bs ≡ assumed arg (not holds) bs
assumed_not arg holds bs = ap (λ (f : Bool → List Bounds → Option (List Bounds)). f holds bs)
    (at_variant (Not arg) (Expr-F.Not arg) (rolls-Not arg))

-- a conjunction that is to fail, and a disjunction that is to hold, are asked as a whole
pub and_decided : (e left right : Expr) (holds : Bool) (bs : List Bounds) → e ≡ And left right
    → holds ≡ false → decided e holds bs ≡ assumed e holds bs
and_decided e left right holds bs is none =
    subst (λ x. decided x holds bs ≡ assumed x holds bs) (sym is)
    (sym (assumed_and left right holds bs
    ∙ ap (λ b. cond b (option_and_then (assumed right true) (assumed left true bs))
    (decided (And left right) holds bs)) none))

pub or_decided : (e left right : Expr) (holds : Bool) (bs : List Bounds) → e ≡ Or left right
    → holds ≡ true → decided e holds bs ≡ assumed e holds bs
or_decided e left right holds bs is all =
    subst (λ x. decided x holds bs ≡ assumed x holds bs) (sym is)
    (sym (assumed_or left right holds bs
    ∙ ap (λ b. cond b (decided (Or left right) holds bs)
    (option_and_then (assumed right false) (assumed left false bs))) all))

-- a test of another form is asked as a whole
abbrev pub is_whole_node : {A : Type 0} → Expr-F A → Bool
is_whole_node (Expr-F.And left right) = false
is_whole_node (Expr-F.Or left right) = false
is_whole_node (Expr-F.Not arg) = false
is_whole_node node = true

-- a test that is none of the three
pub plain_whole : (e : Expr) → ((left right : Expr) → e ≡ And left right → ⊥)
    → ((left right : Expr) → e ≡ Or left right → ⊥) → ((arg : Expr) → e ≡ Not arg → ⊥)
    → is_whole_node (out-Expr e) ≡ true
plain_whole e not_and not_or not_not = by (out-Expr e) refl where
  by : (x : Expr-F Expr) → out-Expr e ≡ x → is_whole_node x ≡ true
  by (Expr-F.And left right) is =
      absurd (not_and left right
      (sym (ap roll-Expr (sym is) ∙ roll-out-Expr e) ∙ rolls-And left right))
  by (Expr-F.Or left right) is =
      absurd (not_or left right
      (sym (ap roll-Expr (sym is) ∙ roll-out-Expr e) ∙ rolls-Or left right))
  by (Expr-F.Not arg) is =
      absurd (not_not arg (sym (ap roll-Expr (sym is) ∙ roll-out-Expr e) ∙ rolls-Not arg))
  by (Expr-F.Const t n) is = refl
  by (Expr-F.Read t base len index) is = refl
  by (Expr-F.Un o t arg) is = refl
  by (Expr-F.Bin o t left right) is = refl
  by (Expr-F.Cmp o t left right) is = refl
  by (Expr-F.Cast t arg) is = refl
  by (Expr-F.Cond t test first second) is = refl

whole_node : (e : Expr) (x : Expr-F Expr) (holds : Bool) (bs : List Bounds)
    → is_whole_node x ≡ true → at_node e x holds bs ≡ decided e holds bs
whole_node e (Expr-F.Const t n) holds bs is = refl
whole_node e (Expr-F.Read t base len index) holds bs is = refl
whole_node e (Expr-F.Un o t arg) holds bs is = refl
whole_node e (Expr-F.Bin o t left right) holds bs is = refl
whole_node e (Expr-F.Cmp o t left right) holds bs is = refl
whole_node e (Expr-F.Cast t arg) holds bs is = refl
whole_node e (Expr-F.Cond t test first second) holds bs is = refl
whole_node e (Expr-F.And left right) holds bs is = absurd (cc)
whole_node e (Expr-F.Or left right) holds bs is = absurd (cc)
whole_node e (Expr-F.Not arg) holds bs is = absurd (cc)

pub assumed_whole : (e : Expr) (holds : Bool) (bs : List Bounds)
    → is_whole_node (out-Expr e) ≡ true → assumed e holds bs ≡ decided e holds bs
assumed_whole e holds bs is =
    ap (λ (f : Bool → List Bounds → Option (List Bounds)). f holds bs) (assumed_out e)
    ∙ whole_node e (out-Expr e) holds bs is

-- ---- what is left is of the types

module _ (types : List IntType) where
  abbrev Typed : Expr → Type 0
  Typed e = (holds : Bool) (bs : List Bounds) → IsTyped types e → AreOf types bs
      → Are types (assumed e holds bs)

  both_are : (left right : Expr) (holds : Bool) (bs : List Bounds) → Typed left → Typed right
      → IsTyped types left → IsTyped types right → AreOf types bs
      → Are types (option_and_then (assumed right holds) (assumed left holds bs))
  both_are left right holds bs first second tl tr are =
      are_then types (assumed left holds bs) (assumed right holds) (first holds bs tl are)
      (λ after is. second holds after tr is)

  typed_node : (x : Expr-F Expr) (holds : Bool) (bs : List Bounds) → OfParts Typed x
      → OfParts (IsTyped types) x → IsTyped types (roll-Expr x) → AreOf types bs
      → Are types (at_node (roll-Expr x) x holds bs)
  typed_node (Expr-F.And left right) true bs h parts whole are =
      both_are left right true bs h.0 (h.1).0 parts.0 (parts.1).0 are
  typed_node (Expr-F.And left right) false bs h parts whole are =
      decided_are types (roll-Expr (Expr-F.And left right)) false bs are whole
  typed_node (Expr-F.Or left right) true bs h parts whole are =
      decided_are types (roll-Expr (Expr-F.Or left right)) true bs are whole
  typed_node (Expr-F.Or left right) false bs h parts whole are =
      both_are left right false bs h.0 (h.1).0 parts.0 (parts.1).0 are
  typed_node (Expr-F.Not arg) holds bs h parts whole are = h.0 (not holds) bs parts.0 are
  typed_node (Expr-F.Const t n) holds bs h parts whole are =
      decided_are types (roll-Expr (Expr-F.Const t n)) holds bs are whole
  typed_node (Expr-F.Read t base len index) holds bs h parts whole are =
      decided_are types (roll-Expr (Expr-F.Read t base len index)) holds bs are whole
  typed_node (Expr-F.Un o t arg) holds bs h parts whole are =
      decided_are types (roll-Expr (Expr-F.Un o t arg)) holds bs are whole
  typed_node (Expr-F.Bin o t left right) holds bs h parts whole are =
      decided_are types (roll-Expr (Expr-F.Bin o t left right)) holds bs are whole
  typed_node (Expr-F.Cmp o t left right) holds bs h parts whole are =
      decided_are types (roll-Expr (Expr-F.Cmp o t left right)) holds bs are whole
  typed_node (Expr-F.Cast t arg) holds bs h parts whole are =
      decided_are types (roll-Expr (Expr-F.Cast t arg)) holds bs are whole
  typed_node (Expr-F.Cond t test first second) holds bs h parts whole are =
      decided_are types (roll-Expr (Expr-F.Cond t test first second)) holds bs are whole

  pub assumed_are : (e : Expr) → Typed e
  assumed_are = by_parts Typed (λ x h holds bs typed are.
      subst (λ f. Are types (f holds bs)) (sym (assumed_rolled x))
      (typed_node x holds bs h (every_rolled (IsTypedHere types) x typed).1 typed are))

-- ---- what is left has the values of the stores where the test has this truth

abbrev Truly : Option ℤ → Bool → Type 0
Truly o holds = IsSomeAnd o (λ a. is_nonzero a ≡ holds)

back_truth : (a : ℤ) (holds : Bool) → is_nonzero (truth (is_nonzero a)) ≡ holds
    → is_nonzero a ≡ holds
back_truth a holds h = by (is_nonzero a) h where
  by : (b : Bool) → is_nonzero (truth b) ≡ holds → b ≡ holds
  by true is = is
  by false is = is

back_some : (o : Option ℤ) (holds : Bool) → Truly (truth_of o) holds → Truly o holds
back_some None holds h = absurd h
back_some (Some a) holds h = back_truth a holds h

and_parts_true : (o p : Option ℤ) → Truly (logical_and o p) true → Truly o true × Truly p true
and_parts_true None p h = absurd h
and_parts_true (Some a) p h = by (is_nonzero a) h where
  by : (b : Bool) → Truly (cond b (truth_of p) (Some (pos 0))) true → (b ≡ true) × Truly p true
  by true is = (refl, back_some p true is)
  by false is = absurd (cc)

or_parts_false : (o p : Option ℤ) → Truly (logical_or o p) false
    → Truly o false × Truly p false
or_parts_false None p h = absurd h
or_parts_false (Some a) p h = by (is_nonzero a) h where
  by : (b : Bool) → Truly (cond b (Some (pos 1)) (truth_of p)) false
      → (b ≡ false) × Truly p false
  by true is = absurd (cc)
  by false is = (refl, back_some p false is)

not_back : (o : Option ℤ) (holds : Bool) → Truly (logical_not o) holds → Truly o (not holds)
not_back None holds h = absurd h
not_back (Some a) holds h = by (is_nonzero a) h where
  by : (b : Bool) → is_nonzero (truth (not b)) ≡ holds → b ≡ not holds
  by true is = ap not is
  by false is = ap not is

module _ (stays : StaysInRange) (types : List IntType) (vs : List ℤ) where
  abbrev Sound : Expr → Type 0
  Sound e = (holds : Bool) (bs : List Bounds) → IsTyped types e → AreOf types bs → LieWithin bs vs
      → Truly (value_of e vs) holds → Lies vs (assumed e holds bs)

  after_left : (o : Option (List Bounds)) (f : List Bounds → Option (List Bounds)) → Are types o
      → Lies vs o → ((bs : List Bounds) → AreOf types bs → LieWithin bs vs → Lies vs (f bs))
      → Lies vs (option_and_then f o)
  after_left None f are lies each = absurd lies
  after_left (Some bs) f are lies each = each bs are lies

  both_lie : (left right : Expr) (holds : Bool) (bs : List Bounds) → Sound left → Sound right
      → IsTyped types left → IsTyped types right → AreOf types bs → LieWithin bs vs
      → Truly (value_of left vs) holds → Truly (value_of right vs) holds
      → Lies vs (option_and_then (assumed right holds) (assumed left holds bs))
  both_lie left right holds bs first second tl tr are lies one two =
      after_left (assumed left holds bs) (assumed right holds)
      (assumed_are types left holds bs tl are) (first holds bs tl are lies one)
      (λ after is within. second holds after tr is within two)

  whole_lies : (x : Expr-F Expr) (holds : Bool) (bs : List Bounds) → IsTyped types (roll-Expr x)
      → AreOf types bs → LieWithin bs vs → Truly (value_step vs (values_in vs x)) holds
      → Lies vs (decided (roll-Expr x) holds bs)
  whole_lies x holds bs typed are lies truth_is =
      decided_lies stays types (roll-Expr x) holds bs vs are lies typed
      (subst (λ o. Truly o holds) (sym (value_rolled vs x)) truth_is)

  sound_node : (x : Expr-F Expr) (holds : Bool) (bs : List Bounds) → OfParts Sound x
      → OfParts (IsTyped types) x → IsTyped types (roll-Expr x) → AreOf types bs → LieWithin bs vs
      → Truly (value_step vs (values_in vs x)) holds
      → Lies vs (at_node (roll-Expr x) x holds bs)
  sound_node (Expr-F.And left right) true bs h parts whole are lies truth_is =
      let both = and_parts_true (value_of left vs) (value_of right vs) truth_is in
      both_lie left right true bs h.0 (h.1).0 parts.0 (parts.1).0 are lies both.0 both.1
  sound_node (Expr-F.And left right) false bs h parts whole are lies truth_is =
      whole_lies (Expr-F.And left right) false bs whole are lies truth_is
  sound_node (Expr-F.Or left right) true bs h parts whole are lies truth_is =
      whole_lies (Expr-F.Or left right) true bs whole are lies truth_is
  sound_node (Expr-F.Or left right) false bs h parts whole are lies truth_is =
      let both = or_parts_false (value_of left vs) (value_of right vs) truth_is in
      both_lie left right false bs h.0 (h.1).0 parts.0 (parts.1).0 are lies both.0 both.1
  sound_node (Expr-F.Not arg) holds bs h parts whole are lies truth_is =
      h.0 (not holds) bs parts.0 are lies (not_back (value_of arg vs) holds truth_is)
  sound_node (Expr-F.Const t n) holds bs h parts whole are lies truth_is =
      whole_lies (Expr-F.Const t n) holds bs whole are lies truth_is
  sound_node (Expr-F.Read t base len index) holds bs h parts whole are lies truth_is =
      whole_lies (Expr-F.Read t base len index) holds bs whole are lies truth_is
  sound_node (Expr-F.Un o t arg) holds bs h parts whole are lies truth_is =
      whole_lies (Expr-F.Un o t arg) holds bs whole are lies truth_is
  sound_node (Expr-F.Bin o t left right) holds bs h parts whole are lies truth_is =
      whole_lies (Expr-F.Bin o t left right) holds bs whole are lies truth_is
  sound_node (Expr-F.Cmp o t left right) holds bs h parts whole are lies truth_is =
      whole_lies (Expr-F.Cmp o t left right) holds bs whole are lies truth_is
  sound_node (Expr-F.Cast t arg) holds bs h parts whole are lies truth_is =
      whole_lies (Expr-F.Cast t arg) holds bs whole are lies truth_is
  sound_node (Expr-F.Cond t test first second) holds bs h parts whole are lies truth_is =
      whole_lies (Expr-F.Cond t test first second) holds bs whole are lies truth_is

  pub assumed_lies : (e : Expr) → Sound e
  assumed_lies = by_parts Sound (λ x h holds bs typed are lies truth_is.
      subst (λ f. Lies vs (f holds bs)) (sym (assumed_rolled x))
      (sound_node x holds bs h (every_rolled (IsTypedHere types) x typed).1 typed are lies
      (subst (λ o. Truly o holds) (value_rolled vs x) truth_is)))
