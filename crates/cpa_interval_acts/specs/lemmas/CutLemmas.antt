-- What a comparison leaves of the bounds of cells has the values of the stores where it holds, and
-- is of the types of the cells.
use Rattle.std.proofs.Common.{◌≡◌, ℕ, ℤ, ◌≤ℤ◌, Bool, true, false, List, refl, sym, ap, ◌∙◌, subst}
use Rattle.std.proofs.Common.{arith, cond}
use Rattle.std.specs.Prelude.{Option, None, Some, slice_get, slice_set, IsSomeAnd, IfSome}
use Rattle.std.specs.Prelude.{option_map, option_and_then}
use Rattle.std.proofs.lemmas.Int.{ints}
use Rattle.std.proofs.lemmas.Bool.{and_parts}
use Rattle.cpa_ints.specs.declared.integers.IntType.{IntType}
use Rattle.cpa_ints.specs.Integers.{IsInRange}
use Rattle.cpa_ints.specs.Wrapping.{wrapped}
use Rattle.cpa_expr.specs.declared.tree.CmpOp.{CmpOp}
use Rattle.cpa_expr.specs.declared.tree.Expr.{Expr, out-Expr}
use Rattle.cpa_expr.specs.declared.tree.Expr.TheOpen.{Expr-F}
use Rattle.cpa_expr.specs.Shape.{OfParts, IsTyped, IsTypedHere, type_of}
use Rattle.cpa_expr.specs.Values.{value_of, value_step, comparison, compares, truth, is_nonzero}
use Rattle.cpa_expr.specs.Values.{HasTruth}
use Rattle.cpa_expr.specs.lemmas.Layers.{values_in}
use Rattle.cpa_expr.specs.lemmas.Parts.{every_iff}
use Rattle.cpa_folds.specs.declared.scalars.Scalar.{Scalar}
use Rattle.cpa_folds.specs.Scalars.{scalar_of}
use Rattle.cpa_folds.specs.lemmas.ScalarReads.{IsScalar, StaysInRange, value_out, scalar_node}
use Rattle.cpa_folds.specs.lemmas.ScalarReads.{scalar_value}
use Rattle.cpa_interval_bounds.specs.declared.bounds.Bounds.{Bounds}
use Rattle.cpa_interval_bounds.specs.Bounds.{IsOf, Has, is_inside, range_of, has}
use Rattle.cpa_interval_bounds.specs.Truths.{truths_of, may_be, exchanged}
use Rattle.cpa_interval_bounds.specs.Cuts.{cut}
use Rattle.cpa_interval_bounds.specs.ExpressionBounds.{AreOf, LieWithin, bounds_of}
use Rattle.cpa_interval_bounds.specs.Laws.{bounds_have_the_value, bounds_have_the_type}
use Rattle.cpa_interval_bounds.specs.lemmas.Sets.{has_means}
use Rattle.cpa_interval_bounds.specs.lemmas.TruthSets.{SomeHas, cut_has, truth_of_number}
use Rattle.cpa_interval_bounds.specs.lemmas.TruthSets.{opposite_holds, exchanged_holds}
use Rattle.cpa_interval_bounds.specs.lemmas.Hulls.{cut_hull}
use Rattle.cpa_interval_acts.specs.Cuts.{cut_at, cut_cell, fits, fitting, side_of, cut_where}
use Rattle.cpa_interval_acts.specs.Cuts.{cut_side}
use Rattle.cpa_interval_acts.specs.Cuts.{cut_both, where_holds, compared_node, decided}
use Rattle.cpa_interval_acts.specs.lemmas.ZipLemmas.{set_within, set_of, value_in, some_value}
use Rattle.cpa_interval_acts.specs.lemmas.ZipLemmas.{type_in}

-- bounds are left, and they have the values
abbrev pub Lies : List ℤ → Option (List Bounds) → Type 0
Lies vs o = IsSomeAnd o (λ bs. LieWithin bs vs)

-- the bounds that are left are of the types
abbrev pub Are : List IntType → Option (List Bounds) → Type 0
Are ts o = IfSome o (AreOf ts)

-- ---- one cell

pub cut_lies : (o : CmpOp) (cell : ℕ) (other : Bounds) (bs : List Bounds) (vs : List ℤ) (v w : ℤ)
    → LieWithin bs vs → slice_get vs cell ≡ Some v → Has other w → compares o v w ≡ true
    → Lies vs (cut_cell o cell other bs)
cut_lies o cell other bs vs v w all at within holds = by (slice_get bs cell) refl where
  left : (own : Bounds) (p : Option Bounds) → SomeHas p v
      → Lies vs (option_map (slice_set bs cell) p)
  left own None h = absurd h
  left own (Some after) h =
      set_within bs vs cell after all (λ x is. let same : v ≡ x = cc in subst (Has after) same h)

  by : (p : Option Bounds) → slice_get bs cell ≡ p → Lies vs (cut_at o cell other p bs)
  by None is = all
  by (Some own) is =
      left own (cut o own other)
      (cut_has o own other v w (value_in bs vs cell own v all is at) within holds)

cut-is : (t : IntType) (o : CmpOp) (own other after : Bounds) → IsOf t own → other.lo ≤ℤ other.hi
    → cut o own other ≡ Some after → IsOf t after
cut-is t o own other after of order is =
    let hull = cut_hull o own other after of.order order is in
    let first = hull.least.own.low in
    let last = hull.greatest.own.high in
    let low = of.low in
    let high = of.high in
    record {
      order = (hull.has after.hi hull.greatest).low;
      low = omega (arith, ints);
      high = omega (arith, ints);
    }

pub cut_are : (ts : List IntType) (o : CmpOp) (cell : ℕ) (other : Bounds) (bs : List Bounds)
    → AreOf ts bs → other.lo ≤ℤ other.hi → Are ts (cut_cell o cell other bs)
cut_are ts o cell other bs all order = by (slice_get bs cell) refl where
  left : (own : Bounds) → slice_get bs cell ≡ Some own → (p : Option Bounds)
      → cut o own other ≡ p → Are ts (option_map (slice_set bs cell) p)
  left own is None cuts = tt
  left own is (Some after) cuts =
      set_of ts bs cell after all (λ t at.
      cut-is t o own other after (type_in ts bs cell t own all at is) order cuts)

  by : (p : Option Bounds) → slice_get bs cell ≡ p → Are ts (cut_at o cell other p bs)
  by None is = all
  by (Some own) is = left own is (cut o own other) refl

-- ---- one side

inside_range : (t : IntType) (own : Bounds) (v : ℤ) → is_inside own (range_of t) ≡ true
    → Has own v → IsInRange t v
inside_range t own v is h =
    let both = and_parts (has (range_of t) own.lo) (has (range_of t) own.hi) is in
    let low = (has_means (range_of t) own.lo both.0).low in
    let high = (has_means (range_of t) own.hi both.1).high in
    let first = h.low in
    let last = h.high in
    (omega (arith, ints), omega (arith, ints))

kept_value : (stays : StaysInRange) (t : IntType) (own : Bounds) (o : Option ℤ) (v : ℤ)
    → is_inside own (range_of t) ≡ true → IsSomeAnd o (Has own)
    → option_map (wrapped t) o ≡ Some v → o ≡ Some v
kept_value stays t own None v is h same = absurd h
kept_value stays t own (Some w) v is h same =
    sym (ap Some (stays t w (inside_range t own w is h))) ∙ same

cast_cell : (stays : StaysInRange) (types : List IntType) (bs : List Bounds) (vs : List ℤ)
    (t : IntType) (o : Option Scalar) (value : Option ℤ) (cell : ℕ) (v : ℤ) → LieWithin bs vs
    → ((read : Scalar) → o ≡ Some read → IsScalar types vs value read)
    → fitting t o bs ≡ Some cell → option_map (wrapped t) value ≡ Some v
    → slice_get vs cell ≡ Some v
cast_cell stays types bs vs t None value cell v all scalar is at = absurd (cc)
cast_cell stays types bs vs t (Some read) value cell v all scalar is at =
    by (slice_get bs read.cell) refl is where
      held : (own : Bounds) → slice_get bs read.cell ≡ Some own → (b : Bool)
          → is_inside own (range_of t) ≡ b → cond b (Some read.cell) None ≡ Some cell
          → slice_get vs cell ≡ Some v
      held own got true inside same =
          let here : read.cell ≡ cell = cc in
          let value_is = (scalar read refl).value_is in
          subst (λ k. slice_get vs k ≡ Some v) here
          (kept_value stays t own (slice_get vs read.cell) v inside
          (some_value bs vs read.cell own all got)
          (ap (option_map (wrapped t)) (sym value_is) ∙ at))
      held own got false outside same = absurd (cc)

      by : (p : Option Bounds) → slice_get bs read.cell ≡ p
          → cond (fits t p) (Some read.cell) None ≡ Some cell → slice_get vs cell ≡ Some v
      by None got same = absurd (cc)
      by (Some own) got same = held own got (is_inside own (range_of t)) refl same

plain_cell : (types : List IntType) (vs : List ℤ) (o : Option Scalar) (value : Option ℤ)
    (cell : ℕ) (v : ℤ) → ((read : Scalar) → o ≡ Some read → IsScalar types vs value read)
    → option_map (λ read. read.cell) o ≡ Some cell → value ≡ Some v
    → slice_get vs cell ≡ Some v
plain_cell types vs None value cell v scalar is at = absurd (cc)
plain_cell types vs (Some read) value cell v scalar is at =
    let here : read.cell ≡ cell = cc in
    subst (λ k. slice_get vs k ≡ Some v) here (sym (scalar read refl).value_is ∙ at)

side_node : (stays : StaysInRange) (types : List IntType) (bs : List Bounds) (vs : List ℤ)
    (x : Expr-F Expr) (cell : ℕ) (v : ℤ) → LieWithin bs vs
    → IsTypedHere types x → OfParts (IsTyped types) x → side_of x bs ≡ Some cell
    → value_step vs (values_in vs x) ≡ Some v → slice_get vs cell ≡ Some v
side_node stays types bs vs (Expr-F.Cast t arg) cell v all typed parts is at =
    cast_cell stays types bs vs t (scalar_of (out-Expr arg)) (value_of arg vs) cell v all
    (λ read same. scalar_value types vs arg read parts.0 same) is at
side_node stays types bs vs (Expr-F.Read t base len index) cell v all typed parts is at =
    let x = Expr-F.Read t base len index in
    plain_cell types vs (scalar_of x) (value_step vs (values_in vs x)) cell v
    (λ read same. scalar_node types vs x read typed same) is at
side_node stays types bs vs (Expr-F.Const t n) cell v all typed parts is at = absurd (cc)
side_node stays types bs vs (Expr-F.Un o t arg) cell v all typed parts is at = absurd (cc)
side_node stays types bs vs (Expr-F.Bin o t left right) cell v all typed parts is at = absurd (cc)
side_node stays types bs vs (Expr-F.Cmp o t left right) cell v all typed parts is at = absurd (cc)
side_node stays types bs vs (Expr-F.And left right) cell v all typed parts is at = absurd (cc)
side_node stays types bs vs (Expr-F.Or left right) cell v all typed parts is at = absurd (cc)
side_node stays types bs vs (Expr-F.Not arg) cell v all typed parts is at = absurd (cc)
side_node stays types bs vs (Expr-F.Cond t test first second) cell v all typed parts is at =
    absurd (cc)

-- the cell has the value of the expression
side_means : (stays : StaysInRange) (types : List IntType) (bs : List Bounds) (vs : List ℤ)
    (e : Expr) (cell : ℕ) (v : ℤ) → LieWithin bs vs → IsTyped types e
    → side_of (out-Expr e) bs ≡ Some cell → value_of e vs ≡ Some v → slice_get vs cell ≡ Some v
side_means stays types bs vs e cell v all typed is at =
    let split = (every_iff (IsTypedHere types) e).0 typed in
    side_node stays types bs vs (out-Expr e) cell v all split.0 split.1 is
    (sym (value_out e vs) ∙ at)

pub side_lies : (stays : StaysInRange) (types : List IntType) (o : CmpOp) (e : Expr)
    (other : Bounds) (bs : List Bounds) (vs : List ℤ) (v w : ℤ) → LieWithin bs vs → IsTyped types e
    → value_of e vs ≡ Some v → Has other w → compares o v w ≡ true
    → Lies vs (cut_side o e other bs)
side_lies stays types o e other bs vs v w all typed at within holds =
    by (side_of (out-Expr e) bs) refl where
      by : (p : Option ℕ) → side_of (out-Expr e) bs ≡ p → Lies vs (cut_where o p other bs)
      by None is = all
      by (Some cell) is =
          cut_lies o cell other bs vs v w all
          (side_means stays types bs vs e cell v all typed is at) within holds

where_are : (ts : List IntType) (o : CmpOp) (p : Option ℕ) (other : Bounds) (bs : List Bounds)
    → AreOf ts bs → other.lo ≤ℤ other.hi → Are ts (cut_where o p other bs)
where_are ts o None other bs all order = all
where_are ts o (Some cell) other bs all order = cut_are ts o cell other bs all order

pub side_are : (ts : List IntType) (o : CmpOp) (e : Expr) (other : Bounds) (bs : List Bounds)
    → AreOf ts bs → other.lo ≤ℤ other.hi → Are ts (cut_side o e other bs)
side_are ts o e other bs all order = where_are ts o (side_of (out-Expr e) bs) other bs all order

-- ---- both sides

pub lies_then : (vs : List ℤ) (o : Option (List Bounds)) (f : List Bounds → Option (List Bounds))
    → Lies vs o → ((bs : List Bounds) → LieWithin bs vs → Lies vs (f bs))
    → Lies vs (option_and_then f o)
lies_then vs None f h each = absurd h
lies_then vs (Some bs) f h each = each bs h

pub are_then : (ts : List IntType) (o : Option (List Bounds))
    (f : List Bounds → Option (List Bounds)) → Are ts o
    → ((bs : List Bounds) → AreOf ts bs → Are ts (f bs)) → Are ts (option_and_then f o)
are_then ts None f h each = tt
are_then ts (Some bs) f h each = each bs h

both_lies : (stays : StaysInRange) (types : List IntType) (o : CmpOp) (left right : Expr)
    (p q : Option Bounds) (bs : List Bounds) (vs : List ℤ) (x y : ℤ) → LieWithin bs vs
    → IsTyped types left → IsTyped types right → value_of left vs ≡ Some x
    → value_of right vs ≡ Some y → SomeHas p x → SomeHas q y → compares o x y ≡ true
    → Lies vs (cut_both o left right p q bs)
both_lies stays types o left right None q bs vs x y all tl tr vl vr first second holds =
    absurd first
both_lies stays types o left right (Some a) None bs vs x y all tl tr vl vr first second holds =
    absurd second
both_lies stays types o left right (Some a) (Some b) bs vs x y all tl tr vl vr first second holds =
    lies_then vs (cut_side o left b bs) (cut_side (exchanged o) right a)
    (side_lies stays types o left b bs vs x y all tl vl second holds)
    (λ after lies. side_lies stays types (exchanged o) right a after vs y x lies tr vr first
    (exchanged_holds o x y holds))

both_are : (ts : List IntType) (o : CmpOp) (left right : Expr) (t u : IntType)
    (p q : Option Bounds) (bs : List Bounds) → AreOf ts bs → IfSome p (IsOf t) → IfSome q (IsOf u)
    → Are ts (cut_both o left right p q bs)
both_are ts o left right t u None q bs all first second = tt
both_are ts o left right t u (Some a) None bs all first second = tt
both_are ts o left right t u (Some a) (Some b) bs all first second =
    are_then ts (cut_side o left b bs) (cut_side (exchanged o) right a)
    (side_are ts o left b bs all second.order)
    (λ after is. side_are ts (exchanged o) right a after is first.order)

-- ---- a comparison

truth_back : (b : Bool) → is_nonzero (truth b) ≡ b
truth_back true = refl
truth_back false = refl

same_compare : (o : CmpOp) (x y : ℤ) (holds : Bool) → compares o x y ≡ holds
    → compares (where_holds holds o) x y ≡ true
same_compare o x y true is = is
same_compare o x y false is = opposite_holds o x y is

compared_lies : (stays : StaysInRange) (types : List IntType) (o : CmpOp) (left right : Expr)
    (holds : Bool) (bs : List Bounds) (vs : List ℤ) (a : ℤ) → AreOf types bs → LieWithin bs vs
    → IsTyped types left → IsTyped types right
    → comparison o (value_of left vs) (value_of right vs) ≡ Some a → is_nonzero a ≡ holds
    → Lies vs (cut_both (where_holds holds o) left right (bounds_of left bs) (bounds_of right bs)
    bs)
compared_lies stays types o left right holds bs vs a are all tl tr at truth_is =
    by (value_of left vs) refl (value_of right vs) refl at
    (bounds_have_the_value.value types bs vs left are all tl)
    (bounds_have_the_value.value types bs vs right are all tr) where
      by : (p : Option ℤ) → value_of left vs ≡ p → (q : Option ℤ) → value_of right vs ≡ q
          → comparison o p q ≡ Some a → IfSome p (SomeHas (bounds_of left bs))
          → IfSome q (SomeHas (bounds_of right bs))
          → Lies vs (cut_both (where_holds holds o) left right (bounds_of left bs)
          (bounds_of right bs) bs)
      by None vl q vr same first second = absurd (cc)
      by (Some x) vl None vr same first second = absurd (cc)
      by (Some x) vl (Some y) vr same first second =
          let number : truth (compares o x y) ≡ a = cc in
          let is : compares o x y ≡ holds =
          sym (truth_back (compares o x y)) ∙ (ap is_nonzero number ∙ truth_is) in
          both_lies stays types (where_holds holds o) left right (bounds_of left bs)
          (bounds_of right bs) bs vs x y all tl tr vl vr first second
          (same_compare o x y holds is)

node_lies : (stays : StaysInRange) (types : List IntType) (x : Expr-F Expr)
    (holds : Bool) (bs : List Bounds) (vs : List ℤ) (a : ℤ) → AreOf types bs → LieWithin bs vs
    → OfParts (IsTyped types) x → value_step vs (values_in vs x) ≡ Some a → is_nonzero a ≡ holds
    → Lies vs (compared_node x holds bs)
node_lies stays types (Expr-F.Cmp o t left right) holds bs vs a are all parts at is =
    compared_lies stays types o left right holds bs vs a are all parts.0 (parts.1).0 at is
node_lies stays types (Expr-F.Const t n) holds bs vs a are all parts at is = all
node_lies stays types (Expr-F.Read t base len index) holds bs vs a are all parts at is = all
node_lies stays types (Expr-F.Un o t arg) holds bs vs a are all parts at is = all
node_lies stays types (Expr-F.Bin o t left right) holds bs vs a are all parts at is = all
node_lies stays types (Expr-F.Cast t arg) holds bs vs a are all parts at is = all
node_lies stays types (Expr-F.And left right) holds bs vs a are all parts at is = all
node_lies stays types (Expr-F.Or left right) holds bs vs a are all parts at is = all
node_lies stays types (Expr-F.Not arg) holds bs vs a are all parts at is = all
node_lies stays types (Expr-F.Cond t test first second) holds bs vs a are all parts at is = all

node_are : (types : List IntType) (x : Expr-F Expr) (holds : Bool) (bs : List Bounds)
    → AreOf types bs → OfParts (IsTyped types) x → Are types (compared_node x holds bs)
node_are types (Expr-F.Cmp o t left right) holds bs are parts =
    both_are types (where_holds holds o) left right (type_of left) (type_of right)
    (bounds_of left bs) (bounds_of right bs) bs are
    (bounds_have_the_type.typed types bs left are parts.0)
    (bounds_have_the_type.typed types bs right are (parts.1).0)
node_are types (Expr-F.Const t n) holds bs are parts = are
node_are types (Expr-F.Read t base len index) holds bs are parts = are
node_are types (Expr-F.Un o t arg) holds bs are parts = are
node_are types (Expr-F.Bin o t left right) holds bs are parts = are
node_are types (Expr-F.Cast t arg) holds bs are parts = are
node_are types (Expr-F.And left right) holds bs are parts = are
node_are types (Expr-F.Or left right) holds bs are parts = are
node_are types (Expr-F.Not arg) holds bs are parts = are
node_are types (Expr-F.Cond t test first second) holds bs are parts = are

-- ---- a test that is asked as a whole

some_truth : (vs : List ℤ) (o : Option ℤ) (holds : Bool)
    → IsSomeAnd o (λ a. is_nonzero a ≡ holds) → (a : ℤ) × (o ≡ Some a) × (is_nonzero a ≡ holds)
some_truth vs None holds h = absurd h
some_truth vs (Some a) holds h = (a, refl, h)

pub decided_lies : (stays : StaysInRange) (types : List IntType) (e : Expr) (holds : Bool)
    (bs : List Bounds) (vs : List ℤ) → AreOf types bs → LieWithin bs vs → IsTyped types e
    → HasTruth vs e holds → Lies vs (decided e holds bs)
decided_lies stays types e holds bs vs are all typed truth_is =
    let it = some_truth vs (value_of e vs) holds truth_is in
    let split = (every_iff (IsTypedHere types) e).0 typed in
    let has_it : SomeHas (bounds_of e bs) it.0 =
    subst (λ o. IfSome o (SomeHas (bounds_of e bs))) it.1
    (bounds_have_the_value.value types bs vs e are all typed) in
    let may : may_be (truths_of (bounds_of e bs)) holds ≡ true =
    subst (λ b. may_be (truths_of (bounds_of e bs)) b ≡ true) it.2
    (truth_of_number (bounds_of e bs) it.0 has_it) in
    subst (λ b. Lies vs (cond b (compared_node (out-Expr e) holds bs) None)) (sym may)
    (node_lies stays types (out-Expr e) holds bs vs it.0 are all split.1
    (sym (value_out e vs) ∙ it.1) it.2)

pub decided_are : (types : List IntType) (e : Expr) (holds : Bool) (bs : List Bounds)
    → AreOf types bs → IsTyped types e → Are types (decided e holds bs)
decided_are types e holds bs are typed =
    by (may_be (truths_of (bounds_of e bs)) holds)
    (node_are types (out-Expr e) holds bs are ((every_iff (IsTypedHere types) e).0 typed).1) where
      by : (b : Bool) → Are types (compared_node (out-Expr e) holds bs)
          → Are types (cond b (compared_node (out-Expr e) holds bs) None)
      by true h = h
      by false h = tt
