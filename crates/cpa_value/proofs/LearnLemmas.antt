-- What a test that holds says of cells is true of the store.
use Rattle.std.proofs.Common.{◌≡◌, ℕ, ◌≤ℤ◌, ℤ, pos, ◌&&◌, Bool, true, false, List, refl, sym, ap}
use Rattle.std.proofs.Common.{◌∙◌, subst, arith, cond}
use Rattle.std.specs.Prelude.{not, int_le, Option, None, Some, Ok, Err, slice_get, slice_set}
use Rattle.std.specs.Prelude.{IsSomeAnd, IfSome}
use Rattle.std.specs.Ordering.{int_eq}
use Rattle.std.proofs.lemmas.Int.{ints}
use Rattle.std.proofs.lemmas.Bool.{cond_both, and_parts}
use Rattle.std.proofs.lemmas.Bool.Decides.{Decides-int_eq}
use Rattle.cpa_ints.specs.declared.integers.IntType.{IntType}
use Rattle.cpa_ints.specs.Integers.{IsInRange, least, greatest}
use Rattle.cpa_expr.specs.declared.tree.CmpOp.{CmpOp}
use Rattle.cpa_expr.specs.declared.tree.CmpOp.TheVariants as cmp
use Rattle.cpa_expr.specs.declared.tree.Expr.{Expr, out-Expr}
use Rattle.cpa_expr.specs.declared.tree.Expr.TheOpen.{Expr-F}
use Rattle.cpa_expr.specs.Cells.{AreValues}
use Rattle.cpa_expr.specs.Shape.{OfParts, IsTyped, IsTypedHere}
use Rattle.cpa_expr.specs.Values.{value_of, value_step, comparison, compares, truth, is_nonzero}
use Rattle.cpa_expr.specs.lemmas.Layers.{values_in}
use Rattle.cpa_model.specs.declared.program.Cell.{Cell}
use Rattle.cpa_model.specs.Expressions.{types_of}
use Rattle.cpa_folds.specs.declared.scalars.Scalar.{Scalar}
use Rattle.cpa_value_changes.specs.declared.acts.ScalarValue.{ScalarValue}
use Rattle.cpa_value_changes.specs.KnownValues.{Known, known_value}
use Rattle.cpa_folds.specs.Scalars.{scalar_of, read_of}
use Rattle.cpa_value_changes.specs.Acts.{told, first_told, set_told, equated, zeroed}
use Rattle.cpa_value_changes.specs.Acts.{says_equal, learned}
use Rattle.cpa_value.proofs.KnownLemmas.{Agrees, AgreeCells, known_agrees}
use Rattle.cpa_value.proofs.RangeLemmas.{AreKnown, AreKnown-set, typed_cell, zero_in_range}
use Rattle.cpa_folds.specs.lemmas.ScalarReads.{IsScalar, StaysInRange, scalar_node, read_value}
use Rattle.cpa_folds.specs.lemmas.ScalarReads.{value_at}
use Rattle.cpa_folds.specs.lemmas.ScalarReads.{int_le-means}
use Rattle.cpa_value.proofs.StoreLemmas.{agree_set}

-- the known values after it are there, and the store has them
abbrev pub Gives : Option (List (Option ℤ)) → List ℤ → Type 0
Gives o values = IsSomeAnd o (λ after. AgreeCells after values)

int_le-from : (a b : ℤ) → a ≤ℤ b → int_le a b ≡ true
int_le-from a b h = grind (arith, ints)

pub told_means : (tracked : ℕ → Bool) (r : Option Scalar) (k : Known) (it : ScalarValue)
    → told tracked r k ≡ Some it → (r ≡ Some it.read) × (k ≡ Ok it.value)
told_means tracked None k it is = absurd (cc)
told_means tracked (Some read) (Err gap) it is = absurd (cc)
told_means tracked (Some read) (Ok v) it is = by (tracked read.cell) is where
  read_or : Option ScalarValue → Scalar
  read_or (Some x) = x.read
  read_or None = read

  value_or : Option ScalarValue → ℤ
  value_or (Some x) = x.value
  value_or None = v

  by : (b : Bool) → cond b (Some (let x : ScalarValue = record { read = read; value = v } in x))
      None ≡ Some it → (Some read ≡ Some it.read) × (◌≡◌ {A = Known} (Ok v) (Ok it.value))
  by true is = (ap Some (ap read_or is), ap Ok (ap value_or is))
  by false is = absurd (cc)

-- it is true of the store, and of the cells
pub record IsTrueOf (types : List IntType) (values : List ℤ) (it : ScalarValue) : Type 0 where
  pub typed : slice_get types it.read.cell ≡ Some it.read.ty
  pub value_is : slice_get values it.read.cell ≡ Some it.value

told_true : (stays : StaysInRange) (types : List IntType) (values : List ℤ)
    (cells : List (Option ℤ)) (tracked : ℕ → Bool) (side other : Expr) (a : ℤ) (it : ScalarValue)
    → AreValues types values → AgreeCells cells values → IsTyped types side
    → value_of side values ≡ Some a → value_of other values ≡ Some a
    → told tracked (read_of (out-Expr side)) (known_value other cells) ≡ Some it
    → IsTrueOf types values it
told_true stays types values cells tracked side other a it all agree typed of_side of_other is =
    let means = told_means tracked (read_of (out-Expr side)) (known_value other cells) it is in
    let scalar = read_value stays types values side it.read all typed means.0 in
    let known : value_of other values ≡ Some it.value =
    subst (λ k. Agrees k (value_of other values)) means.1 (known_agrees cells values agree other) in
    record {
      typed = scalar.typed;
      value_is = sym scalar.value_is
          ∙ (of_side ∙ (sym of_other ∙ known));
    }

set_gives : (types : List IntType) (values : List ℤ) (cells : List (Option ℤ))
    (o : Option ScalarValue) → AreValues types values → AgreeCells cells values
    → ((it : ScalarValue) → o ≡ Some it → IsTrueOf types values it)
    → Gives (set_told o cells) values
set_gives types values cells None all agree each = agree
set_gives types values cells (Some it) all agree each =
    let true_of = each it refl in
    let lies : IsInRange it.read.ty it.value =
    subst (λ o. IsSomeAnd o (IsInRange it.read.ty)) true_of.value_is
    (value_at types values it.read.cell it.read.ty all true_of.typed) in
    let low : int_le (least it.read.ty) it.value ≡ true =
    int_le-from (least it.read.ty) it.value lies.0 in
    let high : int_le it.value (greatest it.read.ty) ≡ true =
    int_le-from it.value (greatest it.read.ty) lies.1 in
    let both : (int_le (least it.read.ty) it.value && int_le it.value (greatest it.read.ty))
    ≡ true =
    ap (λ b. b && int_le it.value (greatest it.read.ty)) low ∙ high in
    subst (λ b. Gives (cond b (Some (slice_set cells it.read.cell (Some it.value))) None) values)
    (sym both)
    (agree_set cells values it.read.cell it.value agree true_of.value_is)

first_of : (P : ScalarValue → Type 0) (o p : Option ScalarValue)
    → ((it : ScalarValue) → o ≡ Some it → P it) → ((it : ScalarValue) → p ≡ Some it → P it)
    → (it : ScalarValue) → first_told o p ≡ Some it → P it
first_of P (Some x) p first second it is = first it is
first_of P None p first second it is = second it is

equal_gives : (stays : StaysInRange) (types : List IntType) (values : List ℤ)
    (cells : List (Option ℤ)) (tracked : ℕ → Bool) (left right : Expr) (a : ℤ)
    → AreValues types values → AgreeCells cells values → IsTyped types left → IsTyped types right
    → value_of left values ≡ Some a → value_of right values ≡ Some a
    → Gives (equated tracked left right cells) values
equal_gives stays types values cells tracked left right a all agree of_left of_right left_is
    right_is =
    let one = told tracked (read_of (out-Expr left)) (known_value right cells) in
    let two = told tracked (read_of (out-Expr right)) (known_value left cells) in
    set_gives types values cells (first_told one two) all agree
    (first_of (IsTrueOf types values) one two
    (λ it is. told_true stays types values cells tracked left right a it all agree of_left left_is
    right_is is)
    (λ it is. told_true stays types values cells tracked right left a it all agree of_right right_is
    left_is is))

-- the values of the sides of a comparison that has one
pub record Sides (o : CmpOp) (p q : Option ℤ) (v : ℤ) : Type 0 where
  pub left : ℤ
  pub right : ℤ
  pub left_is : p ≡ Some left
  pub right_is : q ≡ Some right
  pub value_is : truth (compares o left right) ≡ v

sides : (o : CmpOp) (p q : Option ℤ) (v : ℤ) → comparison o p q ≡ Some v → Sides o p q v
sides o None q v is = absurd (cc)
sides o (Some a) None v is = absurd (cc)
sides o (Some a) (Some b) v is = record {
  left = a;
  right = b;
  left_is = refl;
  right_is = refl;
  value_is =
      let same : truth (compares o a b) ≡ v = cc in same;
}

nonzero_truth : (b : Bool) → is_nonzero (truth b) ≡ b
nonzero_truth true = refl
nonzero_truth false = refl

not_false : (b : Bool) → not b ≡ false → b ≡ true
not_false true h = refl
not_false false h = absurd (cc)

-- a comparison that says so has equal sides
says_equal-means : (o : CmpOp) (holds : Bool) (a b : ℤ) → says_equal o holds ≡ true
    → compares o a b ≡ holds → a ≡ b
says_equal-means cmp.Eq holds a b says is = (Decides-int_eq a b).0 (is ∙ says)
says_equal-means cmp.Ne true a b says is = absurd (cc)
says_equal-means cmp.Ne false a b says is = (Decides-int_eq a b).0 (not_false (int_eq a b) is)
says_equal-means cmp.Lt holds a b says is = absurd (cc)
says_equal-means cmp.Le holds a b says is = absurd (cc)
says_equal-means cmp.Gt holds a b says is = absurd (cc)
says_equal-means cmp.Ge holds a b says is = absurd (cc)

zero_is : (v : ℤ) → is_nonzero v ≡ false → v ≡ pos 0
zero_is v h = (Decides-int_eq v (pos 0)).0 (not_false (int_eq v (pos 0)) h)

zeroed_gives : (types : List IntType) (values : List ℤ) (cells : List (Option ℤ))
    (tracked : ℕ → Bool) (o : Option Scalar) (value : Option ℤ)
    → AgreeCells cells values → value ≡ Some (pos 0)
    → ((read : Scalar) → o ≡ Some read → IsScalar types values value read)
    → AgreeCells (zeroed tracked o cells) values
zeroed_gives types values cells tracked None value agree is each = agree
zeroed_gives types values cells tracked (Some read) value agree is each =
    cond_both (tracked read.cell) (slice_set cells read.cell (Some (pos 0))) cells
    (λ l. AgreeCells l values)
    (λ _. agree_set cells values read.cell (pos 0) agree (sym (each read refl).value_is ∙ is))
    (λ _. agree)

-- what a test that holds so says of cells
pub learned_gives : (stays : StaysInRange) (types : List IntType) (values : List ℤ)
    (cells : List (Option ℤ)) (tracked : ℕ → Bool) (x : Expr-F Expr) (holds : Bool) (v : ℤ)
    → AreValues types values → AgreeCells cells values → IsTypedHere types x
    → OfParts (IsTyped types) x
    → value_step values (values_in values x) ≡ Some v → is_nonzero v ≡ holds
    → Gives (learned tracked x holds cells) values
learned_gives stays types values cells tracked
    (Expr-F.Cmp o t left right) holds v all agree typed parts is truth_is =
    let pair = sides o (value_of left values) (value_of right values) v is in
    let holds_so : compares o pair.left pair.right ≡ holds =
    sym (nonzero_truth (compares o pair.left pair.right))
    ∙ (ap is_nonzero pair.value_is ∙ truth_is) in
    cond_both (says_equal o holds) (equated tracked left right cells) (Some cells)
    (λ r. Gives r values)
    (λ says.
    let same : pair.left ≡ pair.right =
    says_equal-means o holds pair.left pair.right says holds_so in
    equal_gives stays types values cells tracked left right pair.left all agree parts.0
    (parts.1).0 pair.left_is (pair.right_is ∙ ap Some (sym same)))
    (λ _. agree)
learned_gives stays types values cells tracked
    (Expr-F.Read t base len index) true v all agree typed parts is truth_is = agree
learned_gives stays types values cells tracked
    (Expr-F.Read t base len index) false v all agree typed parts is truth_is =
    let node = Expr-F.Read t base len index in
    zeroed_gives types values cells tracked (scalar_of node)
    (value_step values (values_in values node)) agree
    (is ∙ ap Some (zero_is v truth_is)) (λ read at. scalar_node types values node read typed at)
learned_gives stays types values cells tracked
    (Expr-F.Const t n) holds v all agree typed parts is truth_is = agree
learned_gives stays types values cells tracked
    (Expr-F.Un o t arg) holds v all agree typed parts is truth_is = agree
learned_gives stays types values cells tracked
    (Expr-F.Bin o t left right) holds v all agree typed parts is truth_is = agree
learned_gives stays types values cells tracked
    (Expr-F.Cast t arg) holds v all agree typed parts is truth_is = agree
learned_gives stays types values cells tracked
    (Expr-F.And left right) holds v all agree typed parts is truth_is = agree
learned_gives stays types values cells tracked
    (Expr-F.Or left right) holds v all agree typed parts is truth_is = agree
learned_gives stays types values cells tracked
    (Expr-F.Not arg) holds v all agree typed parts is truth_is = agree
learned_gives stays types values cells tracked
    (Expr-F.Cond t test first second) holds v all agree typed parts is truth_is = agree

-- and it lies in the ranges of the cells
told_typed : (stays : StaysInRange) (types : List IntType) (store : List ℤ) (tracked : ℕ → Bool)
    (side : Expr) (k : Known) (it : ScalarValue)
    → AreValues types store → IsTyped types side
    → told tracked (read_of (out-Expr side)) k ≡ Some it
    → slice_get types it.read.cell ≡ Some it.read.ty
told_typed stays types store tracked side k it all typed is =
    let means = told_means tracked (read_of (out-Expr side)) k it is in
    (read_value stays types store side it.read all typed means.0).typed

set_known : (cs : List Cell) (cells : List (Option ℤ)) (o : Option ScalarValue) → AreKnown cs cells
    → ((it : ScalarValue) → o ≡ Some it → slice_get (types_of cs) it.read.cell ≡ Some it.read.ty)
    → IfSome (set_told o cells) (AreKnown cs)
set_known cs cells None known each = known
set_known cs cells (Some it) known each =
    cond_both (int_le (least it.read.ty) it.value && int_le it.value (greatest it.read.ty))
    (Some (slice_set cells it.read.cell (Some it.value))) None
    (λ r. IfSome r (AreKnown cs))
    (λ within.
    let both = and_parts (int_le (least it.read.ty) it.value)
    (int_le it.value (greatest it.read.ty)) within in
    AreKnown-set cs cells it.read.cell (Some it.value) known
    (typed_cell cs it.read.cell it.read.ty it.value (each it refl) (
      int_le-means (least it.read.ty) it.value both.0,
      int_le-means it.value (greatest it.read.ty) both.1,
    )))
    (λ _. tt)

pub learned_known : (stays : StaysInRange) (cs : List Cell) (store : List ℤ)
    (cells : List (Option ℤ)) (tracked : ℕ → Bool) (x : Expr-F Expr) (holds : Bool)
    → AreValues (types_of cs) store → AreKnown cs cells → IsTypedHere (types_of cs) x
    → OfParts (IsTyped (types_of cs)) x
    → IfSome (learned tracked x holds cells) (AreKnown cs)
learned_known stays cs store cells tracked (Expr-F.Cmp o t left right) holds all known typed parts =
    let types = types_of cs in
    let one = told tracked (read_of (out-Expr left)) (known_value right cells) in
    let two = told tracked (read_of (out-Expr right)) (known_value left cells) in
    cond_both (says_equal o holds) (equated tracked left right cells) (Some cells)
    (λ r. IfSome r (AreKnown cs))
    (λ _. set_known cs cells (first_told one two) known
    (first_of (λ it. slice_get types it.read.cell ≡ Some it.read.ty) one two
    (λ it is. told_typed stays types store tracked left (known_value right cells) it all parts.0 is)
    (λ it is. told_typed stays types store tracked right (known_value left cells) it all
    (parts.1).0 is)))
    (λ _. known)
learned_known stays cs store cells tracked
    (Expr-F.Read t base len index) true all known typed parts = known
learned_known stays cs store cells tracked
    (Expr-F.Read t base len index) false all known typed parts =
    by (scalar_of (Expr-F.Read t base len index))
    (λ read at. (scalar_node (types_of cs) store
    (Expr-F.Read t base len index) read typed at).typed) where
      by : (o : Option Scalar) → ((read : Scalar) → o ≡ Some read
          → slice_get (types_of cs) read.cell ≡ Some read.ty) → AreKnown cs (zeroed tracked o cells)
      by None each = known
      by (Some read) each =
          cond_both (tracked read.cell) (slice_set cells read.cell (Some (pos 0))) cells
          (AreKnown cs)
          (λ _. AreKnown-set cs cells read.cell (Some (pos 0)) known
          (typed_cell cs read.cell read.ty (pos 0) (each read refl) (zero_in_range read.ty)))
          (λ _. known)
learned_known stays cs store cells tracked (Expr-F.Const t n) holds all known typed parts = known
learned_known stays cs store cells tracked (Expr-F.Un o t arg) holds all known typed parts = known
learned_known stays cs store cells tracked (Expr-F.Bin o t left right) holds all known typed parts =
    known
learned_known stays cs store cells tracked (Expr-F.Cast t arg) holds all known typed parts = known
learned_known stays cs store cells tracked (Expr-F.And left right) holds all known typed parts =
    known
learned_known stays cs store cells tracked (Expr-F.Or left right) holds all known typed parts =
    known
learned_known stays cs store cells tracked (Expr-F.Not arg) holds all known typed parts = known
learned_known stays cs store cells tracked
    (Expr-F.Cond t test first second) holds all known typed parts = known
