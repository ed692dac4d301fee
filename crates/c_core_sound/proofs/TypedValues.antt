-- Values that are made of well typed ones are well typed.
use Rattle.std.proofs.Common.{◌≡◌, ℕ, ◌+◌, ◌≤◌, ◌<◌, ℤ, Bool, true, false, if◌then◌else◌, IsTrue}
use Rattle.std.proofs.Common.{List, length, refl, ap, sym, ◌∙◌, arith, pos, Some, slice_get}
use Rattle.std.specs.Prelude.{nat_lt}
use Rattle.std.proofs.lemmas.Int.{ints}
use Rattle.std.proofs.lemmas.Option.{slice_get_within}
use Rattle.cpa_ints.specs.declared.integers.IntType.{IntType}
use Rattle.cpa_ints.specs.declared.integers.IntType.TheVariants as ty
use Rattle.cpa_ints.specs.Integers.{IsInRange, width, is_signed}
use Rattle.cpa_ints.specs.Conversions.{promoted, common_type}
use Rattle.cpa_ints.specs.Wrapping.{wrapped}
use Rattle.cpa_ints.specs.lemmas.Arithmetic.{wrapped_in_range}
use Rattle.cpa_expr.specs.declared.tree.Expr.{Expr}
use Rattle.cpa_expr.specs.declared.tree.Expr.TheVariants as expr
use Rattle.cpa_expr.specs.declared.tree.UnOp.{UnOp}
use Rattle.cpa_expr.specs.declared.tree.UnOp.TheVariants as un
use Rattle.cpa_expr.specs.declared.tree.BinOp.{BinOp}
use Rattle.cpa_expr.specs.declared.tree.BinOp.TheVariants as bin
use Rattle.cpa_expr.specs.declared.tree.CmpOp.{CmpOp}
use Rattle.cpa_expr.specs.declared.tree.CmpOp.TheVariants as cmp
use Rattle.cpa_expr.specs.Shape.{type_of, is_arithmetic, AreCells, IsTyped}
use Rattle.cpa_expr.specs.Shape as shape
use Rattle.cpa_expr.specs.Equality.{same_type}
use Rattle.cpa_expr.specs.Laws.{typed_at_variants, type_at_variants}
use Rattle.c_grammar_symbols.specs.declared.operators.BinaryOperator.{BinaryOperator}
use Rattle.c_grammar_symbols.specs.declared.operators.BinaryOperator.TheVariants as binary
use Rattle.c_grammar_tree.specs.declared.expression.UnaryOperator.{UnaryOperator}
use Rattle.c_grammar_tree.specs.declared.expression.UnaryOperator.TheVariants as unary
use Rattle.c_core_rules.specs.declared.tree.Location.{Location}
use Rattle.c_core_rules.specs.Values.{conv, promote, node_of, operator_value, signed_value}
use Rattle.c_core_rules.specs.Values.{chosen_value, truth_of, int, element, scalar, cell_at}
use Rattle.c_core_laws.specs.lemmas.MadeValues.{conv_type, zero_in_range}

promoted_arithmetic : (t : IntType) → IsTrue (is_arithmetic (promoted t))
promoted_arithmetic ty.Bool = refl
promoted_arithmetic ty.I8 = refl
promoted_arithmetic ty.U8 = refl
promoted_arithmetic ty.I16 = refl
promoted_arithmetic ty.U16 = refl
promoted_arithmetic ty.I32 = refl
promoted_arithmetic ty.U32 = refl
promoted_arithmetic ty.I64 = refl
promoted_arithmetic ty.U64 = refl

either_type : (Q : IntType → Type 0) (b : Bool) (t u : IntType) → Q t → Q u →
    Q (if b then t else u)
either_type Q true t u h k = h
either_type Q false t u h k = k

common_arithmetic : (t u : IntType) → IsTrue (is_arithmetic (common_type t u))
common_arithmetic t u =
    let Q = λ (w : IntType). IsTrue (is_arithmetic w) in
    let p = promoted t in
    let q = promoted u in
    let h = promoted_arithmetic t in
    let k = promoted_arithmetic u in
    let by_sign = if is_signed p then q else p in
    let by_width = if nat_lt (width p) (width q) then q else by_sign in
    either_type Q (nat_lt (width q) (width p)) p by_width h
    (either_type Q (nat_lt (width p) (width q)) q by_sign k (either_type Q (is_signed p) q p k h))

nothing_more : (n : ℕ) → n + 0 ≡ n
nothing_more n = omega arith

first_only : (n i : ℕ) → i < 1 → n + i ≡ n
first_only n i below = omega (arith, below)

module _ (cells : List IntType) where
  pub const_typed : (t : IntType) (n : ℤ) → IsInRange t n → IsTyped cells (expr.Const t n)
  const_typed t n h = (typed_at_variants.constant cells t n).1 h

  pub zero_typed : (t : IntType) → IsTyped cells (expr.Const t (pos 0))
  zero_typed t = const_typed t (pos 0) (zero_in_range t)

  pub one_typed : IsTyped cells (int 1)
  one_typed = const_typed ty.I32 (pos 1) (omega (arith, ints), omega (arith, ints))

  conv_by : (b : Bool) (v : Expr) (t : IntType) → IsTyped cells v →
      IsTyped cells (if b then v else expr.Cast t v)
  conv_by true v t h = h
  conv_by false v t h = (typed_at_variants.cast cells t v).1 h

  pub conv_typed : (v : Expr) (t : IntType) → IsTyped cells v → IsTyped cells (conv v t)
  conv_typed v t h = conv_by (same_type (type_of v) t) v t h

  -- an operator of two operands of one type
  bin_typed : (o : BinOp) (t : IntType) (left right : Expr) → IsTrue (is_arithmetic t) →
      type_of left ≡ t → type_of right ≡ t → IsTyped cells left → IsTyped cells right →
      IsTyped cells (expr.Bin o t left right)
  bin_typed o t left right a e f h k =
      (typed_at_variants.binary cells o t left right).1 (a, e, λ so. f, h, k)

  cmp_typed : (o : CmpOp) (t : IntType) (left right : Expr) → type_of left ≡ t →
      type_of right ≡ t → IsTyped cells left → IsTyped cells right →
      IsTyped cells (expr.Cmp o t left right)
  cmp_typed o t left right e f h k =
      (typed_at_variants.comparison cells o t left right).1 (e, f, h, k)

  -- whether a value is this number, converted to its type
  pub asked_typed : (v : Expr) (n : ℤ) → IsTyped cells v →
      IsTyped cells (expr.Cmp cmp.Eq (type_of v) v
      (expr.Const (type_of v) (wrapped (type_of v) n)))
  asked_typed v n h =
      let t = type_of v in
      cmp_typed cmp.Eq t v (expr.Const t (wrapped t n)) refl
      (type_at_variants.constant t (wrapped t n)) h
      (const_typed t (wrapped t n) (wrapped_in_range t n))

  pub and_typed : (left right : Expr) → IsTyped cells left → IsTyped cells right →
      IsTyped cells (expr.And left right)
  and_typed left right h k = (typed_at_variants.conjunction cells left right).1 (h, k)

  pub or_typed : (left right : Expr) → IsTyped cells left → IsTyped cells right →
      IsTyped cells (expr.Or left right)
  or_typed left right h k = (typed_at_variants.disjunction cells left right).1 (h, k)

  node_typed : (operator : BinaryOperator) (t : IntType) (left right : Expr) →
      IsTrue (is_arithmetic t) → type_of left ≡ t → type_of right ≡ t → IsTyped cells left →
      IsTyped cells right → IsTyped cells (node_of operator t left right)
  node_typed binary.LogicalOr t left right a e f h k = or_typed left right h k
  node_typed binary.LogicalAnd t left right a e f h k = and_typed left right h k
  node_typed binary.BitOr t left right a e f h k = bin_typed bin.BitOr t left right a e f h k
  node_typed binary.BitXor t left right a e f h k = bin_typed bin.BitXor t left right a e f h k
  node_typed binary.BitAnd t left right a e f h k = bin_typed bin.BitAnd t left right a e f h k
  node_typed binary.Equal t left right a e f h k = cmp_typed cmp.Eq t left right e f h k
  node_typed binary.NotEqual t left right a e f h k = cmp_typed cmp.Ne t left right e f h k
  node_typed binary.Less t left right a e f h k = cmp_typed cmp.Lt t left right e f h k
  node_typed binary.Greater t left right a e f h k = cmp_typed cmp.Gt t left right e f h k
  node_typed binary.LessEqual t left right a e f h k = cmp_typed cmp.Le t left right e f h k
  node_typed binary.GreaterEqual t left right a e f h k = cmp_typed cmp.Ge t left right e f h k
  node_typed binary.ShiftLeft t left right a e f h k = bin_typed bin.Shl t left right a e f h k
  node_typed binary.ShiftRight t left right a e f h k = bin_typed bin.Shr t left right a e f h k
  node_typed binary.Add t left right a e f h k = bin_typed bin.Add t left right a e f h k
  node_typed binary.Subtract t left right a e f h k = bin_typed bin.Sub t left right a e f h k
  node_typed binary.Multiply t left right a e f h k = bin_typed bin.Mul t left right a e f h k
  node_typed binary.Divide t left right a e f h k = bin_typed bin.Div t left right a e f h k
  node_typed binary.Remainder t left right a e f h k = bin_typed bin.Rem t left right a e f h k

  shift_typed : (o : BinOp) (t : IntType) (left right : Expr) →
      shape.is_shift o ≡ true → IsTrue (is_arithmetic t) →
      type_of left ≡ t → IsTyped cells left → IsTyped cells right →
      IsTyped cells (expr.Bin o t left right)
  shift_typed o t left right is a e h k =
      (typed_at_variants.binary cells o t left right).1 (a, e, λ so. absurd (cc), h, k)

  common_by : (operator : BinaryOperator) (left right : Expr) → IsTyped cells left →
      IsTyped cells right →
      IsTyped cells (node_of operator (common_type (type_of left) (type_of right))
      (conv left (common_type (type_of left) (type_of right)))
      (conv right (common_type (type_of left) (type_of right))))
  common_by operator left right h k =
      let t = common_type (type_of left) (type_of right) in
      node_typed operator t (conv left t) (conv right t)
      (common_arithmetic (type_of left) (type_of right)) (conv_type left t) (conv_type right t)
      (conv_typed left t h) (conv_typed right t k)

  pub operator_typed : (operator : BinaryOperator) (left right : Expr) → IsTyped cells left →
      IsTyped cells right → IsTyped cells (operator_value operator left right)
  operator_typed binary.ShiftLeft left right h k =
      let t = promoted (type_of left) in
      shift_typed bin.Shl t (promote left) (promote right) refl (promoted_arithmetic (type_of left))
      (conv_type left t) (conv_typed left t h)
      (conv_typed right (promoted (type_of right)) k)
  operator_typed binary.ShiftRight left right h k =
      let t = promoted (type_of left) in
      shift_typed bin.Shr t (promote left) (promote right) refl (promoted_arithmetic (type_of left))
      (conv_type left t) (conv_typed left t h)
      (conv_typed right (promoted (type_of right)) k)
  operator_typed binary.LogicalOr left right h k = common_by binary.LogicalOr left right h k
  operator_typed binary.LogicalAnd left right h k = common_by binary.LogicalAnd left right h k
  operator_typed binary.BitOr left right h k = common_by binary.BitOr left right h k
  operator_typed binary.BitXor left right h k = common_by binary.BitXor left right h k
  operator_typed binary.BitAnd left right h k = common_by binary.BitAnd left right h k
  operator_typed binary.Equal left right h k = common_by binary.Equal left right h k
  operator_typed binary.NotEqual left right h k = common_by binary.NotEqual left right h k
  operator_typed binary.Less left right h k = common_by binary.Less left right h k
  operator_typed binary.Greater left right h k = common_by binary.Greater left right h k
  operator_typed binary.LessEqual left right h k = common_by binary.LessEqual left right h k
  operator_typed binary.GreaterEqual left right h k = common_by binary.GreaterEqual left right h k
  operator_typed binary.Add left right h k = common_by binary.Add left right h k
  operator_typed binary.Subtract left right h k = common_by binary.Subtract left right h k
  operator_typed binary.Multiply left right h k = common_by binary.Multiply left right h k
  operator_typed binary.Divide left right h k = common_by binary.Divide left right h k
  operator_typed binary.Remainder left right h k = common_by binary.Remainder left right h k

  un_typed : (o : UnOp) (v : Expr) → IsTyped cells v →
      IsTyped cells (expr.Un o (promoted (type_of v)) (promote v))
  un_typed o v h =
      let t = promoted (type_of v) in
      (typed_at_variants.unary cells o t (promote v)).1
      (promoted_arithmetic (type_of v), conv_type v t, conv_typed v t h)

  pub signed_typed : (operator : UnaryOperator) (v : Expr) → IsTyped cells v →
      IsTyped cells (signed_value operator v)
  signed_typed unary.Plus v h = conv_typed v (promoted (type_of v)) h
  signed_typed unary.Minus v h = un_typed un.Neg v h
  signed_typed unary.Complement v h = un_typed un.Flip v h
  signed_typed unary.Not v h = (typed_at_variants.negation cells v).1 h

  pub truth_typed : (v : Expr) → IsTyped cells v → IsTyped cells (truth_of v)
  truth_typed v h =
      (typed_at_variants.negation cells (expr.Not v)).1 ((typed_at_variants.negation cells v).1 h)

  pub chosen_typed : (test first second : Expr) → IsTyped cells test → IsTyped cells first →
      IsTyped cells second → IsTyped cells (chosen_value test first second)
  chosen_typed test first second h k l =
      let t = common_type (type_of first) (type_of second) in
      (typed_at_variants.conditional cells t test (conv first t) (conv second t)).1
      (conv_type first t, conv_type second t, h, conv_typed first t k, conv_typed second t l)

  -- a place that is there
  pub record PlaceFits (place : Location) : Type 0 where
    pub some : 1 ≤ place.len
    pub there : AreCells cells place.base place.len place.ty

  pub element_typed : (place : Location) (index : Expr) → PlaceFits place → IsTyped cells index →
      IsTyped cells (element place index)
  element_typed place index p h =
      (typed_at_variants.read cells place.ty place.base place.len index).1 (p.some, p.there, h)

  pub scalar_typed : (place : Location) → PlaceFits place → IsTyped cells (scalar place)
  scalar_typed place p = element_typed place (int 0) p (zero_typed ty.I32)

  pub cell_fits : (t : IntType) (n : ℕ) → slice_get cells n ≡ Some t → PlaceFits (cell_at t n)
  cell_fits t n is = record {
    some = omega arith;
    there = λ i below.
        ap (slice_get cells) (first_only n i below) ∙ is;
  }

  -- the first cell of more
  pub first_fits : (place : Location) → PlaceFits place → PlaceFits (cell_at place.ty place.base)
  first_fits place p =
      cell_fits place.ty place.base
      (ap (slice_get cells) (sym (nothing_more place.base)) ∙ p.there 0 (omega (arith, p.some)))

  -- a cell that is there has a number below theirs
  pub cell_below : (place : Location) → PlaceFits place → place.base < length cells
  cell_below place p =
      let here : slice_get cells place.base ≡ Some place.ty =
      ap (slice_get cells) (sym (nothing_more place.base)) ∙ p.there 0 (omega (arith, p.some)) in
      slice_get_within cells place.base place.ty here
