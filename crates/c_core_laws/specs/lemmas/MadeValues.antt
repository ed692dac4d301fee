-- Values that are made of a type have it, and each type has the number 0.
use Rattle.std.proofs.Common.{◌≡◌, Bool, true, false, if◌then◌else◌, refl, arith, pos}
use Rattle.std.proofs.lemmas.Int.{ints}
use Rattle.cpa_ints.specs.declared.integers.IntType.{IntType}
use Rattle.cpa_ints.specs.declared.integers.IntType.TheVariants as ty
use Rattle.cpa_ints.specs.contracts.integers.IntType as int_type
use Rattle.cpa_ints.specs.Integers.{IsInRange}
use Rattle.cpa_expr.specs.declared.tree.Expr.{Expr}
use Rattle.cpa_expr.specs.declared.tree.Expr.TheVariants as expr
use Rattle.cpa_expr.specs.Shape.{type_of}
use Rattle.cpa_expr.specs.Equality.{same_type}
use Rattle.cpa_expr.specs.Laws.{type_at_variants}
use denote.Enum.Bare.{same_true, true_same}
use Rattle.c_core_rules.specs.Values.{conv}

pub type_same : (t u : IntType) → same_type t u ≡ true → t ≡ u
type_same = same_true int_type.the_type tt

pub same_self : (t : IntType) → same_type t t ≡ true
same_self t = true_same int_type.the_type t t refl

conv_type_by : (b : Bool) (v : Expr) (t : IntType) → same_type (type_of v) t ≡ b →
    type_of (if b then v else expr.Cast t v) ≡ t
conv_type_by true v t is = type_same (type_of v) t is
conv_type_by false v t is = type_at_variants.cast t v

pub conv_type : (v : Expr) (t : IntType) → type_of (conv v t) ≡ t
conv_type v t = conv_type_by (same_type (type_of v) t) v t refl

pub zero_in_range : (t : IntType) → IsInRange t (pos 0)
zero_in_range ty.Bool = (omega (arith, ints), omega (arith, ints))
zero_in_range ty.I8 = (omega (arith, ints), omega (arith, ints))
zero_in_range ty.U8 = (omega (arith, ints), omega (arith, ints))
zero_in_range ty.I16 = (omega (arith, ints), omega (arith, ints))
zero_in_range ty.U16 = (omega (arith, ints), omega (arith, ints))
zero_in_range ty.I32 = (omega (arith, ints), omega (arith, ints))
zero_in_range ty.U32 = (omega (arith, ints), omega (arith, ints))
zero_in_range ty.I64 = (omega (arith, ints), omega (arith, ints))
zero_in_range ty.U64 = (omega (arith, ints), omega (arith, ints))
