-- The tables of kinds and types have each of them.
use Rattle.std.specs.Prelude.{◌≡◌, Some, refl}
use Rattle.cpa_ints.specs.declared.integers.IntType.{IntType}
use Rattle.cpa_ints.specs.declared.integers.IntType.TheVariants as ty
use Rattle.cpa_expr.specs.declared.tree.UnOp.TheVariants as un
use Rattle.cpa_expr.specs.declared.tree.BinOp.TheVariants as bin
use Rattle.cpa_expr.specs.declared.tree.CmpOp.TheVariants as cmp
use Rattle.cpa_expr.specs.Words.{type_word}
use Rattle.cpa_expr_text.specs.declared.kinds.Kind.{Kind}
use Rattle.cpa_expr_text.specs.declared.kinds.Kind.TheVariants as kind
use Rattle.cpa_expr_text.specs.Kinds.{kind_word, kind_spelled, type_spelled}

pub known_kind : (k : Kind) → kind_spelled (kind_word k) ≡ Some k
unfolding kind_spelled
known_kind kind.Const = refl
known_kind kind.Read = refl
known_kind (kind.Un un.Neg) = refl
known_kind (kind.Un un.Flip) = refl
known_kind (kind.Bin bin.Add) = refl
known_kind (kind.Bin bin.Sub) = refl
known_kind (kind.Bin bin.Mul) = refl
known_kind (kind.Bin bin.Div) = refl
known_kind (kind.Bin bin.Rem) = refl
known_kind (kind.Bin bin.BitAnd) = refl
known_kind (kind.Bin bin.BitOr) = refl
known_kind (kind.Bin bin.BitXor) = refl
known_kind (kind.Bin bin.Shl) = refl
known_kind (kind.Bin bin.Shr) = refl
known_kind (kind.Cmp cmp.Eq) = refl
known_kind (kind.Cmp cmp.Ne) = refl
known_kind (kind.Cmp cmp.Lt) = refl
known_kind (kind.Cmp cmp.Le) = refl
known_kind (kind.Cmp cmp.Gt) = refl
known_kind (kind.Cmp cmp.Ge) = refl
known_kind kind.Cast = refl
known_kind kind.Both = refl
known_kind kind.Either = refl
known_kind kind.Not = refl
known_kind kind.Cond = refl

pub known_type : (t : IntType) → type_spelled (type_word t) ≡ Some t
unfolding type_spelled
known_type ty.Bool = refl
known_type ty.I8 = refl
known_type ty.U8 = refl
known_type ty.I16 = refl
known_type ty.U16 = refl
known_type ty.I32 = refl
known_type ty.U32 = refl
known_type ty.I64 = refl
known_type ty.U64 = refl
