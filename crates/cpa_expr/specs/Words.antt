-- The words of types and operators, as reports and messages spell them (this project's own).
use Rattle.std.specs.Prelude.{ℕ, List, codes}
use Rattle.cpa_ints.specs.declared.integers.IntType.{IntType}
use Rattle.cpa_ints.specs.declared.integers.IntType.TheVariants as ty
use Rattle.cpa_expr.specs.declared.tree.UnOp.{UnOp}
use Rattle.cpa_expr.specs.declared.tree.BinOp.{BinOp}
use Rattle.cpa_expr.specs.declared.tree.CmpOp.{CmpOp}
use Rattle.cpa_expr.specs.declared.tree.UnOp.TheVariants as un
use Rattle.cpa_expr.specs.declared.tree.BinOp.TheVariants as bin
use Rattle.cpa_expr.specs.declared.tree.CmpOp.TheVariants as cmp

-- the word of an integer type
abbrev pub type_word : IntType → List ℕ
type_word ty.Bool = codes "bool"
type_word ty.I8 = codes "i8"
type_word ty.U8 = codes "u8"
type_word ty.I16 = codes "i16"
type_word ty.U16 = codes "u16"
type_word ty.I32 = codes "i32"
type_word ty.U32 = codes "u32"
type_word ty.I64 = codes "i64"
type_word ty.U64 = codes "u64"

-- the words of the operators
abbrev pub un_word : UnOp → List ℕ
un_word un.Neg = codes "neg"
un_word un.Flip = codes "flip"

abbrev pub bin_word : BinOp → List ℕ
bin_word bin.Add = codes "add"
bin_word bin.Sub = codes "sub"
bin_word bin.Mul = codes "mul"
bin_word bin.Div = codes "div"
bin_word bin.Rem = codes "rem"
bin_word bin.BitAnd = codes "and"
bin_word bin.BitOr = codes "or"
bin_word bin.BitXor = codes "xor"
bin_word bin.Shl = codes "shl"
bin_word bin.Shr = codes "shr"

abbrev pub cmp_word : CmpOp → List ℕ
cmp_word cmp.Eq = codes "eq"
cmp_word cmp.Ne = codes "ne"
cmp_word cmp.Lt = codes "lt"
cmp_word cmp.Le = codes "le"
cmp_word cmp.Gt = codes "gt"
cmp_word cmp.Ge = codes "ge"
