-- Integer constants (C11 6.4.4.1).
use Rattle.std.specs.Prelude.{◌≡◌, ℕ, Bool, true, false, not, ◌⊎◌, ◌++◌, List, [], ◌∷◌, IsTrue}
use Rattle.std.specs.Prelude.{codes, ◌==◌, ℤ, pos, int_le, Option, Some, find}
use Rattle.std.specs.List.{list_all}
use Rattle.std.specs.Char.{is_digit}
use Rattle.std.specs.Str.Parse.{digits_value}
use Rattle.c_lexer.specs.declared.byte.TheConstants.{ZERO}
use Rattle.cpa_ints.specs.declared.integers.IntType.{IntType}
use Rattle.cpa_ints.specs.declared.integers.IntType.TheVariants as ty
use Rattle.cpa_ints.specs.Integers.{greatest}
use Rattle.cpa_ints.specs.declared.data_model.DataModel.{DataModel}
use Rattle.cpa_ints.specs.DataModels.{long, unsigned_long}
use Rattle.c_lexer.specs.Bytes.{begins_with}

-- in which base a constant is written
pub data Base : Type 0 where
  Decimal : Base
  Octal : Base
  Hexadecimal : Base

-- the least of int, long and long long that a constant can have
pub data Rank : Type 0 where
  Int : Rank
  Long : Rank
  LongLong : Rank

-- what the letters behind a constant's digits say
pub record Suffix : Type 0 where
  pub unsigned : Bool
  pub rank : Rank

-- the number of digits of a base
abbrev pub radix : Base → ℕ
radix Decimal = 10
radix Octal = 8
radix Hexadecimal = 16

-- what stands before the digits
abbrev pub IsBaseMark : Base → List ℕ → Type 0
IsBaseMark Decimal front = front ≡ []
IsBaseMark Octal front = front ≡ []
IsBaseMark Hexadecimal front = (front ≡ codes "0x") ⊎ (front ≡ codes "0X")

-- what the digits begin with: of a decimal constant not 0, of an octal one 0
abbrev pub begins_as : Base → List ℕ → Bool
begins_as Decimal = begins_with (λ byte. not (byte == ZERO))
begins_as Octal = begins_with (λ byte. byte == ZERO)
begins_as Hexadecimal = begins_with (λ byte. true)

-- u or U where the constant is unsigned
abbrev pub IsUnsignedMark : Bool → List ℕ → Type 0
IsUnsignedMark true mark = (mark ≡ codes "u") ⊎ (mark ≡ codes "U")
IsUnsignedMark false mark = mark ≡ []

-- l or L, ll or LL, or nothing
abbrev pub IsRankMark : Rank → List ℕ → Type 0
IsRankMark Int mark = mark ≡ []
IsRankMark Long mark = (mark ≡ codes "l") ⊎ (mark ≡ codes "L")
IsRankMark LongLong mark = (mark ≡ codes "ll") ⊎ (mark ≡ codes "LL")

-- the two marks in either order
pub record IsSuffix (suffix : Suffix) (bytes : List ℕ) : Type 0 where
  pub unsigned_mark : List ℕ
  pub rank_mark : List ℕ
  pub unsigned : IsUnsignedMark suffix.unsigned unsigned_mark
  pub rank : IsRankMark suffix.rank rank_mark
  pub order : (bytes ≡ unsigned_mark ++ rank_mark) ⊎ (bytes ≡ rank_mark ++ unsigned_mark)

-- the bytes are the number in this base with this suffix
pub record IsConstant (bytes : List ℕ) (base : Base) (suffix : Suffix) (number : ℕ) : Type 0 where
  pub front : List ℕ
  pub digits : List ℕ
  pub behind : List ℕ
  pub spelled : bytes ≡ front ++ (digits ++ behind)
  pub marked : IsBaseMark base front
  pub begins : IsTrue (begins_as base digits)
  pub numeral : IsTrue (list_all (λ byte. is_digit byte (radix base)) digits)
  pub suffixed : IsSuffix suffix behind
  pub valued : number ≡ digits_value (radix base) digits

-- the list of types of a constant in a data model (C11 6.4.4.1p5): int, long, long long and their
-- unsigned ones
abbrev pub types_of : DataModel → Rank → Bool → Base → List IntType
types_of model Int false Decimal = ty.I32 ∷ long model ∷ ty.I64 ∷ []
types_of model Int false _ =
    ty.I32 ∷ ty.U32 ∷ long model ∷ unsigned_long model ∷ ty.I64 ∷ ty.U64 ∷ []
types_of model Int true _ = ty.U32 ∷ unsigned_long model ∷ ty.U64 ∷ []
types_of model Long false Decimal = long model ∷ ty.I64 ∷ []
types_of model Long false _ = long model ∷ unsigned_long model ∷ ty.I64 ∷ ty.U64 ∷ []
types_of model Long true _ = unsigned_long model ∷ ty.U64 ∷ []
types_of model LongLong false Decimal = ty.I64 ∷ []
types_of model LongLong false _ = ty.I64 ∷ ty.U64 ∷ []
types_of model LongLong true _ = ty.U64 ∷ []

-- the first of them that holds the number
abbrev pub type_of : DataModel → Suffix → Base → ℕ → Option IntType
type_of model suffix base number =
    find (λ t. int_le (pos number) (greatest t)) (types_of model suffix.rank suffix.unsigned base)

-- an integer constant of this type and value
pub record IsNumber (model : DataModel) (bytes : List ℕ) (t : IntType) (value : ℤ) : Type 0 where
  pub base : Base
  pub suffix : Suffix
  pub number : ℕ
  pub constant : IsConstant bytes base suffix number
  pub first_type : type_of model suffix base number ≡ Some t
  pub valued : value ≡ pos number
