-- The integer promotions and the usual arithmetic conversions (C11 6.3.1.1 and 6.3.1.8), by rank,
-- sign and range.
use Rattle.std.specs.Prelude.{ℕ, ◌<◌, ◌≤◌, ◌≡◌, ℤ, true, false, nat_lt, if◌then◌else◌}
use Rattle.cpa_ints.specs.declared.integers.IntType.{IntType}
use Rattle.cpa_ints.specs.declared.integers.IntType.TheVariants as ty
use Rattle.cpa_ints.specs.Integers.{width, is_signed, IsInRange}

-- the conversion rank (C11 6.3.1.1p1): types of one width have one rank, and a wider type has a
-- greater one. C11 ranks long long above long, and long above int; where a data model gives two of
-- them one width, one type stands for both, since to rank them apart changes no conversion. Signed
-- with signed and unsigned with unsigned keep that one type, and signed with unsigned gives the
-- unsigned one by either order, as neither signed one has the unsigned one's values.
abbrev pub rank : IntType → ℕ
rank t = width t

-- p has every value of t
abbrev pub Represents : IntType → IntType → Type 0
Represents p t = (n : ℤ) → IsInRange t n → IsInRange p n

-- the unsigned type that corresponds to t
abbrev pub unsigned_of : IntType → IntType
unsigned_of ty.Bool = ty.Bool
unsigned_of ty.I8 = ty.U8
unsigned_of ty.U8 = ty.U8
unsigned_of ty.I16 = ty.U16
unsigned_of ty.U16 = ty.U16
unsigned_of ty.I32 = ty.U32
unsigned_of ty.U32 = ty.U32
unsigned_of ty.I64 = ty.U64
unsigned_of ty.U64 = ty.U64

-- t is promoted to p (C11 6.3.1.1)
pub record IsPromotionOf (t p : IntType) : Type 0 where
  pub to_int : rank t < rank ty.I32 → Represents ty.I32 t → p ≡ ty.I32
  pub to_unsigned_int : rank t < rank ty.I32 → ¬ Represents ty.I32 t → p ≡ ty.U32
  pub unchanged : rank ty.I32 ≤ rank t → p ≡ t

-- an unsigned type u and a signed type s, both promoted, have the common type c
pub record IsMixedCommonOf (u s c : IntType) : Type 0 where
  pub to_unsigned : rank s ≤ rank u → c ≡ u
  pub to_signed : rank u < rank s → Represents s u → c ≡ s
  pub to_corresponding : rank u < rank s → ¬ Represents s u → c ≡ unsigned_of s

-- two promoted types p and q have the common type c (C11 6.3.1.8)
pub record IsCommonOf (p q c : IntType) : Type 0 where
  pub of_one_sign : is_signed p ≡ is_signed q →
      (rank q ≤ rank p → c ≡ p) × (rank p ≤ rank q → c ≡ q)
  pub left_unsigned : is_signed p ≡ false → is_signed q ≡ true → IsMixedCommonOf p q c
  pub right_unsigned : is_signed p ≡ true → is_signed q ≡ false → IsMixedCommonOf q p c

-- the usual arithmetic conversions take operands of the types a and b to the type c
pub record IsUsualConversionOf (a b c : IntType) : Type 0 where
  pub left : IntType
  pub right : IntType
  pub left_promoted : IsPromotionOf a left
  pub right_promoted : IsPromotionOf b right
  pub common : IsCommonOf left right c

-- a type below int's width becomes int
abbrev pub promoted : IntType → IntType
promoted t = if nat_lt (width t) (width ty.I32) then ty.I32 else t

-- the wider type, and of equal widths the unsigned one if either is
abbrev pub wider : IntType → IntType → IntType
wider p q =
    if nat_lt (width q) (width p) then p
    else if nat_lt (width p) (width q) then q
    else if is_signed p then q else p

-- the type in which a binary operation computes
abbrev pub common_type : IntType → IntType → IntType
common_type a b = wider (promoted a) (promoted b)
