-- Integer constants, as they are read.
use Rattle.std.proofs.Common.{◌≡◌, ℕ, ◌<◌, ◌≤◌, Bool, true, false, cond, ◌==◌, List, [], ◌∷◌, ◌++◌}
use Rattle.std.proofs.Common.{length, take, drop, arith, refl, ap, sym, ◌∙◌, subst, ◌⊎◌, inl, inr}
use Rattle.std.proofs.Common.{Option, Some, None, Result, Err}
use Rattle.std.specs.List.{prefix_len, list_all}
use Rattle.std.specs.Char.{is_ascii_digit, is_digit}
use Rattle.std.specs.Str.Parse.{digits_value}
use Rattle.std.proofs.lemmas.Bool.{cases_Bool, and_parts, and_from, or_cases, eqb-true, ne_eqb}
use Rattle.std.proofs.lemmas.Bool.{not-true, not_from_false, true≢false, false_from_ne_true}
use Rattle.std.proofs.lemmas.Bool.{eqb-false}
use Rattle.std.proofs.lemmas.Bool.Decides.{nat_tests}
use Rattle.std.proofs.Math.Seq.{take-append_seam, drop-append_seam}
use Rattle.std.proofs.lemmas.List.{take-append-drop}
use Rattle.cpa_ints.specs.declared.integers.IntType.{IntType}
use Rattle.c_lexer.specs.declared.fault.Rule.{Rule}
use Rattle.c_lexer.specs.declared.fault.Rule.TheVariants.{L1}
use Rattle.c_lexer.specs.declared.token.TokenKind.{TokenKind}
use Rattle.c_lexer.specs.Bytes.{is_number_byte, begins_with, StopsAt}
use Rattle.c_lexer.specs.Numbers.{Base, Decimal, Octal, Hexadecimal, Rank, Int, Long, LongLong}
use Rattle.c_lexer.specs.Numbers.{Suffix, radix, IsBaseMark, begins_as, IsUnsignedMark, IsRankMark}
use Rattle.c_lexer.specs.Numbers.{IsSuffix, IsConstant, type_of}
use Rattle.c_lexer.specs.Steps.ReadingConstants.{is_x, base_of, front_of, digit_run, suffix_of}
use Rattle.c_lexer.specs.Steps.ReadingConstants.{typed, suffixed, number_in, number_of}
use Rattle.c_lexer.proofs.Runs.{run_stops, run_passes, take_more}
use Rattle.c_lexer.proofs.Suffixes.{suffix_read, suffix_is}
use Rattle.cpa_ints.specs.declared.data_model.DataModel.{DataModel}

-- no digit of the base
abbrev pub in_base : Base → ℕ → Bool
in_base base byte = is_digit byte (radix base)

stops_append : (p : ℕ → Bool) (a b : List ℕ) → StopsAt p a → StopsAt p b → StopsAt p (a ++ b)
stops_append p [] b one two = two
stops_append p (x ∷ a) b one two = one

-- a suffix begins with no digit of any base, and with no x

stops_u : (p : ℕ → Bool) (unsigned : Bool) (u : List ℕ) → p 117 ≡ false → p 85 ≡ false →
    IsUnsignedMark unsigned u → StopsAt p u
stops_u p false u low high is = ap (begins_with p) is
stops_u p true u low high is = elim is [
  | inl e ↦ ap (begins_with p) e ∙ low
  | inr e ↦ ap (begins_with p) e ∙ high
]

stops_rank : (p : ℕ → Bool) (rank : Rank) (r : List ℕ) → p 108 ≡ false → p 76 ≡ false →
    IsRankMark rank r → StopsAt p r
stops_rank p Int r low high is = ap (begins_with p) is
stops_rank p Long r low high is = elim is [
  | inl e ↦ ap (begins_with p) e ∙ low
  | inr e ↦ ap (begins_with p) e ∙ high
]
stops_rank p LongLong r low high is = elim is [
  | inl e ↦ ap (begins_with p) e ∙ low
  | inr e ↦ ap (begins_with p) e ∙ high
]

suffix_stops : (p : ℕ → Bool) (s : Suffix) (letters : List ℕ) → p 117 ≡ false → p 85 ≡ false →
    p 108 ≡ false → p 76 ≡ false → IsSuffix s letters → StopsAt p letters
suffix_stops p s letters a b c d is =
    let u = stops_u p s.unsigned is.unsigned_mark a b is.unsigned in
    let r = stops_rank p s.rank is.rank_mark c d is.rank in
    elim is.order [
      | inl o ↦ ap (begins_with p) o ∙ stops_append p is.unsigned_mark is.rank_mark u r
      | inr o ↦ ap (begins_with p) o ∙ stops_append p is.rank_mark is.unsigned_mark r u
    ]

digits_stop : (base : Base) (s : Suffix) (letters : List ℕ) → IsSuffix s letters →
    StopsAt (in_base base) letters
digits_stop Decimal s letters is = suffix_stops (in_base Decimal) s letters refl refl refl refl is
digits_stop Octal s letters is = suffix_stops (in_base Octal) s letters refl refl refl refl is
digits_stop Hexadecimal s letters is =
    suffix_stops (in_base Hexadecimal) s letters refl refl refl refl is

-- an octal digit is no x
octal_no_x : (byte : ℕ) → is_digit byte 8 ≡ true → is_x byte ≡ false
octal_no_x byte h =
    false_from_ne_true (is_x byte) (λ t. elim (or_cases (byte == 120) (byte == 88) t) [
      | inl e ↦ (let same = eqb-true byte 120 e in let bad : true ≡ false = sym h
          ∙ ap (λ z. is_digit z 8) same in true≢false bad)
      | inr e ↦ (let same = eqb-true byte 88 e in let bad : true ≡ false = sym h
          ∙ ap (λ z. is_digit z 8) same in true≢false bad)
    ])

digits_no_x : (digits behind : List ℕ) (s : Suffix) → list_all (in_base Octal) digits ≡ true →
    IsSuffix s behind → StopsAt is_x (digits ++ behind)
digits_no_x [] behind s all is = suffix_stops is_x s behind refl refl refl refl is
digits_no_x (d ∷ digits) behind s all is =
    octal_no_x d (and_parts (in_base Octal d) (list_all (in_base Octal) digits) all).0

-- the base is read

base_not_zero : (first : ℕ) (rest : List ℕ) → (first == 48) ≡ false →
    base_of (first ∷ rest) ≡ Decimal
base_not_zero first [] h = rw h
base_not_zero first (second ∷ rest) h = rw h

base_zero : (rest : List ℕ) → StopsAt is_x rest → base_of (48 ∷ rest) ≡ Octal
base_zero [] stop = refl
base_zero (second ∷ rest) stop = rw stop

base_read : (base : Base) (front digits behind : List ℕ) (s : Suffix) → IsBaseMark base front →
    begins_as base digits ≡ true → list_all (in_base base) digits ≡ true → IsSuffix s behind →
    (base_of (front ++ (digits ++ behind)) ≡ base)
    × (drop (front_of base) (front ++ (digits ++ behind)) ≡ digits ++ behind)
base_read Decimal front [] behind s mark begins all is = cc
base_read Decimal front (d ∷ digits) behind s mark begins all is =
    let whole : front ++ (d ∷ digits ++ behind) ≡ d ∷ digits ++ behind = ap (λ z.
    z ++ (d ∷ digits ++ behind)) mark in
    (ap base_of whole ∙ base_not_zero d (digits ++ behind) (not-true (d == 48) begins), whole)
base_read Octal front [] behind s mark begins all is = cc
base_read Octal front (d ∷ digits) behind s mark begins all is =
    let whole : front ++ (d ∷ digits ++ behind) ≡ d ∷ digits ++ behind = ap (λ z.
    z ++ (d ∷ digits ++ behind)) mark in
    let zero_first : d ≡ 48 = eqb-true d 48 begins in
    let rest_all = (and_parts (in_base Octal d) (list_all (in_base Octal) digits) all).1 in (
      ap base_of (whole ∙ ap (λ z. z ∷ digits ++ behind) zero_first)
          ∙ base_zero (digits ++ behind) (digits_no_x digits behind s rest_all is),
      whole,
    )
base_read Hexadecimal front digits behind s mark begins all is = elim mark [
  | inl e ↦ (let whole = ap (λ z. z ++ (digits ++ behind)) e in
      (ap base_of whole, ap (drop 2) whole))
  | inr e ↦ (let whole = ap (λ z. z ++ (digits ++ behind)) e in
      (ap base_of whole, ap (drop 2) whole))
]

begins_some : (base : Base) (digits : List ℕ) → begins_as base digits ≡ true → 0 < length digits
begins_some Decimal [] h = cc
begins_some Octal [] h = cc
begins_some Hexadecimal [] h = cc
begins_some base (d ∷ digits) h = omega arith

-- digits and a suffix behind them are read
in_read : (model : DataModel) (base : Base) (digits behind : List ℕ) (s : Suffix) →
    0 < length digits →
    list_all (in_base base) digits ≡ true → IsSuffix s behind →
    number_in model base (digits ++ behind) ≡ suffixed model (Some s) base
    (digits_value (radix base) digits)
in_read model base digits behind s some all is =
    let run : digit_run base (digits ++ behind) ≡ length digits = run_stops (in_base base) digits
    behind all (digits_stop base s behind is) in
    let taken : take (length digits) (digits ++ behind) ≡ digits = take-append_seam digits behind in
    let dropped : drop (length digits) (digits ++ behind)
    ≡ behind = drop-append_seam digits behind in
    let more : (length digits == 0) ≡ false = ne_eqb (length digits) 0 (λ e. omega arith) in
    let read : suffix_of behind ≡ Some s = suffix_read s behind is in
    let shape : ℕ → Result TokenKind Rule = λ n. cond (n == 0) (Err L1)
    (suffixed model (suffix_of (drop n (digits ++ behind))) base
    (digits_value (radix base) (take n (digits ++ behind)))) in
    ap shape run ∙ ap (λ z. cond z (Err L1) (suffixed model
    (suffix_of (drop (length digits) (digits ++ behind))) base
    (digits_value (radix base) (take (length digits) (digits ++ behind))))) more
    ∙ ap (λ z. suffixed model (suffix_of z) base (digits_value (radix base)
    (take (length digits) (digits ++ behind)))) dropped
    ∙ ap (λ z. suffixed model z base (digits_value (radix base)
    (take (length digits) (digits ++ behind)))) read
    ∙ ap (λ z. suffixed model (Some s) base (digits_value (radix base) z)) taken

pub constant_read : (model : DataModel) (run : List ℕ) (base : Base) (s : Suffix) (number : ℕ) →
    IsConstant run base s number → number_of model run ≡ typed (type_of model s base number) number
constant_read model run base s number is =
    let b = base_read base is.front is.digits is.behind s is.marked is.begins is.numeral is.suffixed
    in
    let base_is : base_of run ≡ base = ap base_of is.spelled ∙ b.0 in
    let behind_is : drop (front_of base) run ≡ is.digits ++ is.behind = ap (drop (front_of base))
    is.spelled ∙ b.1 in
    ap (λ z. number_in model z (drop (front_of z) run)) base_is
    ∙ ap (number_in model base) behind_is
    ∙ in_read model base is.digits is.behind s (begins_some base is.digits is.begins) is.numeral
    is.suffixed
    ∙ ap (λ z. typed (type_of model s base z) z) (sym is.valued)

typed_not_malformed : (found : Option IntType) (number : ℕ) → typed found number ≡ Err L1 → ⊥
typed_not_malformed None number e = cc
typed_not_malformed (Some t) number e = cc

pub constant_malformed : (model : DataModel) (run : List ℕ) (base : Base) (s : Suffix)
    (number : ℕ) →
    number_of model run ≡ Err L1 → IsConstant run base s number → ⊥
constant_malformed model run base s number e is =
    typed_not_malformed (type_of model s base number) number
    (sym (constant_read model run base s number is)
    ∙ e)

-- what is read is a constant
pub record Constant (model : DataModel) (run : List ℕ) : Type 0 where
  pub base : Base
  pub suffix : Suffix
  pub number : ℕ
  pub constant : IsConstant run base suffix number
  pub read : number_of model run ≡ typed (type_of model suffix base number) number

-- the digits begin as the base has it
digits_first : (p : ℕ → Bool) (byte : ℕ) (rest : List ℕ) → (prefix_len p (byte ∷ rest) ≡ 0 → ⊥) →
    take (prefix_len p (byte ∷ rest)) (byte ∷ rest) ≡ byte ∷ take (prefix_len p rest) rest
digits_first p byte rest some = elim (cases_Bool (p byte)) [
  | inl h ↦ take_more p byte rest h
  | inr h ↦ absurd (some (rw h))
]

begins_by : (base : Base) (byte : ℕ) (rest : List ℕ) → begins_as base (byte ∷ []) ≡ true →
    begins_as base (byte ∷ rest) ≡ true
begins_by Decimal byte rest h = h
begins_by Octal byte rest h = h
begins_by Hexadecimal byte rest h = h

some_digits : (base : Base) (byte : ℕ) (rest : List ℕ) → begins_as base (byte ∷ []) ≡ true →
    (digit_run base (byte ∷ rest) ≡ 0 → ⊥) →
    begins_as base (take (digit_run base (byte ∷ rest)) (byte ∷ rest)) ≡ true
some_digits base byte rest h some =
    ap (begins_as base) (digits_first (in_base base) byte rest some)
    ∙ begins_by base byte (take (digit_run base rest) rest) h

hex_digits : (text : List ℕ) → (digit_run Hexadecimal text ≡ 0 → ⊥) →
    begins_as Hexadecimal (take (digit_run Hexadecimal text) text) ≡ true
hex_digits [] some = absurd (some refl)
hex_digits (byte ∷ rest) some = some_digits Hexadecimal byte rest refl some

-- the bytes before the digits, and the first digit, are those of the base
abbrev IsBased : List ℕ → Base → Type 0
IsBased run base = IsBaseMark base (take (front_of base) run) ×
    ((digit_run base (drop (front_of base) run) ≡ 0 → ⊥) →
    begins_as base (take (digit_run base (drop (front_of base) run))
    (drop (front_of base) run)) ≡ true)

base_is : (run : List ℕ) → IsBased run (base_of run)
base_is [] = (refl, λ some. absurd (some refl))
base_is (first ∷ []) = elim (cases_Bool (first == 48)) [
  | inl h ↦ (let b : base_of (first ∷ []) ≡ Octal = rw h in
      subst (IsBased (first ∷ [])) (sym b) (refl, some_digits Octal first [] h))
  | inr h ↦ (let b : base_of (first ∷ []) ≡ Decimal = rw h in
      subst (IsBased (first ∷ [])) (sym b) (
        refl,
        some_digits Decimal first [] (not_from_false _ h),
      ))
]
base_is (first ∷ second ∷ rest) = elim (cases_Bool (first == 48)) [
  | inl h ↦ elim (cases_Bool (is_x second)) [
    | inl g ↦ (let b : base_of (first ∷ second ∷ rest) ≡ Hexadecimal = rw (h, g) in
        let a : first ≡ 48 = eqb-true first 48 h in
        let mark : IsBaseMark Hexadecimal (first ∷ second ∷ []) = elim
        (or_cases (second == 120) (second == 88) g) [
          | inl e ↦ (let x : second ≡ 120 = eqb-true second 120 e in inl (cc))
          | inr e ↦ (let x : second ≡ 88 = eqb-true second 88 e in inr (cc))
        ] in
        subst (IsBased (first ∷ second ∷ rest)) (sym b) (mark, hex_digits rest))
    | inr g ↦ (let b : base_of (first ∷ second ∷ rest) ≡ Octal = rw (h, g) in
        subst (IsBased (first ∷ second ∷ rest)) (sym b) (
          refl,
          some_digits Octal first (second ∷ rest) h,
        ))
  ]
  | inr h ↦ (let b : base_of (first ∷ second ∷ rest) ≡ Decimal = rw h in
      subst (IsBased (first ∷ second ∷ rest)) (sym b) (
        refl,
        some_digits Decimal first (second ∷ rest) (not_from_false _ h),
      ))
]

-- digits, and a suffix that is read behind them, are a constant
constant_made : (run : List ℕ) (base : Base) (s : Suffix) → IsBased run base →
    (digit_run base (drop (front_of base) run) ≡ 0 → ⊥) →
    suffix_of (drop (digit_run base (drop (front_of base) run)) (drop (front_of base) run))
    ≡ Some s →
    IsConstant run base s (digits_value (radix base)
    (take (digit_run base (drop (front_of base) run)) (drop (front_of base) run)))
constant_made run base s based some read = record {
  front = take (front_of base) run;
  digits = take (digit_run base (drop (front_of base) run)) (drop (front_of base) run);
  behind = drop (digit_run base (drop (front_of base) run)) (drop (front_of base) run);
  spelled =
      sym (take-append-drop (front_of base) run)
      ∙ ap (λ z. take (front_of base) run ++ z) (sym
      (take-append-drop (digit_run base (drop (front_of base) run)) (drop (front_of base) run)));
  marked = based.0;
  begins = based.1 some;
  numeral = run_passes (in_base base) (drop (front_of base) run);
  suffixed = suffix_is s _ read;
  valued = refl;
}

with_suffix : (model : DataModel) (run : List ℕ) (found : Option Suffix) →
    (digit_run (base_of run) (drop (front_of (base_of run)) run) ≡ 0 → ⊥) →
    suffix_of (drop (digit_run (base_of run) (drop (front_of (base_of run)) run))
    (drop (front_of (base_of run)) run)) ≡ found → Constant model run
    ⊎ (number_of model run ≡ Err L1)
with_suffix model run None some read =
    let more : (digit_run (base_of run) (drop (front_of (base_of run)) run) == 0)
    ≡ false = ne_eqb _ 0 some in
    inr (rw (more, read))
with_suffix model run (Some s) some read =
    let is = constant_made run (base_of run) s (base_is run) some read in
    inl (record {
      base = base_of run;
      suffix = s;
      number = _;
      constant = is;
      read = constant_read model run (base_of run) s _ is;
    })

pub constant_is : (model : DataModel) (run : List ℕ) →
    Constant model run ⊎ (number_of model run ≡ Err L1)
constant_is model run =
    elim (cases_Bool (digit_run (base_of run) (drop (front_of (base_of run)) run) == 0)) [
      | inl h ↦ inr (rw h)
      | inr h ↦ with_suffix model run (suffix_of (drop (digit_run (base_of run)
          (drop (front_of (base_of run)) run)) (drop (front_of (base_of run)) run)))
          (eqb-false _ 0 h) refl
    ]

-- a constant is a number's bytes, of which the first is a digit

number_digit : (base : Base) (byte : ℕ) → in_base base byte ≡ true → is_number_byte byte ≡ true
number_digit Decimal byte h = grind (arith, nat_tests)
number_digit Octal byte h = grind (arith, nat_tests)
number_digit Hexadecimal byte h = grind (arith, nat_tests)

number_digits : (base : Base) (digits : List ℕ) → list_all (in_base base) digits ≡ true →
    list_all is_number_byte digits ≡ true
number_digits base [] all = refl
number_digits base (d ∷ digits) all =
    let p = and_parts (in_base base d) (list_all (in_base base) digits) all in
    and_from _ _ (number_digit base d p.0) (number_digits base digits p.1)

all_append : (p : ℕ → Bool) (a b : List ℕ) → list_all p a ≡ true → list_all p b ≡ true →
    list_all p (a ++ b) ≡ true
all_append p [] b one two = two
all_append p (x ∷ a) b one two =
    let q = and_parts (p x) (list_all p a) one in and_from _ _ q.0 (all_append p a b q.1 two)

number_front : (base : Base) (front : List ℕ) → IsBaseMark base front →
    list_all is_number_byte front ≡ true
number_front Decimal front mark = ap (list_all is_number_byte) mark
number_front Octal front mark = ap (list_all is_number_byte) mark
number_front Hexadecimal front mark = elim mark [
  | inl e ↦ ap (list_all is_number_byte) e
  | inr e ↦ ap (list_all is_number_byte) e
]

number_u : (unsigned : Bool) (u : List ℕ) → IsUnsignedMark unsigned u →
    list_all is_number_byte u ≡ true
number_u false u is = ap (list_all is_number_byte) is
number_u true u is = elim is [
  | inl e ↦ ap (list_all is_number_byte) e
  | inr e ↦ ap (list_all is_number_byte) e
]

number_rank : (rank : Rank) (r : List ℕ) → IsRankMark rank r → list_all is_number_byte r ≡ true
number_rank Int r is = ap (list_all is_number_byte) is
number_rank Long r is = elim is [
  | inl e ↦ ap (list_all is_number_byte) e
  | inr e ↦ ap (list_all is_number_byte) e
]
number_rank LongLong r is = elim is [
  | inl e ↦ ap (list_all is_number_byte) e
  | inr e ↦ ap (list_all is_number_byte) e
]

number_suffix : (s : Suffix) (letters : List ℕ) → IsSuffix s letters →
    list_all is_number_byte letters ≡ true
number_suffix s letters is =
    let u = number_u s.unsigned is.unsigned_mark is.unsigned in
    let r = number_rank s.rank is.rank_mark is.rank in
    elim is.order [
      | inl o ↦ ap (list_all is_number_byte) o
          ∙ all_append is_number_byte is.unsigned_mark is.rank_mark u r
      | inr o ↦ ap (list_all is_number_byte) o
          ∙ all_append is_number_byte is.rank_mark is.unsigned_mark r u
    ]

pub constant_bytes : (run : List ℕ) (base : Base) (s : Suffix) (number : ℕ) →
    IsConstant run base s number → list_all is_number_byte run ≡ true
constant_bytes run base s number is =
    ap (list_all is_number_byte) is.spelled
    ∙ all_append is_number_byte is.front (is.digits ++ is.behind)
    (number_front base is.front is.marked)
    (all_append is_number_byte is.digits is.behind (number_digits base is.digits is.numeral)
    (number_suffix s is.behind is.suffixed))

decimal_digit : (base : Base) (byte : ℕ) → radix base ≤ 10 → in_base base byte ≡ true →
    is_ascii_digit byte ≡ true
decimal_digit base byte small h = grind (arith, nat_tests)

first_decimal : (base : Base) (front digits behind : List ℕ) → front ≡ [] → radix base ≤ 10 →
    0 < length digits → list_all (in_base base) digits ≡ true →
    begins_with is_ascii_digit (front ++ (digits ++ behind)) ≡ true
first_decimal base front [] behind e small some all = absurd (omega arith)
first_decimal base front (d ∷ digits) behind e small some all =
    ap (λ z. begins_with is_ascii_digit (z ++ (d ∷ digits ++ behind))) e
    ∙ decimal_digit base d small (and_parts (in_base base d) (list_all (in_base base) digits)
    all).0

first_digit_by : (base : Base) (front digits behind : List ℕ) → IsBaseMark base front →
    0 < length digits → list_all (in_base base) digits ≡ true →
    begins_with is_ascii_digit (front ++ (digits ++ behind)) ≡ true
first_digit_by Decimal front digits behind mark some all =
    first_decimal Decimal front digits behind mark (omega arith) some all
first_digit_by Octal front digits behind mark some all =
    first_decimal Octal front digits behind mark (omega arith) some all
first_digit_by Hexadecimal front digits behind mark some all = elim mark [
  | inl e ↦ ap (λ z. begins_with is_ascii_digit (z ++ (digits ++ behind))) e
  | inr e ↦ ap (λ z. begins_with is_ascii_digit (z ++ (digits ++ behind))) e
]

pub constant_first : (run : List ℕ) (base : Base) (s : Suffix) (number : ℕ) →
    IsConstant run base s number → begins_with is_ascii_digit run ≡ true
constant_first run base s number is =
    ap (begins_with is_ascii_digit) is.spelled
    ∙ first_digit_by base is.front is.digits is.behind is.marked
    (begins_some base is.digits is.begins) is.numeral
