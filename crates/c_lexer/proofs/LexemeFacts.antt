-- What holds of each token of a text, by one pass over the parts.
use Rattle.std.proofs.Common.{◌≡◌, ◌≢◌, ℕ, ◌+◌, ◌-◌, ◌<◌, ◌≤◌, Bool, true, List, [], ◌∷◌, ◌++◌}
use Rattle.std.proofs.Common.{length, take, drop, append_assoc, length-append, arith, refl, ap, sym}
use Rattle.std.proofs.Common.{◌∙◌, subst, ◌⊎◌, inl, inr, Some, zero, suc, ℤ, pos, ◌≤ℤ◌, int_le}
use Rattle.std.proofs.Common.{find}
use Rattle.std.specs.List.{AllByRecursion, slice_get}
use Rattle.std.proofs.lemmas.Bool.{cases_Bool}
use Rattle.std.proofs.lemmas.Int.{ints}
use Rattle.std.proofs.lemmas.Option.{slice_get-map}
use Rattle.std.specs.Option.{option_map}
use lib.Signed.{le_z_yes}
use lib.Dec.{T}
use Rattle.std.proofs.Math.Seq.{take-append_seam, drop-append_seam}
use Rattle.cpa_ints.specs.declared.integers.IntType.{IntType}
use Rattle.cpa_ints.specs.declared.integers.IntType.TheVariants as ty
use Rattle.cpa_ints.specs.Integers.{IsInRange, least, greatest}
use Rattle.cpa_ints.specs.Wrapping.{wrapped}
use Rattle.c_lexer.specs.declared.token.Token.{Token}
use Rattle.c_lexer.specs.declared.token.TokenKind.{TokenKind}
use Rattle.c_lexer.specs.declared.token.TokenKind.TheVariants.{Word, Number, Character, Text, Mark}
use Rattle.c_lexer.specs.declared.token.TokenKind.TheVariants.{End}
use Rattle.c_lexer.specs.Parts.{Part, gap, directive, token, bytes_of, joined, IsToken, Stand}
use Rattle.c_lexer.specs.Parts.{fresh_behind, tokens_from, end_token, Tokens}
use Rattle.c_lexer.specs.Numbers.{IsNumber, types_of}
use Rattle.c_lexer.specs.Lexemes.{end_lexeme, lexeme_of, lexemes, bytes_at, IsSpelled, EndsOnce}
use Rattle.c_lexer.specs.Lexemes.{AreInOrder, ForEachToken}
use Rattle.c_lexer.proofs.Complete.{part_some}
use Rattle.cpa_ints.specs.declared.data_model.DataModel.{DataModel}

not_end : (model : DataModel) (kind : TokenKind) (bytes rest : List ℕ) →
    IsToken model kind bytes rest → kind ≢ End
not_end model Word bytes rest is = λ e. (cc)
not_end model (Number t value) bytes rest is = λ e. (cc)
not_end model (Character value) bytes rest is = λ e. (cc)
not_end model Text bytes rest is = λ e. (cc)
not_end model Mark bytes rest is = λ e. (cc)
not_end model End bytes rest is = absurd is

-- the token with these bytes between those before and those behind
abbrev pub token_between : TokenKind → List ℕ → List ℕ → Token
token_between kind before bytes =
    record { kind = kind; from = length before; to = length before + length bytes }

bytes_between : (kind : TokenKind) (before bytes rest : List ℕ) →
    bytes_at (before ++ (bytes ++ rest)) (token_between kind before bytes) ≡ bytes
bytes_between kind before bytes rest =
    let from_here : drop (length before) (before ++ (bytes ++ rest))
    ≡ bytes ++ rest = drop-append_seam before (bytes ++ rest) in
    let long : length before + length bytes - length before ≡ length bytes = omega arith in
    ap (λ z. take z (drop (length before) (before ++ (bytes ++ rest)))) long
    ∙ ap (take (length bytes)) from_here ∙ take-append_seam bytes rest

rest_behind : (before bytes rest : List ℕ) →
    drop (length before + length bytes) (before ++ (bytes ++ rest)) ≡ rest
rest_behind before bytes rest =
    ap (λ z. drop z (before ++ (bytes ++ rest))) (sym (length-append before bytes))
    ∙ ap (drop (length (before ++ bytes))) (sym (append_assoc before bytes rest))
    ∙ drop-append_seam (before ++ bytes) rest

spelled_between : (model : DataModel) (kind : TokenKind) (before bytes rest : List ℕ) →
    0 < length bytes →
    IsToken model kind bytes rest →
    IsSpelled model (before ++ (bytes ++ rest)) (token_between kind before bytes)
spelled_between model kind before bytes rest some is =
    let e = bytes_between kind before bytes rest in
    let here : IsToken model kind (bytes_at (before ++ (bytes ++ rest))
    (token_between kind before bytes))
    rest = subst (λ z. IsToken model kind z rest) (sym e) is in
    record {
      kind =
          subst (λ z. IsToken model kind (bytes_at (before ++ (bytes ++ rest))
          (token_between kind before bytes)) z) (sym (rest_behind before bytes rest)) here;
      some = omega arith;
      within = omega (arith, length-append before (bytes ++ rest), length-append bytes rest);
    }

-- a token and that it is no End
abbrev IsReal : DataModel → List ℕ → Token → Type 0
IsReal model text t = IsSpelled model text t × (t.kind ≢ End)

real_more : (model : DataModel) (text : List ℕ) (before bytes rest : List ℕ) (fresh : Bool)
    (kind : TokenKind) →
    text ≡ before ++ (bytes ++ rest) → IsToken model kind bytes rest →
    IsReal model text (token_between kind before bytes)
real_more model text before bytes rest fresh kind e is = (
  subst (λ z. IsSpelled model z (token_between kind before bytes)) (sym e)
      (spelled_between model kind before bytes rest
      (part_some model fresh (token kind bytes) rest is) is),
  not_end model kind bytes rest is,
)

-- what is before the parts that are left
split_on : (text before : List ℕ) (part : Part) (parts : List Part) →
    text ≡ before ++ (joined (part ∷ parts) ++ []) →
    text ≡ before ++ (bytes_of part ++ (joined parts ++ []))
split_on text before part parts e =
    e ∙ ap (λ z. before ++ z) (append_assoc (bytes_of part) (joined parts) [])

pushed_on : (text before : List ℕ) (part : Part) (parts : List Part) →
    text ≡ before ++ (joined (part ∷ parts) ++ []) →
    text ≡ (before ++ bytes_of part) ++ (joined parts ++ [])
pushed_on text before part parts e =
    split_on text before part parts e
    ∙ sym (append_assoc before (bytes_of part) (joined parts ++ []))

all_real : (model : DataModel) (text before : List ℕ) (place : ℕ) (fresh : Bool)
    (parts : List Part) →
    place ≡ length before → text ≡ before ++ (joined parts ++ []) → Stand model fresh parts [] →
    AllByRecursion (IsReal model text) (tokens_from place parts)
all_real model text before place fresh [] at e stand = tt
all_real model text before place fresh (gap bytes ∷ parts) at e stand =
    all_real model text (before ++ bytes) (place + length bytes)
    (fresh_behind fresh (gap bytes)) parts
    (omega (arith, at, length-append before bytes)) (pushed_on text before (gap bytes) parts e)
    stand.1
all_real model text before place fresh (directive bytes ∷ parts) at e stand =
    all_real model text (before ++ bytes) (place + length bytes)
    (fresh_behind fresh (directive bytes))
    parts (omega (arith, at, length-append before bytes))
    (pushed_on text before (directive bytes) parts e) stand.1
all_real model text before place fresh (token kind bytes ∷ parts) at e stand =
    let here = real_more model text before bytes (joined parts ++ []) fresh kind
    (split_on text before (token kind bytes) parts e) stand.0 in (
      subst (λ z. IsReal model text (record { kind = kind; from = z; to = z + length bytes }))
          (sym at)
          here,
      all_real model text (before ++ bytes) (place + length bytes)
          (fresh_behind fresh (token kind bytes))
          parts (omega (arith, at, length-append before bytes))
          (pushed_on text before (token kind bytes) parts e) stand.1,
    )

-- the token at a place of a list with one more behind it

pub record Last (xs : List Token) (end t : Token) (i : ℕ) : Type 0 where
  pub index : i ≡ length xs
  pub same : t ≡ end

at_end : (xs : List Token) (end : Token) (i : ℕ) (t : Token) →
    slice_get (xs ++ end ∷ []) i ≡ Some t → (slice_get xs i ≡ Some t) ⊎ Last xs end t i
at_end [] end zero t e = inr (record { index = refl; same = cc })
at_end [] end (suc i) t e = cc
at_end (x ∷ xs) end zero t e = inl e
at_end (x ∷ xs) end (suc i) t e = elim (at_end xs end i t e) [
  | inl here ↦ inl here
  | inr last ↦ inr (record { index = omega (arith, last.index); same = last.same })
]

end_at : (xs : List Token) (end : Token) → slice_get (xs ++ end ∷ []) (length xs) ≡ Some end
end_at [] end = refl
end_at (x ∷ xs) end = end_at xs end

all_at : (P : Token → Type 0) (xs : List Token) (i : ℕ) (t : Token) → AllByRecursion P xs →
    slice_get xs i ≡ Some t → P t
all_at P [] i t all e = cc
all_at P (x ∷ xs) zero t all e = let same : x ≡ t = cc in subst P same all.0
all_at P (x ∷ xs) (suc i) t all e = all_at P xs i t all.1 e

-- the token at an index is a real one, or End at the last

at_index : (model : DataModel) (text : List ℕ) (found : List Token) (i : ℕ) (t : Token)
    (is : Tokens model text found) →
    slice_get found i ≡ Some t →
    IsReal model text t ⊎ Last (tokens_from 0 is.parts) (end_token (length text)) t i
at_index model text found i t is e =
    elim (at_end (tokens_from 0 is.parts) (end_token (length text)) i t
    (ap (λ z. slice_get z i) (sym is.listed) ∙ e)) [
      | inl here ↦ inl (all_at (IsReal model text) (tokens_from 0 is.parts) i t
          (all_real model text [] 0 true is.parts refl is.falls.spelled is.falls.stand) here)
      | inr last ↦ inr last
    ]

pub spelled : (model : DataModel) → ForEachToken model
    (λ text t. t.kind ≢ End → IsSpelled model text t)
spelled model text found i t is e apart = elim (at_index model text found i t is e) [
  | inl real ↦ real.0
  | inr last ↦ absurd (apart (ap (λ z. z.kind) last.same))
]

pub ends_once : (model : DataModel) (text : List ℕ) (found : List Token) → Tokens model text found →
    EndsOnce text found
ends_once model text found is =
    let long : length found ≡ length (tokens_from 0 is.parts) + 1 = ap length is.listed
    ∙ length-append (tokens_from 0 is.parts) (end_token (length text) ∷ []) in
    let index : length found - 1 ≡ length (tokens_from 0 is.parts) = omega (arith, long) in
    record {
      some = omega (arith, long);
      last =
          ap (λ z. slice_get z (length found - 1)) is.listed
          ∙ ap (λ z. slice_get (tokens_from 0 is.parts ++ end_token (length text) ∷ []) z) index
          ∙ end_at (tokens_from 0 is.parts) (end_token (length text));
      only = λ i t e kind. elim (at_index model text found i t is e) [
        | inl real ↦ absurd (real.1 kind)
        | inr last ↦ omega (arith, long, last.index)
      ];
    }

-- tokens in order from a place on

abbrev Ordered : ℕ → List Token → Type 0
Ordered place [] = Unit {0}
Ordered place (t ∷ ts) = (place ≤ t.from) × (t.from ≤ t.to) × Ordered t.to ts

ordered_sooner : (m n : ℕ) (ts : List Token) → m ≤ n → Ordered n ts → Ordered m ts
ordered_sooner m n [] le all = tt
ordered_sooner m n (t ∷ ts) le all = (omega (arith, all.0), all.1, all.2)

all_ordered : (text before : List ℕ) (place : ℕ) (parts : List Part) → place ≡ length before →
    text ≡ before ++ (joined parts ++ []) →
    Ordered place (tokens_from place parts ++ end_token (length text) ∷ [])
all_ordered text before place [] at e =
    (omega (arith, ap length e, length-append before [], at), omega arith, tt)
all_ordered text before place (gap bytes ∷ parts) at e =
    ordered_sooner place (place + length bytes) _ (omega arith)
    (all_ordered text (before ++ bytes) (place + length bytes) parts (omega (
      arith,
      at,
      length-append before bytes,
    )) (pushed_on text before (gap bytes) parts e))
all_ordered text before place (directive bytes ∷ parts) at e =
    ordered_sooner place (place + length bytes) _ (omega arith)
    (all_ordered text (before ++ bytes) (place + length bytes) parts (omega (
      arith,
      at,
      length-append before bytes,
    )) (pushed_on text before (directive bytes) parts e))
all_ordered text before place (token kind bytes ∷ parts) at e = (
  omega arith,
  omega arith,
  all_ordered text (before ++ bytes) (place + length bytes) parts (omega (
    arith,
    at,
    length-append before bytes,
  )) (pushed_on text before (token kind bytes) parts e),
)

from_on : (place : ℕ) (ts : List Token) (j : ℕ) (t : Token) → Ordered place ts →
    slice_get ts j ≡ Some t → place ≤ t.from
from_on place [] j t all e = cc
from_on place (x ∷ ts) zero t all e =
    let same : x ≡ t = cc in subst (λ z. place ≤ z.from) same all.0
from_on place (x ∷ ts) (suc j) t all e =
    let later = from_on x.to ts j t all.2 e in omega (arith, all.0, all.1, later)

ordered_at : (place : ℕ) (ts : List Token) → Ordered place ts → AreInOrder ts
ordered_at place [] all i j a b less e f = cc
ordered_at place (x ∷ ts) all zero zero a b less e f = absurd (omega (arith, less))
ordered_at place (x ∷ ts) all zero (suc j) a b less e f =
    let same : x ≡ a = cc in subst (λ z. z.to ≤ b.from) same (from_on x.to ts j b all.2 f)
ordered_at place (x ∷ ts) all (suc i) zero a b less e f = absurd (omega (arith, less))
ordered_at place (x ∷ ts) all (suc i) (suc j) a b less e f =
    ordered_at x.to ts all.2 i j a b (omega (arith, less)) e f

pub in_order : (model : DataModel) (text : List ℕ) (found : List Token) → Tokens model text found →
    AreInOrder found
in_order model text found is =
    let all = all_ordered text [] 0 is.parts refl is.falls.spelled in
    ordered_at 0 found (subst (Ordered 0) (sym is.listed) all)

-- the values of constants

found_passes : (test : IntType → Bool) (ts : List IntType) (t : IntType) → find test ts ≡ Some t →
    test t ≡ true
found_passes test [] t e = cc
found_passes test (x ∷ ts) t e = elim (cases_Bool (test x)) [
  | inl h ↦ (let some : Some x ≡ Some t = rw h at e in let same : x ≡ t = cc in
      subst (λ z. test z ≡ true) same h)
  | inr h ↦ (let more : find test ts ≡ Some t = rw h at e in found_passes test ts t more)
]

not_negative : (t : IntType) (n : ℕ) → least t ≤ℤ pos n
not_negative ty.Bool n = omega (arith, ints)
not_negative ty.I8 n = omega (arith, ints)
not_negative ty.U8 n = omega (arith, ints)
not_negative ty.I16 n = omega (arith, ints)
not_negative ty.U16 n = omega (arith, ints)
not_negative ty.I32 n = omega (arith, ints)
not_negative ty.U32 n = omega (arith, ints)
not_negative ty.I64 n = omega (arith, ints)
not_negative ty.U64 n = omega (arith, ints)

in_order_of : (a b : ℤ) → int_le a b ≡ true → a ≤ℤ b
in_order_of a b h = le_z_yes (subst T (sym h) tt)

held_in_range : (t : IntType) (n : ℕ) → int_le (pos n) (greatest t) ≡ true → IsInRange t (pos n)
held_in_range t n h = (not_negative t n, in_order_of (pos n) (greatest t) h)

number_in_range : (model : DataModel) (bytes : List ℕ) (t : IntType) (value : ℤ) →
    IsNumber model bytes t value →
    IsInRange t value
number_in_range model bytes t value is =
    let holds = found_passes (λ z. int_le (pos is.number) (greatest z))
    (types_of model is.suffix.rank is.suffix.unsigned is.base) t is.first_type in
    subst (IsInRange t) (sym is.valued) (held_in_range t is.number holds)

-- a token of a kind other than End has that kind's meaning
kind_at : (model : DataModel) (text : List ℕ) (found : List Token) (i : ℕ) (t : Token)
    (kind : TokenKind) →
    Tokens model text found → slice_get found i ≡ Some t → t.kind ≡ kind → kind ≢ End →
    IsToken model kind (bytes_at text t) (drop t.to text)
kind_at model text found i t kind is e same apart =
    let s = spelled model text found i t is e (λ bad. apart (sym same ∙ bad)) in
    subst (λ z. IsToken model z (bytes_at text t) (drop t.to text)) same s.kind

pub number_value : (model : DataModel) → ForEachToken model
    (λ text t. (type : IntType) (value : ℤ) →
    t.kind ≡ Number type value → IsInRange type value)
number_value model text found i t is e type value kind =
    number_in_range model (bytes_at text t) type value
    (kind_at model text found i t (Number type value) is e
    kind (λ bad. (cc))).0

pub character_value : (model : DataModel) → ((type : IntType) (n : ℤ) →
    IsInRange type (wrapped type n)) →
    ForEachToken model (λ text t. (value : ℤ) → t.kind ≡ Character value → IsInRange ty.I8 value)
character_value model range text found i t is e value kind =
    let c = kind_at model text found i t (Character value) is e kind (λ bad. (cc)) in
    subst (IsInRange ty.I8) (sym c.valued) (range ty.I8 (pos c.number))

-- each token lies in the text, End too
pub within_text : (model : DataModel) → ForEachToken model
    (λ text t. (t.from ≤ t.to) × (t.to ≤ length text))
within_text model text found i t is e = elim (at_index model text found i t is e) [
  | inl real ↦ (omega (arith, real.0.some), real.0.within)
  | inr last ↦ subst (λ z. (z.from ≤ z.to) × (z.to ≤ length text)) (sym last.same) (
    omega arith,
    omega arith,
  )
]

end_lexeme_of : (text : List ℕ) → lexeme_of text (end_token (length text)) ≡ end_lexeme
end_lexeme_of text = let none : length text - length text ≡ 0 = omega arith in rw none refl

-- the last lexeme is that of the end
pub last_lexeme : (model : DataModel) (text : List ℕ) (found : List Token) →
    Tokens model text found →
    slice_get (lexemes text found) (length found - 1) ≡ Some end_lexeme
last_lexeme model text found is =
    slice_get-map (lexeme_of text) found (length found - 1)
    ∙ ap (option_map (lexeme_of text)) (ends_once model text found is).last
    ∙ ap Some (end_lexeme_of text)
