-- What reading a constant computes. It promises nothing: what it means stands in Numbers and in
-- Quoted, and proofs/Constants and proofs/Quotes tie the two.
use Rattle.std.specs.Prelude.{ℕ, Bool, true, false, not, ◌&&◌, ◌||◌, List, [], ◌∷◌, length, drop}
use Rattle.std.specs.Prelude.{take, ◌==◌, nat_le, pos, Option, Some, None, Result, Ok, Err, cond}
use Rattle.std.specs.List.{list_all, prefix_len}
use Rattle.std.specs.Char.{is_digit}
use Rattle.std.specs.Str.Parse.{digits_value}
use Rattle.c_lexer.specs.declared.byte.TheConstants.{BACKSLASH, SINGLE_QUOTE, SPACE, TILDE, ZERO}
use Rattle.cpa_ints.specs.declared.integers.IntType.{IntType}
use Rattle.cpa_ints.specs.declared.integers.IntType.TheVariants as ty
use Rattle.cpa_ints.specs.Wrapping.{wrapped}
use Rattle.c_lexer.specs.declared.fault.Rule.{Rule}
use Rattle.c_lexer.specs.declared.fault.Rule.TheVariants.{L1, L3}
use Rattle.c_lexer.specs.declared.token.TokenKind.{TokenKind}
use Rattle.c_lexer.specs.declared.token.TokenKind.TheVariants.{Number, Character}
use Rattle.c_lexer.specs.Numbers.{Base, Decimal, Octal, Hexadecimal, Rank, Int, Long, LongLong}
use Rattle.c_lexer.specs.Numbers.{Suffix, radix, type_of}
use Rattle.c_lexer.specs.Quoted.{simple_escape}
use Rattle.cpa_ints.specs.declared.data_model.DataModel.{DataModel}

-- x or X
abbrev pub is_x : ℕ → Bool
is_x byte = byte == 120 || byte == 88

-- the base by the first bytes
abbrev pub base_of : List ℕ → Base
base_of [] = Decimal
base_of (first ∷ []) = cond (first == ZERO) Octal Decimal
base_of (first ∷ second ∷ rest) =
    cond (first == ZERO) (cond (is_x second) Hexadecimal Octal) Decimal

-- how many bytes stand before the digits
abbrev pub front_of : Base → ℕ
front_of Hexadecimal = 2
front_of _ = 0

-- how many digits of the base come first
abbrev pub digit_run : Base → List ℕ → ℕ
digit_run base text = prefix_len (λ byte. is_digit byte (radix base)) text

-- u or U
abbrev pub is_u : ℕ → Bool
is_u byte = byte == 117 || byte == 85

-- the rank that the letters name
abbrev pub rank_of : List ℕ → Option Rank
rank_of [] = Some Int
rank_of (first ∷ []) = cond (first == 108 || first == 76) (Some Long) None
rank_of (first ∷ second ∷ []) =
    cond ((first == 108 && second == 108) || (first == 76 && second == 76)) (Some LongLong) None
rank_of (first ∷ second ∷ third ∷ rest) = None

-- a suffix of this rank, if there is one
abbrev pub with_rank : Bool → Option Rank → Option Suffix
with_rank unsigned None = None
with_rank unsigned (Some rank) = Some (record { unsigned = unsigned; rank = rank })

-- the suffix that the letters are
abbrev pub suffix_of : List ℕ → Option Suffix
suffix_of [] = Some (record { unsigned = false; rank = Int })
suffix_of (first ∷ []) = cond (is_u first) (Some (record { unsigned = true; rank = Int }))
    (with_rank false (rank_of (first ∷ [])))
suffix_of (first ∷ second ∷ []) = cond (is_u first) (with_rank true (rank_of (second ∷ [])))
    (cond (is_u second) (with_rank true (rank_of (first ∷ [])))
    (with_rank false (rank_of (first ∷ second ∷ []))))
suffix_of (first ∷ second ∷ third ∷ []) =
    cond (is_u first) (with_rank true (rank_of (second ∷ third ∷ [])))
    (cond (is_u third) (with_rank true (rank_of (first ∷ second ∷ []))) None)
suffix_of (first ∷ second ∷ third ∷ fourth ∷ rest) = None

-- a number of this type, where a type holds it
abbrev pub typed : Option IntType → ℕ → Result TokenKind Rule
typed None number = Err L3
typed (Some t) number = Ok (Number t (pos number))

-- the number with this suffix, if it has one
abbrev pub suffixed : DataModel → Option Suffix → Base → ℕ → Result TokenKind Rule
suffixed model None base number = Err L1
suffixed model (Some suffix) base number = typed (type_of model suffix base number) number

-- the constant of this base whose digits come first
abbrev pub number_in : DataModel → Base → List ℕ → Result TokenKind Rule
number_in model base text = cond (digit_run base text == 0) (Err L1)
    (suffixed model (suffix_of (drop (digit_run base text) text)) base
    (digits_value (radix base) (take (digit_run base text) text)))

-- the integer constant that the run is
abbrev pub number_of : DataModel → List ℕ → Result TokenKind Rule
number_of model run = number_in model (base_of run) (drop (front_of (base_of run)) run)

-- a byte that stands for itself between quotes of a character
abbrev pub is_plain : ℕ → Bool
is_plain byte =
    nat_le SPACE byte && nat_le byte TILDE && not (byte == SINGLE_QUOTE) && not (byte == BACKSLASH)

-- the number of a plain byte or a simple escape
abbrev pub single_of : List ℕ → Option ℕ
single_of [] = None
single_of (first ∷ []) = cond (is_plain first) (Some first) None
single_of (first ∷ second ∷ []) = cond (first == BACKSLASH) (simple_escape second) None
single_of (first ∷ second ∷ third ∷ rest) = None

-- all the bytes are digits of this many, and there are some
abbrev pub is_numeral : ℕ → List ℕ → Bool
is_numeral radix digits = not (length digits == 0) && list_all (λ byte. is_digit byte radix) digits

-- a backslash, x and hexadecimal digits
abbrev pub is_hex_escape : List ℕ → Bool
is_hex_escape [] = false
is_hex_escape (first ∷ []) = false
is_hex_escape (first ∷ second ∷ rest) = first == BACKSLASH && second == 120 && is_numeral 16 rest

-- a backslash and one to three octal digits
abbrev pub is_octal_escape : List ℕ → Bool
is_octal_escape [] = false
is_octal_escape (first ∷ rest) = first == BACKSLASH && nat_le (length rest) 3 && is_numeral 8 rest

-- a character of this number, where a byte holds it
abbrev pub held : ℕ → Result TokenKind Rule
held number = cond (nat_le number 255) (Ok (Character (wrapped ty.I8 (pos number)))) (Err L3)

-- the character that an escape by digits is
abbrev pub numeric_escape : List ℕ → Result TokenKind Rule
numeric_escape content = cond (is_hex_escape content) (held (digits_value 16 (drop 2 content)))
    (cond (is_octal_escape content) (held (digits_value 8 (drop 1 content))) (Err L1))

-- the character with this number, or else the escape
abbrev pub single_or : Option ℕ → List ℕ → Result TokenKind Rule
single_or (Some number) content = held number
single_or None content = numeric_escape content

-- the character constant that the content between the quotes is
abbrev pub character_of : List ℕ → Result TokenKind Rule
character_of content = single_or (single_of content) content
