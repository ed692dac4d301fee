-- Character constants and string literals (C11 6.4.4.4 and 6.4.5).
use Rattle.std.specs.Prelude.{◌≡◌, ◌≢◌, ℕ, ◌<◌, ◌≤◌, ◌⊎◌, ◌++◌, List, [], ◌∷◌, length, IsTrue, ◌==◌}
use Rattle.std.specs.Prelude.{ℤ, pos, codes, Option, Some, None, if◌then◌else◌}
use Rattle.std.specs.List.{AllByRecursion, concat, list_all}
use Rattle.std.specs.Char.{is_digit}
use Rattle.std.specs.Str.Parse.{digits_value}
use Rattle.c_lexer.specs.declared.byte.TheConstants.{ALERT, BACKSLASH, BACKSPACE, CARRIAGE_RETURN}
use Rattle.c_lexer.specs.declared.byte.TheConstants.{DOUBLE_QUOTE, FORM_FEED, LINE_FEED}
use Rattle.c_lexer.specs.declared.byte.TheConstants.{QUESTION_MARK, SINGLE_QUOTE, SPACE, TAB, TILDE}
use Rattle.c_lexer.specs.declared.byte.TheConstants.{VERTICAL_TAB}
use Rattle.cpa_ints.specs.declared.integers.IntType.TheVariants as ty
use Rattle.cpa_ints.specs.Wrapping.{wrapped}
use Rattle.c_lexer.specs.Bytes.{is_on_line}

-- one byte other than the quote, the backslash and the line feed
pub record IsUnescaped (quote : ℕ) (bytes : List ℕ) : Type 0 where
  pub byte : ℕ
  pub spelled : bytes ≡ byte ∷ []
  pub no_quote : byte ≢ quote
  pub no_backslash : byte ≢ BACKSLASH
  pub on_line : IsTrue (is_on_line byte)

-- a backslash and the byte that it takes with it, no line feed (the text has no line splices left)
pub record IsEscaped (bytes : List ℕ) : Type 0 where
  pub byte : ℕ
  pub spelled : bytes ≡ BACKSLASH ∷ byte ∷ []
  pub on_line : IsTrue (is_on_line byte)

-- a content of such bytes between two quotes
pub record IsQuoted (quote : ℕ) (bytes content : List ℕ) : Type 0 where
  pub units : List (List ℕ)
  pub spelled : bytes ≡ quote ∷ (content ++ quote ∷ [])
  pub divided : content ≡ concat units
  pub each : AllByRecursion (λ unit. IsUnescaped quote unit ⊎ IsEscaped unit) units

-- a string literal
pub record IsText (bytes : List ℕ) : Type 0 where
  pub content : List ℕ
  pub quoted : IsQuoted DOUBLE_QUOTE bytes content

-- one byte from the space to ~ other than ' and the backslash
pub record IsPlain (content : List ℕ) (number : ℕ) : Type 0 where
  pub spelled : content ≡ number ∷ []
  pub from_space : SPACE ≤ number
  pub to_tilde : number ≤ TILDE
  pub no_quote : number ≢ SINGLE_QUOTE
  pub no_backslash : number ≢ BACKSLASH

-- what the byte stands for by a table of bytes and their values
abbrev pub value_in : List ℕ → List ℕ → ℕ → Option ℕ
value_in (key ∷ keys) (value ∷ values) byte =
    if byte == key then Some value else value_in keys values byte
value_in _ _ byte = None

-- what the byte behind a backslash stands for
abbrev pub simple_escape : ℕ → Option ℕ
simple_escape = value_in (codes "'\"?\\abfnrtv")
    (SINGLE_QUOTE ∷ DOUBLE_QUOTE ∷ QUESTION_MARK ∷ BACKSLASH ∷ ALERT ∷ BACKSPACE ∷ FORM_FEED ∷
    LINE_FEED ∷ CARRIAGE_RETURN ∷ TAB ∷ VERTICAL_TAB ∷ [])

-- a backslash and one of these bytes
pub record IsSimpleEscape (content : List ℕ) (number : ℕ) : Type 0 where
  pub byte : ℕ
  pub spelled : content ≡ BACKSLASH ∷ byte ∷ []
  pub stands_for : simple_escape byte ≡ Some number

-- a backslash and one to three octal digits
pub record IsOctalEscape (content : List ℕ) (number : ℕ) : Type 0 where
  pub digits : List ℕ
  pub spelled : content ≡ BACKSLASH ∷ digits
  pub octal : IsTrue (list_all (λ byte. is_digit byte 8) digits)
  pub some : 0 < length digits
  pub few : length digits ≤ 3
  pub valued : number ≡ digits_value 8 digits

-- a backslash, x and one or more hexadecimal digits
pub record IsHexEscape (content : List ℕ) (number : ℕ) : Type 0 where
  pub digits : List ℕ
  pub spelled : content ≡ codes "\\x" ++ digits
  pub hexadecimal : IsTrue (list_all (λ byte. is_digit byte 16) digits)
  pub some : 0 < length digits
  pub valued : number ≡ digits_value 16 digits

-- the content of a character constant stands for this number
abbrev pub StandsFor : List ℕ → ℕ → Type 0
StandsFor content number = IsPlain content number ⊎ (IsSimpleEscape content number ⊎
    (IsOctalEscape content number ⊎ IsHexEscape content number))

-- a character constant with this value: a number of at most 255, read as a signed char
-- (C11 6.4.4.4p10)
pub record IsCharacter (bytes : List ℕ) (value : ℤ) : Type 0 where
  pub content : List ℕ
  pub number : ℕ
  pub quoted : IsQuoted SINGLE_QUOTE bytes content
  pub stands_for : StandsFor content number
  pub fits : number ≤ 255
  pub valued : value ≡ wrapped ty.I8 (pos number)
