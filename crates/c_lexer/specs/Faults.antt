-- Why a text falls into no tokens, and where the first reason stands (this project's own rules, for
-- texts that break C11 6.4).
use Rattle.std.specs.Prelude.{◌≡◌, ◌≢◌, ℕ, ◌<◌, Bool, true, false, ◌⊎◌, ◌++◌, List, ◌∷◌, length}
use Rattle.std.specs.Prelude.{IsTrue, codes, None}
use Rattle.std.specs.List.{list_all}
use Rattle.std.specs.Char.{is_ascii_digit}
use Rattle.c_lexer.specs.declared.byte.TheConstants.{DOUBLE_QUOTE, NUMBER_SIGN, SINGLE_QUOTE}
use Rattle.c_lexer.specs.declared.fault.Rule.{Rule}
use Rattle.c_lexer.specs.declared.fault.Rule.TheVariants.{L1, L2, L3, L4}
use Rattle.c_lexer.specs.declared.fault.TextFault.{TextFault}
use Rattle.c_lexer.specs.declared.fault.TextError.{TextError}
use Rattle.c_lexer.specs.declared.fault.TextError.TheVariants.{Fault, OutOfMemory}
use Rattle.c_lexer.specs.Bytes.{is_blank, is_word_head, is_number_byte, is_on_line, begins_with}
use Rattle.c_lexer.specs.Bytes.{StopsAt}
use Rattle.c_lexer.specs.Gaps.{Lacks, IsDirective}
use Rattle.c_lexer.specs.Numbers.{Base, Suffix, IsConstant, type_of}
use Rattle.c_lexer.specs.Quoted.{IsQuoted, StandsFor}
use Rattle.c_lexer.specs.Marks.{is_mark}
use Rattle.c_lexer.specs.Parts.{Part, joined, Falls, fresh_after, NoTokens}
use Rattle.cpa_ints.specs.declared.data_model.DataModel.{DataModel}

-- the text begins with this byte
abbrev pub Begins : ℕ → List ℕ → Type 0
Begins byte text = (rest : List ℕ) × (text ≡ byte ∷ rest)

-- a # that is not the first on its line
abbrev pub HasStrayHash : Bool → List ℕ → Type 0
HasStrayHash fresh text = (fresh ≡ false) × Begins NUMBER_SIGN text

-- a byte with which nothing begins: no blank, #, quote, word, number or mark
pub record HasStrayByte (text : List ℕ) : Type 0 where
  pub byte : ℕ
  pub rest : List ℕ
  pub spelled : text ≡ byte ∷ rest
  pub no_blank : is_blank byte ≡ false
  pub no_hash : byte ≢ NUMBER_SIGN
  pub no_quote : (byte ≡ SINGLE_QUOTE) ⊎ (byte ≡ DOUBLE_QUOTE) → ⊥
  pub no_word : is_word_head byte ≡ false
  pub no_number : is_ascii_digit byte ≡ false
  pub no_mark : (mark after : List ℕ) → IsTrue (is_mark mark) → text ≡ mark ++ after → ⊥

-- the longest run of a number's bytes, from a digit on
pub record IsNumberRun (run rest : List ℕ) : Type 0 where
  pub digit : IsTrue (begins_with is_ascii_digit run)
  pub all : IsTrue (list_all is_number_byte run)
  pub longest : StopsAt is_number_byte rest

-- a number's bytes that are no integer constant
pub record HasMalformedNumber (text : List ℕ) : Type 0 where
  pub run : List ℕ
  pub rest : List ℕ
  pub spelled : text ≡ run ++ rest
  pub longest : IsNumberRun run rest
  pub malformed : (base : Base) (suffix : Suffix) (number : ℕ) →
      IsConstant run base suffix number → ⊥

-- quotes of a character around what stands for nothing
pub record HasMalformedCharacter (text : List ℕ) : Type 0 where
  pub bytes : List ℕ
  pub content : List ℕ
  pub rest : List ℕ
  pub spelled : text ≡ bytes ++ rest
  pub quoted : IsQuoted SINGLE_QUOTE bytes content
  pub malformed : (number : ℕ) → StandsFor content number → ⊥

-- a comment that never ends
pub record HasOpenComment (text : List ℕ) : Type 0 where
  pub body : List ℕ
  pub spelled : text ≡ codes "/*" ++ body
  pub unclosed : Lacks (codes "*/") body

-- a quote that is not closed on its line
pub record HasOpenQuote (quote : ℕ) (text : List ℕ) : Type 0 where
  pub begins : Begins quote text
  pub unclosed : (bytes content rest : List ℕ) → text ≡ bytes ++ rest →
      IsQuoted quote bytes content → ⊥

-- an integer constant that no type of its list holds
pub record HasLargeNumber (model : DataModel) (text : List ℕ) : Type 0 where
  pub run : List ℕ
  pub rest : List ℕ
  pub spelled : text ≡ run ++ rest
  pub longest : StopsAt is_number_byte rest
  pub base : Base
  pub suffix : Suffix
  pub number : ℕ
  pub constant : IsConstant run base suffix number
  pub unheld : type_of model suffix base number ≡ None

-- an escape above 255
pub record HasLargeCharacter (text : List ℕ) : Type 0 where
  pub bytes : List ℕ
  pub content : List ℕ
  pub rest : List ℕ
  pub number : ℕ
  pub spelled : text ≡ bytes ++ rest
  pub quoted : IsQuoted SINGLE_QUOTE bytes content
  pub stands_for : StandsFor content number
  pub large : 255 < number

-- a # that is the first on its line, which is no line marker, #line or #pragma
pub record HasUnknownDirective (fresh : Bool) (text : List ℕ) : Type 0 where
  pub first : IsTrue fresh
  pub begins : Begins NUMBER_SIGN text
  pub unknown : (bytes rest : List ℕ) → text ≡ bytes ++ rest → IsDirective bytes →
      StopsAt is_on_line rest → ⊥

-- why no part begins the text, by the rule that is broken
abbrev pub Fails : DataModel → Bool → Rule → List ℕ → Type 0
Fails model fresh L1 text = HasStrayHash fresh text ⊎ (HasStrayByte text ⊎
    (HasMalformedNumber text ⊎ HasMalformedCharacter text))
Fails model fresh L2 text = HasOpenComment text ⊎
    (HasOpenQuote SINGLE_QUOTE text ⊎ HasOpenQuote DOUBLE_QUOTE text)
Fails model fresh L3 text = HasLargeNumber model text ⊎ HasLargeCharacter text
Fails model fresh L4 text = HasUnknownDirective fresh text
Fails model fresh _ text = ⊥

-- up to its place the text falls into parts, and there the rule is broken
pub record HasFault (model : DataModel) (text : List ℕ) (fault : TextFault) : Type 0 where
  pub parts : List Part
  pub rest : List ℕ
  pub falls : Falls model text parts rest
  pub placed : fault.place ≡ length (joined parts)
  pub fails : Fails model (fresh_after true parts) fault.rule rest

-- what an error says of the text
abbrev pub IsRefused : DataModel → List ℕ → TextError → Type 0
IsRefused model text (Fault fault) = HasFault model text fault × NoTokens model text
IsRefused model text OutOfMemory = Unit {0}
