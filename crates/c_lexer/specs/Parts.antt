-- How a text falls into blanks, comments, directive lines and longest tokens (C11 6.4).
use Rattle.std.specs.Prelude.{◌≡◌, ℕ, ◌+◌, Bool, true, false, ◌==◌, ◌&&◌, ◌||◌, ◌++◌, List, [], ◌∷◌}
use Rattle.std.specs.Prelude.{length, IsTrue}
use Rattle.std.specs.List.{list_all, list_any}
use Rattle.c_lexer.specs.declared.byte.TheConstants.{LINE_FEED}
use Rattle.c_lexer.specs.declared.token.Token.{Token}
use Rattle.c_lexer.specs.declared.token.TokenKind.{TokenKind}
use Rattle.c_lexer.specs.declared.token.TokenKind.TheVariants.{Word, Number, Character, Text, Mark}
use Rattle.c_lexer.specs.declared.token.TokenKind.TheVariants.{End}
use Rattle.c_lexer.specs.Bytes.{is_word_head, is_word_byte, is_number_byte, is_on_line, begins_with}
use Rattle.c_lexer.specs.Bytes.{StopsAt}
use Rattle.c_lexer.specs.Gaps.{IsGap, IsDirective}
use Rattle.c_lexer.specs.Numbers.{IsNumber}
use Rattle.c_lexer.specs.Quoted.{IsCharacter, IsText}
use Rattle.c_lexer.specs.Marks.{IsLongestMark}
use Rattle.cpa_ints.specs.declared.data_model.DataModel.{DataModel}

-- a part of the text: a blank or a comment, a directive line without its line feed, or a token
pub data Part : Type 0 where
  gap : List ℕ → Part
  directive : List ℕ → Part
  token : TokenKind → List ℕ → Part

-- its bytes
abbrev pub bytes_of : Part → List ℕ
bytes_of (gap bytes) = bytes
bytes_of (directive bytes) = bytes
bytes_of (token kind bytes) = bytes

-- a letter or the underscore, then letters, digits and underscores (C11 6.4.2.1)
abbrev pub is_word : List ℕ → Bool
is_word bytes = begins_with is_word_head bytes && list_all is_word_byte bytes

-- the bytes are a token of this kind, and no longer one can be made with the rest of the text
abbrev pub IsToken : DataModel → TokenKind → List ℕ → List ℕ → Type 0
IsToken model Word bytes rest = IsTrue (is_word bytes) × StopsAt is_word_byte rest
IsToken model (Number t value) bytes rest = IsNumber model bytes t value
    × StopsAt is_number_byte rest
IsToken model (Character value) bytes rest = IsCharacter bytes value
IsToken model Text bytes rest = IsText bytes
IsToken model Mark bytes rest = IsLongestMark bytes rest
IsToken model End bytes rest = ⊥

-- the part may stand before the rest; `fresh` says that only blanks and comments stand before it on
-- its line
abbrev pub IsPart : DataModel → Bool → Part → List ℕ → Type 0
IsPart model fresh (gap bytes) rest = IsGap bytes rest
IsPart model fresh (directive bytes) rest = IsTrue fresh × IsDirective bytes
    × StopsAt is_on_line rest
IsPart model fresh (token kind bytes) rest = IsToken model kind bytes rest

-- whether behind the part only blanks and comments stand before on the line
abbrev pub fresh_behind : Bool → Part → Bool
fresh_behind fresh (gap bytes) = fresh || list_any (λ byte. byte == LINE_FEED) bytes
fresh_behind fresh (directive bytes) = true
fresh_behind fresh (token kind bytes) = false

-- the same behind parts in order
abbrev pub fresh_after : Bool → List Part → Bool
fresh_after fresh [] = fresh
fresh_after fresh (part ∷ parts) = fresh_after (fresh_behind fresh part) parts

-- the bytes of the parts in order
abbrev pub joined : List Part → List ℕ
joined [] = []
joined (part ∷ parts) = bytes_of part ++ joined parts

-- the parts may stand in this order before the rest
abbrev pub Stand : DataModel → Bool → List Part → List ℕ → Type 0
Stand model fresh [] rest = Unit {0}
Stand model fresh (part ∷ parts) rest =
    IsPart model fresh part (joined parts ++ rest) × Stand model
    (fresh_behind fresh part) parts rest

-- the text falls into these parts and a rest
pub record Falls (model : DataModel) (text : List ℕ) (parts : List Part)
    (rest : List ℕ) : Type 0 where
  pub spelled : text ≡ joined parts ++ rest
  pub stand : Stand model true parts rest

-- the tokens among the parts, with their places, where the first part stands at `place`
abbrev pub tokens_from : ℕ → List Part → List Token
tokens_from place [] = []
tokens_from place (gap bytes ∷ parts) = tokens_from (place + length bytes) parts
tokens_from place (directive bytes ∷ parts) = tokens_from (place + length bytes) parts
tokens_from place (token kind bytes ∷ parts) =
    record { kind = kind; from = place; to = place + length bytes } ∷
    tokens_from (place + length bytes) parts

-- the token behind the text
abbrev pub end_token : ℕ → Token
end_token place = record { kind = End; from = place; to = place }

-- the text falls into parts, and these are their tokens and one End at its length
pub record Tokens (model : DataModel) (text : List ℕ) (tokens : List Token) : Type 0 where
  pub parts : List Part
  pub falls : Falls model text parts []
  pub listed : tokens ≡ tokens_from 0 parts ++ end_token (length text) ∷ []

-- no tokens are those of the text
abbrev pub NoTokens : DataModel → List ℕ → Type 0
NoTokens model text = (tokens : List Token) → Tokens model text tokens → ⊥
