-- Tokens by their bytes, and what holds of each token of a text (this project's own, over the
-- tokens of C11 6.4).
use Rattle.std.specs.Prelude.{◌≡◌, ℕ, ◌+◌, ◌-◌, ◌<◌, ◌≤◌, List, [], length, take, drop, map, Some}
use Rattle.std.specs.List.{slice_get}
use Rattle.c_lexer.specs.declared.token.Token.{Token}
use Rattle.c_lexer.specs.declared.token.TokenKind.{TokenKind}
use Rattle.c_lexer.specs.declared.token.TokenKind.TheVariants.{End}
use Rattle.c_lexer.specs.Parts.{IsToken, Tokens, end_token}
use Rattle.cpa_ints.specs.declared.data_model.DataModel.{DataModel}

-- the bytes of the text at the token's places
abbrev pub bytes_at : List ℕ → Token → List ℕ
bytes_at text token = take (token.to - token.from) (drop token.from text)

-- a token without its places: what it is and how it is spelled
pub record Lexeme : Type 0 where
  pub kind : TokenKind
  pub bytes : List ℕ

-- the end of a text
abbrev pub end_lexeme : Lexeme
end_lexeme = record { kind = End; bytes = [] }

-- a token of the text as a lexeme
abbrev pub lexeme_of : List ℕ → Token → Lexeme
lexeme_of text token = record { kind = token.kind; bytes = bytes_at text token }

-- the text's tokens as lexemes
abbrev pub lexemes : List ℕ → List Token → List Lexeme
lexemes text tokens = map (lexeme_of text) tokens

-- the token has bytes, they lie in the text, and there they are a longest token of its kind
pub record IsSpelled (model : DataModel) (text : List ℕ) (token : Token) : Type 0 where
  pub kind : IsToken model token.kind (bytes_at text token) (drop token.to text)
  pub some : token.from < token.to
  pub within : token.to ≤ length text

-- the last token is End at the text's length, and no other is End
pub record EndsOnce (text : List ℕ) (tokens : List Token) : Type 0 where
  pub some : 0 < length tokens
  pub last : slice_get tokens (length tokens - 1) ≡ Some (end_token (length text))
  pub only : (i : ℕ) (token : Token) → slice_get tokens i ≡ Some token → token.kind ≡ End →
      i + 1 ≡ length tokens

-- each token ends where those behind it begin, or before
abbrev pub AreInOrder : List Token → Type 0
AreInOrder tokens = (i j : ℕ) (first second : Token) → i < j →
    slice_get tokens i ≡ Some first → slice_get tokens j ≡ Some second → first.to ≤ second.from

-- a fact of each token of each text
abbrev pub ForEachToken : DataModel → (List ℕ → Token → Type 0) → Type 0
ForEachToken model Fact = (text : List ℕ) (found : List Token) (i : ℕ) (token : Token) →
    Tokens model text found → slice_get found i ≡ Some token → Fact text token
