-- A kind tells whether its symbol is a terminal, and stands where the token does: `kept_there`.
use Rattle.std.specs.Prelude.{◌≡◌, ◌≢◌, ℕ, ◌<◌, ◌^◌, List, length}
use Rattle.std.specs.Prelude.{Some, refl}
use Rattle.std.specs.List.{slice_get}
use Rattle.std.specs.Option.{option_map}
use Rattle.std.proofs.Common.{sym, ◌∙◌, ap, arith, get_or}
use Rattle.std.proofs.lemmas.Option.{slice_get-map, slice_get-get_or, get_or_from_slice_get}
use Rattle.c_lexer.specs.declared.token.Token.{Token}
use Rattle.c_lexer.specs.declared.token.TokenKind.TheVariants as token_kind
use Rattle.c_lexer.specs.Lexemes.{bytes_at}
use Rattle.c_lexer.specs.Parts.{end_token}
use Rattle.c_grammar_symbols.specs.declared.words.Terminal.{Terminal}
use Rattle.c_grammar_symbols.specs.declared.symbol.Symbol.{Symbol}
use Rattle.c_grammar_symbols.specs.declared.symbol.Symbol.TheVariants as symbol
use Rattle.c_grammar_symbols.specs.declared.kind.SymbolKind.{SymbolKind}
use Rattle.c_grammar_symbols.specs.Kinds.{kind_of, kind_is_terminal}
use Rattle.c_grammar_symbols.specs.Kinds.{kind_of_token}
use Rattle.c_grammar_symbols.specs.Symbols.{symbol_of, symbol_spelled, leaf_of, leaves}
use Rattle.c_grammar_symbols.specs.Sources.{is_terminal, leaf_at, GoesOn, IsSource, IsKept}
use Rattle.c_grammar_symbols.proofs.SourceFacts.{length-leaves, leaf_at-leaves, more_behind}

pub terminal_told : (t : Terminal) (s : Symbol) → kind_is_terminal t (kind_of s) ≡ is_terminal t s
terminal_told t symbol.End = refl
terminal_told t symbol.Name = refl
terminal_told t (symbol.Number ty value) = refl
terminal_told t (symbol.Character value) = refl
terminal_told t symbol.Text = refl
terminal_told t (symbol.Terminal found) = refl
terminal_told t (symbol.Binary operator) = refl
terminal_told t (symbol.Assign operator) = refl
terminal_told t (symbol.Step operator) = refl
terminal_told t (symbol.Storage word) = refl
terminal_told t (symbol.Specifier word) = refl
terminal_told t (symbol.TypeWord word) = refl
terminal_told t (symbol.TypedefName named) = refl
terminal_told t (symbol.Outside word) = refl
terminal_told t (symbol.Stray mark) = refl

pub is_told : (t : Terminal) (s : Symbol) (k : SymbolKind) → k ≡ kind_of s →
    kind_is_terminal t k ≡ is_terminal t s
is_told t s k kept = ap (kind_is_terminal t) kept ∙ terminal_told t s

module _ (text : List ℕ) (tokens : List Token) (at : ℕ)
    (within : at < length (leaves text tokens)) where
  -- the token of a place
  token_there : slice_get tokens at ≡ Some (get_or tokens at (end_token 0))
  token_there = slice_get-get_or tokens at (end_token 0)
      (omega (arith, within, length-leaves text tokens))

  leaf_there : leaf_at (leaves text tokens) at ≡ leaf_of text (get_or tokens at (end_token 0))
  leaf_there = leaf_at-leaves text tokens at (get_or tokens at (end_token 0)) token_there

  -- the kind that is kept of it
  pub kept_there : (kinds : List SymbolKind) (d : SymbolKind) → IsKept text tokens kinds →
      get_or kinds at d ≡ kind_of (symbol_of (leaf_at (leaves text tokens) at))
  kept_there kinds d kept =
      let found = ap (λ ks. slice_get ks at) kept.kinds_are
      ∙ (slice_get-map (kind_of_token text) tokens at
      ∙ ap (option_map (kind_of_token text)) token_there) in
      get_or_from_slice_get kinds at (kind_of_token text (get_or tokens at (end_token 0))) d found
      ∙ sym (ap (λ l. kind_of (symbol_of l)) leaf_there)

  -- behind a symbol that is not the end stands another
  pub goes_on : IsSource text tokens → length tokens < 2 ^ 64 →
      symbol_of (leaf_at (leaves text tokens) at) ≢ symbol.End → GoesOn (leaves text tokens) at
  goes_on source fits other =
      let token = get_or tokens at (end_token 0) in
      let ends = λ (e : token.kind ≡ token_kind.End).
      other (ap symbol_of leaf_there ∙ ap (λ k. symbol_spelled k (bytes_at text token)) e) in
      let more = more_behind text tokens at token source token_there ends in
      record { within = more; fits = omega (arith, more, fits, length-leaves text tokens) }
