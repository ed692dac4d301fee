-- A token of a source, and what stands behind it.
use Rattle.std.specs.Prelude.{◌≡◌, ◌≢◌, ℕ, ◌+◌, ◌-◌, ◌<◌, List, length, Some}
use Rattle.std.specs.List.{slice_get}
use Rattle.std.proofs.Common.{sym, ◌∙◌, ap, arith}
use Rattle.std.proofs.lemmas.List.{length-map}
use Rattle.std.proofs.lemmas.Option.{slice_get-map, slice_get_within, get_or_from_slice_get}
use Rattle.c_lexer.specs.declared.token.Token.{Token}
use Rattle.c_lexer.specs.declared.token.TokenKind.TheVariants.{End}
use Rattle.c_lexer.specs.Parts.{end_token}
use Rattle.c_grammar_symbols.specs.Symbols.{leaf_of, leaves}
use Rattle.c_grammar_symbols.specs.Sources.{nowhere, leaf_at, IsSource}
use Rattle.std.specs.Option.{option_map}

-- there are as many leaves as tokens
pub length-leaves : (text : List ℕ) (tokens : List Token) →
    length (leaves text tokens) ≡ length tokens
length-leaves text tokens = simp length-map

-- the leaf of a token
pub leaf_at-leaves : (text : List ℕ) (tokens : List Token) (i : ℕ) (token : Token) →
    slice_get tokens i ≡ Some token → leaf_at (leaves text tokens) i ≡ leaf_of text token
leaf_at-leaves text tokens i token e =
    get_or_from_slice_get (leaves text tokens) i (leaf_of text token) nowhere
    (slice_get-map (leaf_of text) tokens i ∙ ap (option_map (leaf_of text)) e)

-- the same token
same_token : (a b : Token) → Some a ≡ Some b → a ≡ b
same_token a b e = cc

-- behind a token that is no end stands another
pub more_behind : (text : List ℕ) (tokens : List Token) (i : ℕ) (token : Token) →
    IsSource text tokens →
    slice_get tokens i ≡ Some token → token.kind ≢ End → i + 1 < length (leaves text tokens)
more_behind text tokens i token source e other =
    let within = slice_get_within tokens i token e in
    let last = λ (h : i + 1 ≡ length tokens).
    let at : length tokens - 1 ≡ i = omega (arith, h) in
    let found = sym e ∙ (ap (slice_get tokens) (sym at) ∙ source.ends.last) in
    other (ap (λ t. t.kind) (same_token token (end_token (length text)) found)) in
    omega (arith, within, last, length-leaves text tokens)
