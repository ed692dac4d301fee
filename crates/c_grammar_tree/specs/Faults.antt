-- The fault of a text that has tokens and no tree (this project's own rules).
use Rattle.std.specs.Prelude.{◌≡◌, ◌⊎◌, ℕ, ◌<◌, ◌≤◌, Bool, true, false, cond, List, length}
use Rattle.c_lexer.specs.declared.token.Token.{Token}
use Rattle.c_lexer.specs.declared.fault.Rule.{Rule}
use Rattle.c_lexer.specs.declared.fault.Rule.TheVariants.{S1, S2, S3}
use Rattle.c_lexer.specs.declared.fault.TextFault.{TextFault}
use Rattle.c_grammar_symbols.specs.declared.symbol.Symbol.{Symbol}
use Rattle.c_grammar_symbols.specs.declared.symbol.Symbol.TheVariants as symbol
use Rattle.c_grammar_symbols.specs.Symbols.{Leaf, symbol_of, leaves}
use Rattle.c_grammar_symbols.specs.Sources.{leaf_at}
use Rattle.c_grammar_tree.specs.declared.TheConstants.{MAX_LEVEL}
use Rattle.c_grammar_tree.specs.Grammar.{AgreesThrough}

-- the symbol is a word of C that the grammar leaves out
abbrev pub is_outside : Symbol → Bool
is_outside (symbol.Outside word) = true
is_outside _ = false

-- the rule that a token breaks where nothing but the token is in the way
abbrev pub rule_of : Leaf → Rule
rule_of leaf = cond (is_outside (symbol_of leaf)) S3 S1

-- the fault names a token through which no text agrees: S2 where a level is wanting, and then
-- MAX_LEVEL tokens stand before it at least; else S3 where the token is a word that the grammar
-- leaves out; else S1
pub record IsTreeFault (text : List ℕ) (tokens : List Token) (fault : TextFault) : Type 0 where
  pub at : ℕ
  pub within : at < length tokens
  pub denied : AgreesThrough text tokens at → ⊥
  pub place : fault.place ≡ (leaf_at (leaves text tokens) at).place
  pub rule : (fault.rule ≡ S2) × (MAX_LEVEL ≤ at) ⊎
      (fault.rule ≡ rule_of (leaf_at (leaves text tokens) at))
