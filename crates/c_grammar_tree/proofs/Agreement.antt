-- A tree is a reading at each edge, and so of a text that agrees.
use Rattle.std.specs.Prelude.{ℕ, List, length, refl}
use Rattle.c_grammar_forms.specs.Forms.{greedy_text}
use Rattle.c_lexer.specs.declared.token.Token.{Token}
use Rattle.c_grammar_symbols.specs.Symbols.{leaves}
use Rattle.c_grammar_symbols.specs.Sources.{leaf_at}
use Rattle.c_grammar_tree.specs.declared.item.Unit.{Unit as UnitTree}
use Rattle.c_grammar_tree.specs.Grammar.{Tree, AgreesThrough}

pub agrees : (text : List ℕ) (tokens : List Token) (u : UnitTree) → Tree text tokens u → (i : ℕ) →
    AgreesThrough text tokens i
agrees text tokens u t i = record {
  depth = 199;
  other = greedy_text (leaf_at (leaves text tokens)) i;
  begins = record { tokens = λ j h. refl; edge = refl; greedy = refl };
  items = u.items;
  end = length tokens;
  reading = t.reading i;
}
