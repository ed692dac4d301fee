-- What each token calls for.
use Rattle.std.specs.Prelude.{◌≡◌, true, false}
use Rattle.std.proofs.Common.{sym}
use Rattle.c_grammar_forms.specs.Forms.{Nothing, One, Empty}
use Rattle.c_grammar_forms.specs.lemmas.Choices.{Same, same_form, impossible}
use Rattle.c_grammar_symbols.specs.declared.words.Terminal.TheVariants as terminal
use Rattle.c_grammar_symbols.specs.declared.symbol.Symbol.{Symbol}
use Rattle.c_grammar_symbols.specs.declared.symbol.Symbol.TheVariants as symbol
use Rattle.c_grammar_symbols.specs.Sources.{is_terminal}
use Rattle.c_grammar_tree.specs.Declarations.{comma_or_end_at}

pub arm_comma : (s : Symbol) → is_terminal terminal.Comma s ≡ true → Same (comma_or_end_at s) One
unfolding comma_or_end_at
arm_comma (symbol.Terminal terminal.Comma) e = same_form
arm_comma _ e = impossible e

pub arm_end : (s : Symbol) → is_terminal terminal.RightBrace s ≡ true →
    Same (comma_or_end_at s) Empty
unfolding comma_or_end_at
arm_end (symbol.Terminal terminal.RightBrace) e = same_form
arm_end _ e = impossible e

pub arm_neither : (s : Symbol) → is_terminal terminal.Comma s ≡ false →
    is_terminal terminal.RightBrace s ≡ false →
    Same (comma_or_end_at s) Nothing
unfolding comma_or_end_at
arm_neither (symbol.Terminal terminal.Comma) e f = impossible (sym e)
arm_neither (symbol.Terminal terminal.RightBrace) e f = impossible (sym f)
arm_neither _ e f = same_form
