-- A bracket, an expression, a bracket.
use Rattle.c_grammar_forms.specs.Forms.{Before, Deeper}
use Rattle.c_grammar_forms.specs.lemmas.NotFound.{none_behind_here, none_before, none_before_here}
use Rattle.c_grammar_forms.specs.lemmas.Exits.{at_exit}
use Rattle.c_grammar_symbols.specs.declared.words.Terminal.TheVariants.{LeftParen, RightParen}
use Rattle.c_grammar_symbols.specs.Sources.{is}
use Rattle.c_grammar_tree.specs.declared.TheConstants.{MAX_LEVEL}
use Rattle.c_grammar_tree.specs.Grammar.{grammar}
use Rattle.c_grammar_tree.specs.Statements.{condition}
use Rattle.c_grammar_tree.specs.lemmas.Terminals.{reads_opened, reads_closed, none_opened, at_lack}
use Rattle.c_parser_statements.proofs.Steadies.{steady_test}
use Rattle.c_parser_statements.proofs.parts.condition.Goals as goal

pub returns-in_err-start : goal.returns-in_err-start
unfolding condition
returns-in_err-start c =
    at_lack MAX_LEVEL _ _ c.from_residual.ensures.1 c.in_err-start.ensures
    (λ fails. none_behind_here (λ n. Before (Deeper ((grammar n).comma)) (is RightParen))
    (is LeftParen) fails c.requires.within)

pub returns-in_err-inside : goal.returns-in_err-inside
unfolding condition
returns-in_err-inside c =
    at_exit MAX_LEVEL _ _ c.from_residual-in_err-inside.ensures.1 c.in_err-inside.ensures
    (λ i g. none_opened c.in_ok-start.ensures (none_before (is RightParen) g))

pub returns-in_err-behind : goal.returns-in_err-behind
unfolding condition
returns-in_err-behind c =
    at_lack MAX_LEVEL _ _ c.from_residual-in_err-behind.ensures.1 c.in_err-behind.ensures
    (λ fails. none_opened c.in_ok-start.ensures (none_before_here
    (is RightParen) steady_test c.in_ok-inside.ensures fails))

pub returns : goal.returns
unfolding condition
returns c = rw c.in_ok-test.ensures
    (reads_opened c.in_ok-start.ensures
    (reads_closed c.in_ok-inside.ensures c.in_ok-behind.ensures))
