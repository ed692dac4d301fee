-- The test, then the step.
use Rattle.c_grammar_forms.specs.lemmas.Found.{reads_pair}
use Rattle.c_grammar_forms.specs.lemmas.NotFound.{none_first, none_second}
use Rattle.c_grammar_forms.specs.lemmas.Exits.{at_exit}
use Rattle.c_grammar_symbols.specs.declared.words.Terminal.TheVariants as terminal
use Rattle.c_grammar_tree.specs.declared.TheConstants.{MAX_LEVEL}
use Rattle.c_grammar_tree.specs.Grammar.{grammar}
use Rattle.c_grammar_tree.specs.Statements.{optional}
use Rattle.c_parser_statements.proofs.Steadies.{steady_optional}
use Rattle.c_parser_statements.proofs.parts.test_and_step.Goals as goal

pub returns-in_err-test : goal.returns-in_err-test
returns-in_err-test c =
    at_exit MAX_LEVEL _ _ c.from_residual.ensures.1 c.in_err-test.ensures
    (λ i g. none_first (λ n. optional terminal.RightParen (grammar n)) g)

pub returns-in_err-step : goal.returns-in_err-step
returns-in_err-step c =
    at_exit MAX_LEVEL _ _ c.from_residual-in_err-step.ensures.1 c.in_err-step.ensures
    (λ i g. none_second (steady_optional terminal.Semicolon) c.in_ok-test.ensures g)

pub returns : goal.returns
returns c = reads_pair c.in_ok-test.ensures c.in_ok-step.ensures
