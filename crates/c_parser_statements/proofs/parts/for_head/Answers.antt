-- A bracket, the first part, the test and the step.
use Rattle.c_grammar_forms.specs.Forms.{Pair, Choice}
use Rattle.c_grammar_forms.specs.lemmas.Found.{reads_pair}
use Rattle.c_grammar_forms.specs.lemmas.NotFound.{none_behind_here, none_first, none_second}
use Rattle.c_grammar_forms.specs.lemmas.Exits.{at_exit}
use Rattle.c_grammar_symbols.specs.declared.words.Terminal.TheVariants.{LeftParen}
use Rattle.c_grammar_symbols.specs.Sources.{is}
use Rattle.c_grammar_tree.specs.declared.TheConstants.{MAX_LEVEL}
use Rattle.c_grammar_tree.specs.Grammar.{grammar}
use Rattle.c_grammar_tree.specs.Parts.{is_local_specifier}
use Rattle.c_grammar_tree.specs.Statements.{for_start}
use Rattle.c_grammar_tree.specs.lemmas.Terminals.{reads_opened, none_opened, at_lack}
use Rattle.c_parser_statements.specs.Forms.{test_and_step}
use Rattle.c_parser_statements.proofs.Steadies.{steady_start}
use Rattle.c_parser_statements.proofs.parts.for_head.Goals as goal

pub returns-in_err-opened : goal.returns-in_err-opened
returns-in_err-opened c =
    at_lack MAX_LEVEL _ _ c.from_residual.ensures.1 c.in_err-opened.ensures
    (λ fails. none_behind_here (λ n. Pair (Choice is_local_specifier (for_start (grammar n)))
    (test_and_step (grammar n)))
    (is LeftParen) fails c.requires.within)

pub returns-in_err-first : goal.returns-in_err-first
returns-in_err-first c =
    at_exit MAX_LEVEL _ _ c.from_residual-in_err-first.ensures.1 c.in_err-first.ensures
    (λ i g. none_opened c.in_ok-opened.ensures (none_first (λ n. test_and_step (grammar n)) g))

pub returns-in_err-ends : goal.returns-in_err-ends
returns-in_err-ends c =
    at_exit MAX_LEVEL _ _ c.from_residual-in_err-ends.ensures.1 c.in_err-ends.ensures
    (λ i g. none_opened c.in_ok-opened.ensures (none_second steady_start c.in_ok-first.ensures g))

pub returns : goal.returns
returns c = rw c.in_ok-start.ensures
    (reads_opened c.in_ok-opened.ensures (reads_pair c.in_ok-first.ensures c.in_ok-ends.ensures))
