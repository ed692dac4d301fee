-- A conditional and a colon.
use Rattle.c_grammar_forms.specs.lemmas.NotFound.{none_before, none_before_here}
use Rattle.c_grammar_forms.specs.lemmas.Exits.{at_exit}
use Rattle.c_grammar_symbols.specs.declared.words.Terminal.TheVariants.{Colon}
use Rattle.c_grammar_symbols.specs.Sources.{is}
use Rattle.c_grammar_tree.specs.declared.TheConstants.{MAX_LEVEL}
use Rattle.c_grammar_tree.specs.lemmas.Terminals.{reads_closed, at_lack}
use Rattle.c_parser_statements.proofs.Steadies.{steady_conditional}
use Rattle.c_parser_statements.proofs.parts.case_value.Goals as goal

pub returns-in_err-given : goal.returns-in_err-given
returns-in_err-given c =
    at_exit MAX_LEVEL _ _ c.from_residual.ensures.1 c.in_err-given.ensures
    (λ i g. none_before (is Colon) g)

pub returns-in_err-behind : goal.returns-in_err-behind
returns-in_err-behind c =
    at_lack MAX_LEVEL _ _ c.from_residual-in_err-behind.ensures.1 c.in_err-behind.ensures
    (λ fails. none_before_here (is Colon) steady_conditional c.in_ok-given.ensures fails)

pub returns : goal.returns
returns c = rw c.in_ok-value.ensures (reads_closed c.in_ok-given.ensures c.in_ok-behind.ensures)
