-- An expression or none, and the terminal.
use Rattle.c_grammar_forms.specs.lemmas.NotFound.{none_before, none_before_here}
use Rattle.c_grammar_forms.specs.lemmas.Exits.{at_exit}
use Rattle.c_grammar_symbols.specs.Sources.{is}
use Rattle.c_grammar_tree.specs.declared.TheConstants.{MAX_LEVEL}
use Rattle.c_grammar_tree.specs.Statements.{optional}
use Rattle.c_grammar_tree.specs.lemmas.Terminals.{reads_closed, at_lack}
use Rattle.c_parser_statements.proofs.Steadies.{steady_optional_comma}
use Rattle.c_parser_statements.proofs.parts.optional.Goals as goal

pub returns-in_err-expression : goal.returns-in_err-expression
unfolding optional
returns-in_err-expression c =
    at_exit MAX_LEVEL _ _ c.from_residual.ensures.1 c.in_err-expression.ensures
    (λ i g. none_before (is c.args.closer) g)

pub returns-in_err-behind : goal.returns-in_err-behind
unfolding optional
returns-in_err-behind c =
    at_lack MAX_LEVEL _ _ c.from_residual-in_err-behind.ensures.1 c.in_err-behind.ensures
    (λ fails. none_before_here (is c.args.closer) (steady_optional_comma c.args.closer)
    c.in_ok-expression.ensures fails)

pub returns : goal.returns
unfolding optional
returns c = reads_closed c.in_ok-expression.ensures c.in_ok-behind.ensures
