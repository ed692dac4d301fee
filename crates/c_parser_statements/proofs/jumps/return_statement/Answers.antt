-- A value or none and a semicolon behind the word.
use Rattle.std.proofs.Common.{refl}
use Rattle.c_grammar_forms.specs.lemmas.Found.{reads_node, reads_skip}
use Rattle.c_grammar_forms.specs.lemmas.NotFound.{none_node, none_skip, none_before}
use Rattle.c_grammar_forms.specs.lemmas.NotFound.{none_before_here}
use Rattle.c_grammar_forms.specs.lemmas.Exits.{at_exit}
use Rattle.c_grammar_symbols.specs.declared.words.Terminal.TheVariants.{Semicolon}
use Rattle.c_grammar_symbols.specs.Sources.{is}
use Rattle.c_grammar_tree.specs.declared.TheConstants.{MAX_LEVEL}
use Rattle.c_grammar_tree.specs.Statements.{statement_at}
use Rattle.c_grammar_tree.specs.lemmas.Terminals.{reads_closed, at_lack}
use Rattle.c_parser_statements.proofs.Steadies.{steady_optional_value}
use Rattle.c_parser_statements.proofs.jumps.return_statement.Goals as goal

pub returns-in_err-value : goal.returns-in_err-value
unfolding statement_at
returns-in_err-value c =
    at_exit MAX_LEVEL _ _ c.from_residual.ensures.1 c.in_err-value.ensures
    (λ i g. none_node _ (none_skip (none_before (is Semicolon) g)))

pub returns-in_err-behind : goal.returns-in_err-behind
unfolding statement_at
returns-in_err-behind c =
    at_lack MAX_LEVEL _ _ c.from_residual-in_err-behind.ensures.1 c.in_err-behind.ensures
    (λ fails. none_node _ (none_skip (none_before_here
    (is Semicolon) steady_optional_value c.in_ok-value.ensures fails)))

pub returns : goal.returns
unfolding statement_at
returns c = rw c.place-place.ensures (reads_node _ refl
    (reads_skip (reads_closed c.in_ok-value.ensures c.in_ok-behind.ensures)))
