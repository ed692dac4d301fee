-- A semicolon behind the word.
use Rattle.std.proofs.Common.{refl}
use Rattle.c_grammar_forms.specs.lemmas.Found.{reads_node, reads_skip}
use Rattle.c_grammar_forms.specs.lemmas.NotFound.{none_node, none_skip, none_such}
use Rattle.c_grammar_symbols.specs.declared.words.Terminal.TheVariants.{Semicolon}
use Rattle.c_grammar_symbols.specs.Sources.{is}
use Rattle.c_grammar_tree.specs.declared.TheConstants.{MAX_LEVEL}
use Rattle.c_grammar_tree.specs.Statements.{statement_at}
use Rattle.c_grammar_tree.specs.lemmas.Terminals.{at_lack}
use Rattle.c_parser_statements.proofs.Dispatch.{reads_taken}
use Rattle.c_parser_statements.proofs.jumps.continue_statement.Goals as goal

pub returns-in_err-behind : goal.returns-in_err-behind
unfolding statement_at
returns-in_err-behind c =
    at_lack MAX_LEVEL _ _ c.from_residual.ensures.1 c.in_err-behind.ensures
    (λ fails. none_node _ (none_skip (none_such (is Semicolon) fails c.requires.more.within)))

pub returns : goal.returns
unfolding statement_at
returns c = rw c.place-place.ensures (reads_node _ refl
    (reads_skip (reads_taken _ _ _ c.in_ok-behind.ensures)))
