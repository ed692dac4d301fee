-- A declaration, or an expression or none with its semicolon.
use Rattle.std.proofs.Common.{sym, refl}
use Rattle.c_grammar_forms.specs.lemmas.Found.{reads_choice, reads_node}
use Rattle.c_grammar_forms.specs.lemmas.NotFound.{none_choice, none_node}
use Rattle.c_grammar_forms.specs.lemmas.Exits.{at_exit}
use Rattle.c_grammar_tree.specs.declared.TheConstants.{MAX_LEVEL}
use Rattle.c_grammar_tree.specs.Grammar.{grammar}
use Rattle.c_grammar_tree.specs.Parts.{is_local_specifier}
use Rattle.c_grammar_tree.specs.Statements.{for_start}
use Rattle.c_parser_statements.proofs.parts.for_start.Goals as goal

pub returns-in_err-declaration : goal.returns-in_err-declaration
unfolding for_start
returns-in_err-declaration c =
    at_exit MAX_LEVEL _ _ c.from_residual.ensures.1 c.in_err-declaration.ensures
    (λ i g. none_choice is_local_specifier (λ n. for_start (grammar n))
    (sym c.if-begins_declaration.ensures) (none_node _ g))

pub returns-then-begins_declaration : goal.returns-then-begins_declaration
unfolding for_start
returns-then-begins_declaration c =
    reads_choice is_local_specifier (λ n. for_start (grammar n))
    (sym c.if-begins_declaration.ensures)
    (reads_node _ refl c.in_ok-declaration.ensures)

pub returns-in_err-expression : goal.returns-in_err-expression
unfolding for_start
returns-in_err-expression c =
    at_exit MAX_LEVEL _ _ c.from_residual-in_err-expression.ensures.1 c.in_err-expression.ensures
    (λ i g. none_choice is_local_specifier (λ n. for_start (grammar n))
    (sym c.if-begins_declaration.ensures) (none_node _ g))

pub returns : goal.returns
unfolding for_start
returns c = rw c.into_inner.ensures
    (reads_choice is_local_specifier (λ n. for_start (grammar n))
    (sym c.if-begins_declaration.ensures) (reads_node _ refl c.in_ok-expression.ensures))
