-- Specifiers, declarators or none, a semicolon.
use Rattle.std.proofs.Common.{refl, arith}
use Rattle.c_grammar_forms.specs.Forms.{Before}
use Rattle.c_grammar_forms.specs.lemmas.Found.{reads_node, reads_then}
use Rattle.c_grammar_forms.specs.lemmas.NotFound.{none_node, none_then_first, none_then}
use Rattle.c_grammar_forms.specs.lemmas.NotFound.{none_before}
use Rattle.c_grammar_forms.specs.lemmas.NotFound.{none_before_here}
use Rattle.c_grammar_forms.specs.lemmas.Exits.{at_exit}
use Rattle.c_grammar_symbols.specs.declared.words.Terminal.TheVariants.{Semicolon}
use Rattle.c_grammar_symbols.specs.Sources.{is}
use Rattle.c_grammar_tree.specs.declared.TheConstants.{MAX_LEVEL}
use Rattle.c_grammar_tree.specs.Grammar.{grammar}
use Rattle.c_grammar_tree.specs.Parts.{is_local_specifier, is_listed}
use Rattle.c_grammar_tree.specs.Declarations.{declaration_by, declarators_by}
use Rattle.c_grammar_tree.specs.lemmas.Terminals.{reads_closed, at_lack}
use Rattle.c_parser_declarations.proofs.Steadies.{steady_specifiers, steady_declarators}
use Rattle.c_parser_declarations.proofs.declarations.declaration_by.Goals as goal

pub returns-in_err-specifiers : goal.returns-in_err-specifiers
unfolding declaration_by
returns-in_err-specifiers c =
    at_exit MAX_LEVEL _ _ c.from_residual.ensures.1 c.in_err-specifiers.ensures
    (λ i g. none_node _ (none_then_first (λ n front.
    Before (declarators_by (grammar n) (is_listed front.enumeration)) (is Semicolon)) g))

pub returns-in_err-declarators : goal.returns-in_err-declarators
unfolding declaration_by
returns-in_err-declarators c =
    at_exit MAX_LEVEL _ _ c.from_residual-in_err-declarators.ensures.1
    (rw c.is_listed-free.ensures at c.in_err-declarators.ensures)
    (λ i g. none_node _ (none_then (λ n front.
    Before (declarators_by (grammar n) (is_listed front.enumeration)) (is Semicolon))
    (steady_specifiers is_local_specifier c.args.braces) c.in_ok-specifiers.ensures
    (none_before (is Semicolon) g)))

pub returns-in_err-behind : goal.returns-in_err-behind
unfolding declaration_by
returns-in_err-behind c =
    at_lack MAX_LEVEL _ _ c.from_residual-in_err-behind.ensures.1 c.in_err-behind.ensures
    (λ fails. none_node _ (none_then (λ n front.
    Before (declarators_by (grammar n) (is_listed front.enumeration)) (is Semicolon))
    (steady_specifiers is_local_specifier c.args.braces) c.in_ok-specifiers.ensures
    (none_before_here (is Semicolon)
    (steady_declarators (is_listed c.in_ok-specifiers.specifiers.enumeration))
    (rw c.is_listed-free.ensures at c.in_ok-declarators.ensures) fails)))

pub returns : goal.returns
unfolding declaration_by
returns c =
    reads_node _ refl (reads_then (λ n front.
    Before (declarators_by (grammar n) (is_listed front.enumeration)) (is Semicolon))
    c.in_ok-specifiers.ensures
    (reads_closed (rw c.is_listed-free.ensures at c.in_ok-declarators.ensures)
    c.in_ok-behind.ensures))

pub declarators_by-requires-clause-within : goal.declarators_by-requires-clause-within
declarators_by-requires-clause-within c = c.in_ok-specifiers.ensures.within

pub declarators_by-requires-clause-room : goal.declarators_by-requires-clause-room
declarators_by-requires-clause-room c =
    omega (arith, c.requires.room, c.in_ok-specifiers.ensures.onward)
