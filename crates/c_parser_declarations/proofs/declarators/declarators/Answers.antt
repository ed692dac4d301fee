-- A declarator, and those behind it.
use Rattle.std.proofs.Common.{◌∷◌, refl, arith}
use Rattle.c_grammar_forms.specs.Forms.{listed}
use Rattle.c_grammar_forms.specs.lemmas.NotFound.{none_node, none_first}
use Rattle.c_grammar_forms.specs.lemmas.Exits.{at_exit, answers_with}
use Rattle.c_grammar_tree.specs.declared.TheConstants.{MAX_LEVEL}
use Rattle.c_grammar_tree.specs.Grammar.{grammar}
use Rattle.c_grammar_tree.specs.Declarations.{declarators, more_declarators}
use Rattle.c_parser_declarations.specs.lemmas.Readers.{reads_onto, none_onto}
use Rattle.c_parser_declarations.proofs.Steadies.{steady_declarator}
use Rattle.c_parser_declarations.proofs.declarators.declarators.Goals as goal

pub returns-in_err-first : goal.returns-in_err-first
unfolding declarators
returns-in_err-first c =
    at_exit MAX_LEVEL _ _ c.from_residual.ensures.1 c.in_err-first.ensures
    (λ i g. none_node _ (none_first (λ n. more_declarators (grammar n)) g))

pub declarators_behind-requires-clause-room : goal.declarators_behind-requires-clause-room
declarators_behind-requires-clause-room c =
    omega (arith, c.requires.room, c.in_ok-first.ensures.onward)

pub returns : goal.returns
unfolding declarators
returns c =
    answers_with MAX_LEVEL c.declarators_behind.result
    (λ u q r. reads_onto listed (λ leaf more. c.in_ok-first.first ∷ more)
    (λ n. more_declarators (grammar n)) (λ more. refl) c.in_ok-first.ensures r)
    (λ i g. none_onto listed (λ leaf more. c.in_ok-first.first ∷ more)
    (λ n. more_declarators (grammar n)) steady_declarator c.in_ok-first.ensures g)
    c.declarators_behind.ensures
