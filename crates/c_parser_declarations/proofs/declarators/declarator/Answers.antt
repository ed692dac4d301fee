-- A name, and what stands behind it.
use Rattle.std.proofs.Common.{refl, arith}
use Rattle.c_grammar_forms.specs.lemmas.NotFound.{none_node, none_first}
use Rattle.c_grammar_forms.specs.lemmas.Exits.{at_exit, answers_with}
use Rattle.c_grammar_tree.specs.declared.TheConstants.{MAX_LEVEL}
use Rattle.c_grammar_tree.specs.Grammar.{grammar}
use Rattle.c_grammar_tree.specs.Declarations.{declarator, declarator_of, declarator_rest}
use Rattle.c_parser_declarations.specs.lemmas.Readers.{reads_onto, none_onto}
use Rattle.c_parser_declarations.proofs.Steadies.{steady_identifier}
use Rattle.c_parser_declarations.proofs.declarators.declarator.Goals as goal

pub returns-in_err-name : goal.returns-in_err-name
unfolding declarator
returns-in_err-name c =
    at_exit MAX_LEVEL _ _ c.from_residual.ensures.1 (c.in_err-name.ensures c.args.left)
    (λ i g. none_node _ (none_first (λ n. declarator_rest (grammar n)) g))

pub returns : goal.returns
unfolding declarator
returns c =
    let name = c.in_ok-name.ensures c.args.left in
    answers_with MAX_LEVEL c.declarator_behind.result
    (λ u q r. reads_onto (λ leaf parts. declarator_of parts)
    (λ leaf rest. declarator_of (c.in_ok-name.name, rest))
    (λ n. declarator_rest (grammar n)) (λ rest. refl) name r)
    (λ i g. none_onto (λ leaf parts. declarator_of parts)
    (λ leaf rest. declarator_of (c.in_ok-name.name, rest))
    (λ n. declarator_rest (grammar n)) steady_identifier name g)
    c.declarator_behind.ensures

pub declarator_behind-requires-clause-within : goal.declarator_behind-requires-clause-within
declarator_behind-requires-clause-within c = (c.in_ok-name.ensures 0).within

pub declarator_behind-requires-clause-room : goal.declarator_behind-requires-clause-room
declarator_behind-requires-clause-room c =
    omega (arith, c.requires.room, (c.in_ok-name.ensures 0).onward)
