-- A first enumerator, and one more or no more.
use Rattle.std.proofs.Common.{◌++◌, [], ◌∷◌, sym, ◌∙◌, ap, arith, not}
use Rattle.c_grammar_forms.specs.lemmas.Loops.{first_part, one_more, no_more, no_part, at_items}
use Rattle.c_grammar_forms.specs.lemmas.NotFound.{none_node, none_first}
use Rattle.c_grammar_forms.specs.Forms.{Many}
use Rattle.c_grammar_forms.specs.lemmas.Exits.{at_exit}
use Rattle.c_grammar_symbols.specs.declared.words.Terminal.TheVariants.{RightBrace}
use Rattle.c_grammar_tree.specs.declared.TheConstants.{MAX_LEVEL}
use Rattle.c_grammar_tree.specs.Grammar.{grammar}
use Rattle.c_grammar_tree.specs.Parts.{is_not}
use Rattle.c_grammar_tree.specs.Declarations.{enumerators}
use Rattle.c_parser_declarations.specs.Forms.{listed_enumerator}
use Rattle.c_parser_declarations.proofs.Steadies.{steady_enumerator}
use Rattle.c_parser_declarations.proofs.Ahead.{enumerator_ahead}
use Rattle.c_parser_declarations.proofs.enumerations.enumerators.Goals as goal

pub returns-in_err-first : goal.returns-in_err-first
unfolding enumerators
returns-in_err-first c =
    at_exit MAX_LEVEL _ _ c.from_residual.ensures.1 c.in_err-first.ensures
    (λ i g. none_node _ (none_first
    (λ n. Many (is_not RightBrace) (listed_enumerator (grammar n))) g))

pub list-init : goal.list-init
unfolding enumerators
list-init c =
    at_items (first_part (is_not RightBrace) (λ n. listed_enumerator (grammar n))
    steady_enumerator c.in_ok-first.ensures)
    (c.in_ok-push.ensures.ok ∙ ap (λ list. list ++ c.in_ok-first.first ∷ []) c.new-items.ensures)

pub returns-in_err-item : goal.returns-in_err-item
returns-in_err-item c =
    at_exit MAX_LEVEL _ _ c.from_residual-in_err-item.ensures.1 c.in_err-item.ensures
    (λ i g. no_part c.list.invariant (ap not (sym c.list-test.ensures.value)) g)

pub list-preserved : goal.list-preserved
list-preserved c =
    at_items (one_more c.list.invariant steady_enumerator
    (ap not (sym c.list-test.ensures.value)) c.in_ok-item.ensures) c.in_ok-push-2.ensures.ok

pub list-smaller : goal.list-smaller
list-smaller c = let r = c.in_ok-item.ensures in omega (arith, enumerator_ahead r, r.within)

pub returns : goal.returns
returns c = no_more c.list.invariant (ap not (sym c.list-test.ensures.value))
