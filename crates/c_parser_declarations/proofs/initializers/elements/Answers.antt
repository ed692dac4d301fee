-- One expression more, or no more.
use Rattle.std.proofs.Common.{sym, ap, arith, not}
use Rattle.c_grammar_forms.specs.lemmas.Loops.{no_parts, one_more, no_more, no_part, at_items}
use Rattle.c_grammar_forms.specs.lemmas.Exits.{at_exit}
use Rattle.c_grammar_symbols.specs.declared.words.Terminal.TheVariants.{RightBrace}
use Rattle.c_grammar_tree.specs.declared.TheConstants.{MAX_LEVEL}
use Rattle.c_grammar_tree.specs.Grammar.{grammar}
use Rattle.c_grammar_tree.specs.Parts.{is_not}
use Rattle.c_parser_declarations.specs.Forms.{listed_value}
use Rattle.c_parser_declarations.proofs.Steadies.{steady_element}
use Rattle.c_parser_declarations.proofs.Ahead.{element_ahead}
use Rattle.c_parser_declarations.proofs.initializers.elements.Goals as goal

pub list-init : goal.list-init
list-init c =
    at_items (no_parts (is_not RightBrace) (λ n. listed_value (grammar n)) c.requires.within)
    c.new-items.ensures

pub returns-in_err-item : goal.returns-in_err-item
returns-in_err-item c =
    at_exit MAX_LEVEL _ _ c.from_residual.ensures.1 c.in_err-item.ensures
    (λ i g. no_part c.list.invariant (ap not (sym c.list-test.ensures.value)) g)

pub list-preserved : goal.list-preserved
list-preserved c =
    at_items (one_more c.list.invariant steady_element
    (ap not (sym c.list-test.ensures.value)) c.in_ok-item.ensures) c.in_ok-push.ensures.ok

pub list-smaller : goal.list-smaller
list-smaller c = let r = c.in_ok-item.ensures in omega (arith, element_ahead r, r.within)

pub returns : goal.returns
returns c =
    rw c.trimmed.ensures (no_more c.list.invariant (ap not (sym c.list-test.ensures.value)))
