-- One declarator more, or no more.
use Rattle.std.proofs.Common.{sym, arith}
use Rattle.c_grammar_forms.specs.Forms.{Skip}
use Rattle.c_grammar_forms.specs.lemmas.Found.{reads_skip}
use Rattle.c_grammar_forms.specs.lemmas.NotFound.{none_skip}
use Rattle.c_grammar_forms.specs.lemmas.Loops.{one_more, no_more, no_part, at_items, behind_first}
use Rattle.c_grammar_forms.specs.lemmas.Exits.{at_exit}
use Rattle.c_grammar_symbols.specs.declared.words.Terminal.TheVariants.{Comma}
use Rattle.c_grammar_symbols.specs.Sources.{is}
use Rattle.c_grammar_tree.specs.declared.TheConstants.{MAX_LEVEL}
use Rattle.c_grammar_tree.specs.Grammar.{grammar}
use Rattle.c_grammar_tree.specs.Declarations.{declarator, more_declarators}
use Rattle.c_parser_declarations.proofs.Steadies.{steady_next_declarator}
use Rattle.c_parser_declarations.proofs.declarators.declarators_behind.Goals as goal

pub list-init : goal.list-init
unfolding more_declarators
list-init c =
    at_items (behind_first (is Comma) c.args.first
    (λ n. Skip (declarator (grammar n))) c.requires.within) c.in_ok-declarators.ensures.listed

pub returns-in_err-next : goal.returns-in_err-next
returns-in_err-next c =
    at_exit MAX_LEVEL _ _ c.from_residual-in_err-next.ensures.1 c.in_err-next.ensures
    (λ i g. no_part c.list.invariant (sym c.list-test.ensures.value) (none_skip g))

pub list-preserved : goal.list-preserved
list-preserved c =
    at_items (one_more c.list.invariant steady_next_declarator (sym c.list-test.ensures.value)
    (reads_skip c.in_ok-next.ensures))
    c.in_ok-push.ensures.ok

pub list-smaller : goal.list-smaller
list-smaller c = let r = c.in_ok-next.ensures in omega (arith, r.onward, r.within)

pub returns : goal.returns
returns c = no_more c.list.invariant (sym c.list-test.ensures.value)
