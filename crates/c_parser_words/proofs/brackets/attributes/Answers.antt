-- One attribute more, or no more, and an error in an attribute is one of them all.
use Rattle.std.proofs.Common.{sym, refl, arith}
use Rattle.c_grammar_forms.specs.lemmas.Found.{reads_node}
use Rattle.c_grammar_forms.specs.lemmas.NotFound.{none_node}
use Rattle.c_grammar_forms.specs.lemmas.Loops.{no_more, no_part}
use Rattle.c_grammar_forms.specs.lemmas.Exits.{skip_exit}
use Rattle.c_grammar_tree.specs.declared.TheConstants.{MAX_LEVEL}
use Rattle.c_grammar_tree.specs.Declarations.{attributes}
use Rattle.c_parser_words.proofs.Skipped.{strict_attribute, skipped_more}
use Rattle.c_parser_words.proofs.brackets.attributes.Goals as goal

pub loop-here-preserved : goal.loop-here-preserved
loop-here-preserved c =
    skipped_more _ _ _ _ c.loop-here.invariant (sym c.loop-here-test.ensures.value)
    c.in_ok-here.ensures

pub loop-here-smaller : goal.loop-here-smaller
loop-here-smaller c =
    omega (
      arith,
      strict_attribute.ahead ((c.in_ok-here.ensures 0).reading 0),
      c.loop-here.invariant.within,
    )

pub returns-in_err-here : goal.returns-in_err-here
unfolding attributes
returns-in_err-here c = λ left.
    skip_exit MAX_LEVEL _ _ c.from_residual.ensures.1 (c.in_err-here.ensures left)
    (λ i g. none_node _ (no_part (c.loop-here.invariant.so_far left)
    (sym c.loop-here-test.ensures.value) g))

pub returns : goal.returns
unfolding attributes
returns c = λ left. reads_node _ refl (no_more (c.loop-here.invariant.so_far left)
    (sym c.loop-here-test.ensures.value))
