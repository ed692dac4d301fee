use Rattle.std.proofs.Common.{sym, ◌∙◌}
use Rattle.c_grammar_forms.specs.lemmas.NotFound.{none_nothing}
use Rattle.c_grammar_forms.specs.lemmas.Choices.{none_arm}
use Rattle.c_grammar_symbols.specs.Symbols.{symbol_of}
use Rattle.c_grammar_symbols.specs.Sources.{leaf_at}
use Rattle.c_grammar_tree.specs.Expressions.{suffix_at}
use Rattle.c_grammar_tree.specs.Grammar.{grammar}
use Rattle.c_parser_expressions.proofs.Arms.{arm_no_suffix, no_step}
use Rattle.c_parser_expressions.proofs.Tight.{step_read}
use Rattle.c_parser_expressions.proofs.arguments.step.Goals as goal

pub returns-in-Step : goal.returns-in-Step
returns-in-Step c = λ left. rw c.place-place.ensures
    (step_read (sym c.in-Step.ensures.value) (c.in-Step.ensures.more
    (λ e. let clash = e in cc)).within)

pub returns-in_default : goal.returns-in_default
returns-in_default c = λ left. none_arm symbol_of (λ n. suffix_at (grammar n))
    (λ n. arm_no_suffix (grammar n) (symbol_of (leaf_at c.args.source.now c.args.at))
    c.requires.no_index c.requires.no_call
    (no_step _ (λ op e. c.in_default.not-Step op (c.symbol.ensures.value ∙ e))))
    (none_nothing c.requires.within)
