-- A parameter and those behind commas.
use Rattle.std.proofs.Common.{◌++◌, [], ◌∷◌, length, sym, ◌∙◌, ap, subst}
use Rattle.c_grammar_forms.specs.Reading.{Reads}
use Rattle.c_grammar_forms.specs.lemmas.NotFound.{none_skip}
use Rattle.c_grammar_forms.specs.lemmas.Loops.{no_more, no_part}
use Rattle.c_grammar_forms.specs.lemmas.Exits.{at_exit}
use Rattle.c_grammar_symbols.specs.Sources.{leaf_at}
use Rattle.c_grammar_tree.specs.declared.TheConstants.{MAX_LEVEL}
use Rattle.c_grammar_tree.specs.Items.{parameter_list}
use Rattle.c_parser_words.proofs.ParameterForms.{parameters_first, parameters_more}
use Rattle.c_parser_words.proofs.ParameterForms.{parameters_fail_first}
use Rattle.c_parser_words.proofs.parameters.parameter_list.Goals as goal

pub returns-in_err-first : goal.returns-in_err-first
returns-in_err-first c =
    at_exit MAX_LEVEL _ _ c.from_residual-in_err-first.ensures.1 c.in_err-first.ensures
    (λ i g. parameters_fail_first _ _ _ i g)

pub loop-alloc-init : goal.loop-alloc-init
loop-alloc-init c =
    parameters_first _ _ _ _ _ _
    (c.in_ok-push.ensures.items ∙ ap (λ list. list ++ c.in_ok-first.first ∷
    []) c.in_ok-listed.ensures.items) c.in_ok-first.ensures

pub returns-in_err-parameter : goal.returns-in_err-parameter
returns-in_err-parameter c =
    at_exit MAX_LEVEL _ _ c.from_residual-in_err-parameter.ensures.1 c.in_err-parameter.ensures
    (λ i g. no_part c.loop-alloc.invariant.so_far (sym c.loop-alloc-test.ensures.value)
    (none_skip g))

pub loop-alloc-preserved : goal.loop-alloc-preserved
loop-alloc-preserved c =
    parameters_more _ _ _ _ _ c.loop-alloc.invariant _ _ _ c.in_ok-push-2.ensures.items
    (sym c.loop-alloc-test.ensures.value) c.in_ok-parameter.ensures

pub returns : goal.returns
returns c =
    subst (λ list. Reads (λ n. parameter_list) (leaf_at c.args.source.now)
    (length c.args.source.now) c.args.left c.args.at list
    c.loop-alloc.here) (sym (c.trimmed.ensures ∙ c.from_vec.ensures))
    (no_more c.loop-alloc.invariant.so_far (sym c.loop-alloc-test.ensures.value))
