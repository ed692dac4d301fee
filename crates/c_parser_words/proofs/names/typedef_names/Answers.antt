-- A name and those behind commas.
use Rattle.std.proofs.Common.{◌++◌, [], ◌∷◌, length, sym, ◌∙◌, ap, subst, arith}
use Rattle.c_grammar_forms.specs.Reading.{Reads}
use Rattle.c_grammar_forms.specs.lemmas.NotFound.{none_skip}
use Rattle.c_grammar_forms.specs.lemmas.Loops.{no_more, no_part}
use Rattle.c_grammar_forms.specs.lemmas.Exits.{at_exit}
use Rattle.c_grammar_symbols.specs.Sources.{leaf_at}
use Rattle.c_grammar_tree.specs.declared.TheConstants.{MAX_LEVEL}
use Rattle.c_grammar_tree.specs.Items.{typedef_names}
use Rattle.c_parser_words.proofs.TypedefForms.{names_first, names_more, names_fail_first}
use Rattle.c_parser_words.proofs.names.typedef_names.Goals as goal

pub returns-in_err-first : goal.returns-in_err-first
returns-in_err-first c = λ left.
    at_exit MAX_LEVEL _ _ c.from_residual.ensures.1 (c.in_err-first.ensures left)
    (λ i g. names_fail_first _ _ left i g)

pub loop-alloc-init : goal.loop-alloc-init
loop-alloc-init c =
    names_first _ _ _ _ _
    (c.in_ok-push.ensures.items ∙ ap (λ list. list ++ c.in_ok-first.first ∷
    []) c.in_ok-names.ensures.items) c.in_ok-first.ensures

pub returns-in_err-name : goal.returns-in_err-name
returns-in_err-name c = λ left.
    at_exit MAX_LEVEL _ _ c.from_residual-in_err-name.ensures.1 (c.in_err-name.ensures left)
    (λ i g. no_part (c.loop-alloc.invariant.so_far left) (sym c.loop-alloc-test.ensures.value)
    (none_skip g))

pub loop-alloc-preserved : goal.loop-alloc-preserved
loop-alloc-preserved c =
    names_more _ _ _ _ c.loop-alloc.invariant _ _ _ c.in_ok-push-2.ensures.items
    (sym c.loop-alloc-test.ensures.value) c.in_ok-name.ensures

pub returns : goal.returns
returns c = λ left.
    subst (λ list. Reads (λ n. typedef_names) (leaf_at c.args.source.now)
    (length c.args.source.now) left c.args.at list
    c.loop-alloc.here) (sym c.from_vec.ensures)
    (no_more (c.loop-alloc.invariant.so_far left) (sym c.loop-alloc-test.ensures.value))

pub is-requires : goal.is-requires
is-requires c = (c.loop-alloc.invariant.so_far 0).within

pub loop-alloc-smaller : goal.loop-alloc-smaller
loop-alloc-smaller c =
    let r = c.in_ok-name.ensures 0 in omega (arith, r.onward, r.within)
