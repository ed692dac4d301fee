-- The tokens of an attribute, one behind the other.
use Rattle.std.proofs.Common.{sym, subst}
use Rattle.std.proofs.lemmas.Result.{MatchResult-weaker}
use Rattle.c_grammar_forms.specs.Reading.{Faults}
use Rattle.c_grammar_forms.specs.lemmas.Found.{reads_skip, reads_behind_by, reads_before_by}
use Rattle.c_grammar_forms.specs.lemmas.NotFound.{none_skip, none_behind_by, none_behind_here}
use Rattle.c_grammar_forms.specs.lemmas.NotFound.{none_before}
use Rattle.c_grammar_forms.specs.lemmas.NotFound.{none_before_here}
use Rattle.c_grammar_forms.specs.lemmas.Exits.{skip_exit, skip_fault}
use Rattle.c_grammar_symbols.specs.declared.words.Terminal.TheVariants as terminal
use Rattle.c_grammar_symbols.specs.Sources.{leaf_at, is}
use Rattle.c_grammar_tree.specs.declared.TheConstants.{MAX_LEVEL}
use Rattle.c_grammar_tree.specs.Declarations.{attribute}
use Rattle.c_parser_words.proofs.Skipped.{steady_round_brackets}
use Rattle.c_parser_words.proofs.brackets.attribute.Goals as goal

pub returns-in_err-outer : goal.returns-in_err-outer
unfolding attribute
returns-in_err-outer c = λ left.
    skip_fault MAX_LEVEL _ _ c.from_residual.ensures.1 c.in_err-outer.ensures.named
    (none_skip (none_behind_here _ (is terminal.LeftParen) c.in_err-outer.ensures.fails
    c.requires.within))

pub returns-in_err-inner : goal.returns-in_err-inner
unfolding attribute
returns-in_err-inner c = λ left.
    skip_fault MAX_LEVEL _ _ c.from_residual-in_err-inner.ensures.1 c.in_err-inner.ensures.named
    (none_skip (none_behind_by (is terminal.LeftParen) c.in_ok-outer.ensures.behind_it
    (none_behind_here _ (is terminal.LeftParen) c.in_err-inner.ensures.fails
    c.in_ok-outer.ensures.within)))

pub returns-in_err-closer : goal.returns-in_err-closer
unfolding attribute
returns-in_err-closer c = λ left.
    skip_exit MAX_LEVEL _ _ c.from_residual-in_err-closer.ensures.1 (c.in_err-closer.ensures left)
    (λ i g. none_skip (none_behind_by (is terminal.LeftParen) c.in_ok-outer.ensures.behind_it
    (none_behind_by (is terminal.LeftParen) c.in_ok-inner.ensures.behind_it
    (none_before (is terminal.RightParen) g))))

pub expect-requires-3 : goal.expect-requires-3
expect-requires-3 c = (c.in_ok-closer.ensures 0).within

pub returns : goal.returns
unfolding attribute
returns c = λ left.
    let inside = c.in_ok-closer.ensures left in
    MatchResult-weaker c.expect-3.result c.expect-3.ensures
    (λ behind t. reads_skip (reads_behind_by (is terminal.LeftParen) c.in_ok-outer.ensures.passes
    c.in_ok-outer.ensures.behind_it
    (reads_behind_by (is terminal.LeftParen) c.in_ok-inner.ensures.passes
    c.in_ok-inner.ensures.behind_it
    (reads_before_by (is terminal.RightParen) inside t.passes t.behind_it t.within))))
    (λ error l. subst (Faults MAX_LEVEL (λ n. attribute)
    (leaf_at c.args.source.now) _ left c.args.at) (sym l.named)
    (none_skip (none_behind_by (is terminal.LeftParen) c.in_ok-outer.ensures.behind_it
    (none_behind_by (is terminal.LeftParen) c.in_ok-inner.ensures.behind_it
    (none_before_here (is terminal.RightParen) steady_round_brackets inside l.fails)))))
