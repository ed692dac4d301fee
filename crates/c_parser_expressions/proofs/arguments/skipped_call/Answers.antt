use Rattle.std.proofs.Common.{sym}
use Rattle.c_grammar_forms.specs.lemmas.Exits.{at_exit}
use Rattle.c_grammar_tree.specs.declared.TheConstants.{MAX_LEVEL}
use Rattle.c_parser_expressions.proofs.Tight.{skipped_no, skipped_read, skipped_none}
use Rattle.c_parser_expressions.proofs.arguments.skipped_call.Goals as goal

pub returns-then-not-opens_skipped : goal.returns-then-not-opens_skipped
returns-then-not-opens_skipped c =
    λ left. skipped_no c.args.asserts (sym c.if-not-opens_skipped.ensures.value) c.requires

pub returns-in_err-behind : goal.returns-in_err-behind
returns-in_err-behind c =
    λ left. at_exit MAX_LEVEL _ _ c.from_residual.ensures.1 (c.in_err-behind.ensures left)
    (λ i g. skipped_none c.args.asserts (sym c.if-not-opens_skipped.ensures.value) g)

pub returns : goal.returns
returns c = λ left. rw c.place-place.ensures (skipped_read c.args.asserts
    (sym c.if-not-opens_skipped.ensures.value) (c.in_ok-behind.ensures left))
