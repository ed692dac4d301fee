-- Tokens that are skipped, or what stands in a block.
use Rattle.std.proofs.Common.{sym, subst, refl}
use Rattle.c_grammar_forms.specs.lemmas.Found.{reads_node, reads_skip}
use Rattle.c_grammar_forms.specs.lemmas.NotFound.{none_node, none_skip}
use Rattle.c_grammar_forms.specs.lemmas.Exits.{at_exit}
use Rattle.c_grammar_tree.specs.declared.TheConstants.{MAX_LEVEL}
use Rattle.c_grammar_tree.specs.Items.{body_of}
use Rattle.c_grammar_tree.specs.Reading.{Gives}
use Rattle.c_parser.proofs.functions.body.Goals as goal

pub returns-in_err-behind : goal.returns-in_err-behind
unfolding body_of
returns-in_err-behind c =
    subst (λ b. Gives (λ G. body_of G b) c.args.source.now c.args.left c.args.at
    c.from_residual.result) (sym c.if-known.true)
    (at_exit MAX_LEVEL _ _ c.from_residual.ensures.1 (c.in_err-behind.ensures c.args.left)
    (λ i g. none_node _ (none_skip g)))

pub returns-then-known : goal.returns-then-known
unfolding body_of
returns-then-known c =
    rw c.if-known.true (reads_node _ refl (reads_skip (c.in_ok-behind.ensures c.args.left)))

pub returns-in_err-items : goal.returns-in_err-items
unfolding body_of
returns-in_err-items c =
    subst (λ b. Gives (λ G. body_of G b) c.args.source.now c.args.left c.args.at
    c.from_residual-in_err-items.result) (sym c.if-known.false)
    (at_exit MAX_LEVEL _ _ c.from_residual-in_err-items.ensures.1 c.in_err-items.ensures
    (λ i g. none_node _ (none_skip g)))

pub returns : goal.returns
unfolding body_of
returns c = rw (c.if-known.false, c.place-place.ensures)
    (reads_node _ refl (reads_skip c.in_ok-items.ensures))
