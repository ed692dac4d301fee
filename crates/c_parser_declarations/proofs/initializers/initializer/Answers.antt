-- A list, or an expression.
use Rattle.std.proofs.Common.{sym, subst, refl}
use Rattle.c_grammar_forms.specs.lemmas.Found.{reads_node}
use Rattle.c_grammar_forms.specs.lemmas.NotFound.{none_node}
use Rattle.c_grammar_forms.specs.lemmas.Exits.{at_exit}
use Rattle.c_grammar_tree.specs.declared.TheConstants.{MAX_LEVEL}
use Rattle.c_grammar_tree.specs.Declarations.{initializer_of}
use Rattle.c_grammar_tree.specs.Reading.{Gives}
use Rattle.c_parser_declarations.proofs.initializers.initializer.Goals as goal

pub returns-then-is_array : goal.returns-then-is_array
unfolding initializer_of
returns-then-is_array c =
    subst (λ b. Gives (λ G. initializer_of G b) c.args.source.now c.args.left c.args.at
    c.inner_list.result) (sym c.if-is_array.true)
    c.inner_list.ensures

pub returns-in_err-value : goal.returns-in_err-value
unfolding initializer_of
returns-in_err-value c =
    subst (λ b. Gives (λ G. initializer_of G b) c.args.source.now c.args.left c.args.at
    c.from_residual.result) (sym c.if-is_array.false)
    (at_exit MAX_LEVEL _ _ c.from_residual.ensures.1 c.in_err-value.ensures (λ i g. none_node _ g))

pub returns : goal.returns
unfolding initializer_of
returns c =
    rw c.if-is_array.false (reads_node _ refl c.in_ok-value.ensures)
