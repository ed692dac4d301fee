-- No level is left, or the type has one level less.
use Rattle.std.proofs.Common.{◌-◌, arith}
use Rattle.c_grammar_forms.specs.lemmas.NotFound.{none_too_deep}
use Rattle.c_grammar_forms.specs.lemmas.Exits.{answers_deeper_flat}
use Rattle.c_grammar_tree.specs.declared.TheConstants.{MAX_LEVEL}
use Rattle.c_grammar_tree.specs.Expressions.{type_name}
use Rattle.c_parser_expressions.proofs.unary.inner_type_name.Goals as goal

pub returns-then-left-eq0 : goal.returns-then-left-eq0
returns-then-left-eq0 c = (
  none_too_deep (λ n. type_name) c.if-left-eq0.true c.requires.within,
  omega (arith, c.requires.room, c.if-left-eq0.true),
)

pub returns : goal.returns
returns c = answers_deeper_flat MAX_LEVEL type_name _ _ _ (omega arith) c.type_name.result
    (c.type_name.ensures (c.args.left - 1))
