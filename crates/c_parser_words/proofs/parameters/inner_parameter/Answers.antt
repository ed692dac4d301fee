-- A level is left, and the parameter stands one level deeper.
use Rattle.std.proofs.Common.{◌-◌, arith}
use Rattle.c_grammar_forms.specs.lemmas.Exits.{answers_deeper_flat}
use Rattle.c_grammar_tree.specs.Items.{parameter}
use Rattle.c_grammar_tree.specs.declared.TheConstants.{MAX_LEVEL}
use Rattle.c_parser_words.proofs.parameters.inner_parameter.Goals as goal

pub returns : goal.returns
returns c = answers_deeper_flat MAX_LEVEL parameter _ _ _ (omega arith) c.parameter.result
    (c.parameter.ensures (c.args.left - 1))
