-- A comma, a brace that is not taken, or neither.
use Rattle.std.proofs.Common.{sym, refl}
use Rattle.c_grammar_forms.specs.lemmas.Found.{reads_one, reads_empty}
use Rattle.c_grammar_forms.specs.lemmas.NotFound.{none_nothing}
use Rattle.c_grammar_forms.specs.lemmas.Choices.{reads_arm, none_arm}
use Rattle.c_grammar_symbols.specs.Symbols.{symbol_of}
use Rattle.c_grammar_symbols.specs.Sources.{leaf_at}
use Rattle.c_grammar_tree.specs.Declarations.{comma_or_end_at}
use Rattle.c_parser_declarations.proofs.Arms.{arm_comma, arm_end, arm_neither}
use Rattle.c_parser_declarations.proofs.initializers.comma_or_end.Goals as goal

pub returns-then-is : goal.returns-then-is
returns-then-is c = λ left.
    reads_arm symbol_of (λ n. comma_or_end_at) (λ n. arm_comma
    (symbol_of (leaf_at c.args.source.now c.args.at)) (sym c.if-is.ensures.value))
    (reads_one (c.if-is.ensures.more refl).within)

pub returns-then-is-2 : goal.returns-then-is-2
returns-then-is-2 c = λ left.
    reads_arm symbol_of (λ n. comma_or_end_at) (λ n. arm_end
    (symbol_of (leaf_at c.args.source.now c.args.at)) (sym c.if-is-2.ensures.value))
    (reads_empty c.requires)

pub returns-else-is-2 : goal.returns-else-is-2
returns-else-is-2 c = λ left.
    none_arm symbol_of (λ n. comma_or_end_at)
    (λ n. arm_neither (symbol_of (leaf_at c.args.source.now c.args.at)) (sym c.if-is.ensures.value)
    (sym c.if-is-2.ensures.value))
    (none_nothing c.requires)
