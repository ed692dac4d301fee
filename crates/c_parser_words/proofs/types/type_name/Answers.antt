-- enum and a tag, a typedef name, or the words of a type.
use Rattle.std.proofs.Common.{◌∙◌, ap, sym}
use Rattle.c_grammar_forms.specs.lemmas.Exits.{answers_with}
use Rattle.c_grammar_forms.specs.lemmas.Found.{reads_node, reads_one, reads_choice}
use Rattle.c_grammar_forms.specs.lemmas.Choices.{reads_arm, none_arm}
use Rattle.c_grammar_symbols.specs.Symbols.{symbol_of}
use Rattle.c_grammar_symbols.specs.Sources.{leaf_at}
use Rattle.c_grammar_tree.specs.declared.TheConstants.{MAX_LEVEL}
use Rattle.c_grammar_tree.specs.declared.expression.TypeName.TheVariants as type_name'
use Rattle.c_grammar_tree.specs.Expressions.{type_name_at, type_name}
use Rattle.c_parser_words.proofs.TypeNames.{arm_enum, arm_words}
use Rattle.c_parser_words.proofs.types.type_name.Goals as goal

pub returns-then-is : goal.returns-then-is
unfolding type_name
returns-then-is c = λ left.
    answers_with MAX_LEVEL c.enum_name.result
    (λ u q r. reads_arm symbol_of (λ n. type_name_at)
    (λ n. arm_enum (symbol_of (leaf_at c.args.source.now c.args.at))
    (sym c.if-is.ensures.value)) r)
    (λ i g. none_arm symbol_of (λ n. type_name_at)
    (λ n. arm_enum (symbol_of (leaf_at c.args.source.now c.args.at))
    (sym c.if-is.ensures.value)) g)
    (c.enum_name.ensures left)

pub returns-in-TypedefName : goal.returns-in-TypedefName
unfolding type_name type_name_at
returns-in-TypedefName c = λ left.
    reads_choice symbol_of (λ n. type_name_at) (sym c.in-TypedefName.ensures.value)
    (reads_node _ (ap (type_name'.Typedef c.in-TypedefName.named) c.place-place.ensures)
    (reads_one (c.in-TypedefName.ensures.more (λ e. let clash = e in cc)).within))

pub returns-in_default : goal.returns-in_default
unfolding type_name
returns-in_default c = λ left.
    answers_with MAX_LEVEL c.words_of_type.result
    (λ u q r. reads_arm symbol_of (λ n. type_name_at)
    (λ n. arm_words (symbol_of (leaf_at c.args.source.now c.args.at)) (sym c.if-is.ensures.value)
    (λ t e. c.in_default.not-TypedefName t (c.symbol.ensures.value ∙ e))) r)
    (λ i g. none_arm symbol_of (λ n. type_name_at)
    (λ n. arm_words (symbol_of (leaf_at c.args.source.now c.args.at)) (sym c.if-is.ensures.value)
    (λ t e. c.in_default.not-TypedefName t (c.symbol.ensures.value ∙ e))) g)
    (c.words_of_type.ensures left)
