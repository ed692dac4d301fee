use Rattle.std.proofs.Common.{sym, ◌∙◌, ap, rules}
use Rattle.c_grammar_forms.specs.lemmas.Found.{reads_choice, reads_node, reads_one}
use Rattle.c_grammar_forms.specs.lemmas.NotFound.{none_nothing}
use Rattle.c_grammar_forms.specs.lemmas.Choices.{none_arm}
use Rattle.c_grammar_symbols.specs.Symbols.{symbol_of}
use Rattle.c_grammar_symbols.specs.Sources.{leaf_at}
use Rattle.c_grammar_tree.specs.declared.expression.Expression.TheVariants as expression
use Rattle.c_grammar_tree.specs.Expressions.{primary_at}
use Rattle.c_grammar_tree.specs.Grammar.{grammar}
use Rattle.c_parser_expressions.proofs.Arms.{arm_no_primary, not_alone}
use Rattle.c_parser_expressions.proofs.postfix.leaf.Goals as goal

pub returns-in-Number : goal.returns-in-Number
unfolding primary_at
returns-in-Number c =
    λ left. reads_choice symbol_of (λ n. primary_at (grammar n)) (sym c.in-Number.ensures.value)
    (reads_node _ (search rules) (reads_one (c.in-Number.ensures.more
    (λ e. let clash = e in cc)).within))

pub returns-in-Character : goal.returns-in-Character
unfolding primary_at
returns-in-Character c =
    λ left. reads_choice symbol_of (λ n. primary_at (grammar n)) (sym c.in-Character.ensures.value)
    (reads_node _ (search rules) (reads_one (c.in-Character.ensures.more
    (λ e. let clash = e in cc)).within))

pub returns-in_ok-name-in-Name : goal.returns-in_ok-name-in-Name
unfolding primary_at
returns-in_ok-name-in-Name c =
    λ left. reads_choice symbol_of (λ n. primary_at (grammar n)) (sym c.in-Name.ensures.value)
    (reads_node _ (ap expression.Name c.in_ok-name-in-Name.ensures.name)
    (reads_one (c.in-Name.ensures.more (λ e. let clash = e in cc)).within))

pub returns-in_default : goal.returns-in_default
returns-in_default c = λ left. none_arm symbol_of (λ n. primary_at (grammar n))
    (λ n. arm_no_primary (grammar n) (symbol_of (leaf_at c.args.source.now c.args.at))
    c.requires.no_bracket
    (not_alone _ (λ e. c.in_default.not-Name (c.symbol.ensures.value ∙ e))
    (λ ty value e. c.in_default.not-Number ty value (c.symbol.ensures.value ∙ e))
    (λ value e. c.in_default.not-Character value (c.symbol.ensures.value ∙ e))))
    (none_nothing c.requires.within)
