-- Each call goes on at a level less, or at the same level to a narrower form.
use Rattle.std.proofs.Common.{◌+◌, ◌-◌, ◌*◌, length}
use Rattle.c_grammar_forms.specs.Forms.{Deeper}
use Rattle.c_grammar_forms.specs.lemmas.Loops.{SoFar}
use Rattle.c_grammar_symbols.specs.declared.words.Terminal.TheVariants.{RightBrace}
use Rattle.c_grammar_symbols.specs.Sources.{leaf_at}
use Rattle.c_grammar_tree.specs.Parts.{is_not}
use Rattle.c_grammar_tree.specs.Grammar.{grammar}
use Rattle.c_grammar_tree.specs.Statements.{block_items}
use Rattle.c_parser_statements.proofs.+statement.Given as goal

abbrev pub decreases-blocks::inner_statement : goal.decreases-blocks::inner_statement
decreases-blocks::inner_statement l = 10 * l.left

abbrev pub decreases-blocks::boxed_statement : goal.decreases-blocks::boxed_statement
decreases-blocks::boxed_statement l = 10 * l.left + 1

abbrev pub decreases-blocks::inner_item : goal.decreases-blocks::inner_item
decreases-blocks::inner_item l = 10 * l.left

abbrev pub decreases-blocks::block_items : goal.decreases-blocks::block_items
decreases-blocks::block_items l = 10 * l.left + 1

abbrev pub decreases-blocks::items : goal.decreases-blocks::items
decreases-blocks::items l = 10 * l.left + 2

abbrev pub decreases-blocks::block : goal.decreases-blocks::block
decreases-blocks::block l = 10 * l.left + 3

abbrev pub decreases-loops::optional_else : goal.decreases-loops::optional_else
decreases-loops::optional_else l = 10 * l.left + 2

abbrev pub decreases-loops::branches : goal.decreases-loops::branches
decreases-loops::branches l = 10 * l.left + 3

abbrev pub decreases-loops::if_statement : goal.decreases-loops::if_statement
decreases-loops::if_statement l = 10 * l.left + 4

abbrev pub decreases-loops::while_statement : goal.decreases-loops::while_statement
decreases-loops::while_statement l = 10 * l.left + 2

abbrev pub decreases-loops::do_statement : goal.decreases-loops::do_statement
decreases-loops::do_statement l = 10 * l.left + 2

abbrev pub decreases-loops::for_statement : goal.decreases-loops::for_statement
decreases-loops::for_statement l = 10 * l.left + 2

abbrev pub decreases-switches::switch_statement : goal.decreases-switches::switch_statement
decreases-switches::switch_statement l = 10 * l.left + 2

abbrev pub decreases-switches::case_statement : goal.decreases-switches::case_statement
decreases-switches::case_statement l = 10 * l.left + 2

abbrev pub decreases-switches::default_statement : goal.decreases-switches::default_statement
decreases-switches::default_statement l = 10 * l.left + 2

abbrev pub decreases-labels::labeled : goal.decreases-labels::labeled
decreases-labels::labeled l = 10 * l.left + 2

abbrev pub decreases-labels::behind_comma : goal.decreases-labels::behind_comma
decreases-labels::behind_comma l = 10 * l.left + 3

abbrev pub decreases-labels::expression_statement : goal.decreases-labels::expression_statement
decreases-labels::expression_statement l = 10 * l.left + 4

abbrev pub decreases-blocks::statement : goal.decreases-blocks::statement
decreases-blocks::statement l = 10 * l.left + 5

abbrev pub decreases-blocks::item : goal.decreases-blocks::item
decreases-blocks::item l = 10 * l.left + 6

abbrev pub invariant-blocks::block_items-list : goal.invariant-blocks::block_items-list
invariant-blocks::block_items-list l =
    SoFar (λ n. block_items (grammar n)) (is_not RightBrace) (λ n. Deeper ((grammar n).item))
    (leaf_at l.source) (length l.source) l.left l.at l.items l.here

abbrev pub decreases-blocks::block_items-list : goal.decreases-blocks::block_items-list
decreases-blocks::block_items-list l = length l.source - l.here
