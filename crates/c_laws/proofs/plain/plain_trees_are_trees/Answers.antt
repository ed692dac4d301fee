-- The end closes the list of a text's items, so a plain reading is a reading of the grammar.
use Rattle.std.specs.Prelude.{refl}
use Rattle.c_grammar_tree.specs.Grammar.{grammar}
use Rattle.c_laws.proofs.PlainText.{closes_unit_items, closed_grammar}
use Rattle.c_laws.proofs.plain.plain_trees_are_trees.Goals as goal

pub returns : goal.returns
returns c = λ text tokens u.
    let closes = closes_unit_items (grammar 199) (closed_grammar 199) in (
      λ t. record {
        reading = λ edge. closes.to_greedy (t.reading edge) refl;
        length_is =
            t.length_is;
      },
      λ t. record { reading = λ edge. closes.to_plain (t.reading edge); length_is = t.length_is },
    )
