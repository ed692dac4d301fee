-- The end closes the list of items of the row too, so a plain reading of it is one of the grammar.
use Rattle.std.specs.Prelude.{refl}
use Rattle.std.proofs.Common.{subst}
use Rattle.c_grammar_forms.specs.Forms.{greedy_text}
use Rattle.c_grammar_tree.specs.Grammar.{grammar}
use Rattle.c_grammar_tree.specs.Items.{unit_items}
use Rattle.c_laws.proofs.PlainText.{closes_unit_items, closed_grammar}
use Rattle.c_laws.proofs.plain.plain_agreement_is_agreement.Goals as goal

pub returns : goal.returns
returns c = λ text tokens i. (
  λ a. record {
    depth = a.depth;
    other = greedy_text a.row i;
    begins = record { tokens = a.begins; edge = refl; greedy = refl };
    items = a.items;
    end = a.end;
    reading =
        (closes_unit_items (grammar a.depth) (closed_grammar a.depth)).to_greedy a.reading refl;
  },
  λ a. record {
    depth = a.depth;
    row = a.other.at;
    begins = a.begins.tokens;
    items = a.items;
    end = a.end;
    reading = (closes_unit_items (grammar a.depth) (closed_grammar a.depth)).to_plain
        (subst (λ edge. unit_items (grammar a.depth) (greedy_text a.other.at edge) 199 0 a.items
        a.end) a.begins.edge
        (subst (λ greedy. unit_items (grammar a.depth)
        (record { at = a.other.at; edge = a.other.edge; greedy = greedy }) 199 0 a.items a.end)
        a.begins.greedy a.reading));
  },
)
