-- What is no typedef declares no name.
use Rattle.std.proofs.Common.{[], map, sym, ◌∙◌, ap}
use Rattle.c_grammar_tree.specs.Items.{behind_typedefs}
use Rattle.c_parser.proofs.SeenItems.{seen_nothing, no_typedefs}
use Rattle.c_parser.proofs.items.declare_item.Goals as goal

pub returns-in_default-clause-declared : goal.returns-in_default-clause-declared
returns-in_default-clause-declared c =
    sym (ap (λ es. map (behind_typedefs es) c.args.source.now)
    (no_typedefs c.args.item.now c.in_default.not-Typedef) ∙ seen_nothing c.args.source.now)

pub returns-in_default-clause-seen : goal.returns-in_default-clause-seen
returns-in_default-clause-seen c = ([], sym (seen_nothing c.args.source.now))
