-- The items of a text up to its end, or their fault.
use Rattle.std.proofs.Common.{◌∙◌}
use Rattle.c_parser.proofs.SeenItems.{place_there, fault_there}
use Rattle.c_parser.proofs.Whole.{whole, refused}
use Rattle.c_parser.proofs.texts.parse.Goals as goal

pub new-requires : goal.new-requires
new-requires c =
    c.tokens_are_a_source.ensures c.requires.0 c.args.text.now c.args.tokens.now c.requires.1

pub returns-in-Ok-clause-tree : goal.returns-in-Ok-clause-tree
returns-in-Ok-clause-tree c =
    let seen = rw c.in_ok-source.ensures at c.unit_items.ensures.seen in
    whole c.args.text.now c.args.tokens.now (c.tokens_are_a_source.ensures _ _ _ c.requires.1)
    _ c.in-Ok.end (rw c.in_ok-source.ensures at c.in-Ok.ensures.items)
    (c.place-length.ensures ∙ place_there _ _ seen c.in-Ok.end)

pub returns-clause-fault : goal.returns-clause-fault
returns-clause-fault c =
    let seen = rw c.in_ok-source.ensures at c.unit_items.ensures.seen in
    rw (c.fault_of.ensures, fault_there _ _ seen c.in-Err.error)
    (refused c.args.text.now c.args.tokens.now (c.tokens_are_a_source.ensures _ _ _ c.requires.1)
    c.in-Err.error (rw c.in_ok-source.ensures at c.in-Err.ensures.items))
