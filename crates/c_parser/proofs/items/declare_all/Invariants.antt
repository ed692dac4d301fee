-- The tokens are seen behind the names so far.
use Rattle.std.proofs.Common.{◌≡◌, map, take}
use Rattle.c_grammar_tree.specs.Items.{behind_typedefs}
use Rattle.c_parser.proofs.SeenItems.{rows}
use Rattle.c_parser.proofs.items.declare_all.Given as goal

abbrev pub invariant-loop-name : goal.invariant-loop-name
invariant-loop-name l =
    l.source ≡ map (behind_typedefs (rows l.ty (take l.name-index l.names))) l.fn.source
