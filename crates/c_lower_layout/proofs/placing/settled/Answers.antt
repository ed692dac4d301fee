-- The trees that were made, or others.
use Rattle.std.proofs.Common.{sym, ◌∙◌}
use Rattle.c_lower_layout.proofs.LaidOut.{layout_found, layout_kept}
use Rattle.c_lower_layout.proofs.placing.settled.Goals as goal

pub returns-then-are_same : goal.returns-then-are_same
returns-then-are_same c =
    layout_kept c.args.globals.now c.args.functions.now _ _ _ _ c.requires.found
    (sym c.as_slice.ensures ∙ c.are_same.ensures.0 c.if-are_same.true) c.core_of.ensures.first_cells
    c.core_of.ensures.cells c.core_of.ensures.names (c.core_of.ensures.trees ∙ c.requires.made)

pub returns : goal.returns
returns c =
    layout_found c.args.globals.now c.args.functions.now _ _ _ _ c.requires.found
    c.in_ok-layout.ensures.first_cells c.in_ok-layout.ensures.cells c.in_ok-layout.ensures.names
    c.in_ok-layout.ensures.trees
