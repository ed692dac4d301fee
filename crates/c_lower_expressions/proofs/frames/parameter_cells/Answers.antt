-- The cells of a function's parameters.
use Rattle.std.proofs.Common.{ap, ◌∙◌}
use Rattle.c_core_rules.specs.Expressions.{Frame, cells_from, behind_result}
use Rattle.c_lower_expressions.proofs.FramesAt.{frame_here, frame_past}
use Rattle.c_lower_expressions.proofs.frames.parameter_cells.Goals as goal

pub returns-in_ok-first-in-Some : goal.returns-in_ok-first-in-Some
returns-in_ok-first-in-Some c =
    let h = c.in-Some.ensures.lookup in
    let found = c.in-Some.function.now in
    ap (λ xs. cells_from c.in_ok-first-in-Some.first xs) c.as_slice.ensures
    ∙ ap (λ n. cells_from n found.parameters) (c.in_ok-first-in-Some.ensures
    ∙ ap (behind_result found.result) c.first_cell.ensures)
    ∙ ap (λ (f : Frame). f.parameters)
    (frame_here c.args.first_cells.now c.args.functions.now c.args.body found h.3.0 h.1)

pub returns-in-None : goal.returns-in-None
returns-in-None c =
    ap (λ (f : Frame). f.parameters)
    (frame_past c.args.first_cells.now c.args.functions.now c.args.body
    c.in-None.ensures.lookup.3)
