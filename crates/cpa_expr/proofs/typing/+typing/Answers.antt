-- The parts of a node are well typed; a node and its parts are the whole.
use Rattle.std.proofs.Common.{map, sym, ◌∙◌}
use Rattle.std.proofs.lemmas.Bool.{false≢true}
use Rattle.cpa_expr.specs.Shape.{IsTypedHere}
use Rattle.cpa_expr.specs.lemmas.Parts.{every_iff}
use Rattle.cpa_expr.proofs.typing.+typing.Goals as goal

pub is_typed-returns-then-is_typed_here : goal.is_typed-returns-then-is_typed_here
is_typed-returns-then-is_typed_here g t c =
    let whole = every_iff (IsTypedHere (map g.C.Typed.ty c.args.cells.now)) c.args.e.now in (
      λ h. whole.1 (
        c.is_typed_here.ensures.0 c.if-is_typed_here.true,
        c.are_parts_typed.ensures.0 h,
      ),
      λ h. c.are_parts_typed.ensures.1 ((whole.0 h).1),
    )

pub is_typed-returns-else-is_typed_here : goal.is_typed-returns-else-is_typed_here
is_typed-returns-else-is_typed_here g t c =
    let whole = every_iff (IsTypedHere (map g.C.Typed.ty c.args.cells.now)) c.args.e.now in (
      λ h. absurd (false≢true (sym c.if-is_typed_here.false ∙ h)),
      λ h. c.is_typed_here.ensures.1 ((whole.0 h).0),
    )
