-- The analysis may go to another thread. That is shown layer by layer, since `search` gives up on
-- the whole: what it owns is what its fields own, and each of them is found by itself.
use denote.Param.Send.{IsSend, sendable, view_send, recorded_send, struct_send}
use denote.Struct.Declared.{shape}
use Rattle.std.proofs.Crossing
use Rattle.cpa_expr.proofs.tree.Expr.TheLaws.TheKnot
use Rattle.cpa_predicate.specs.contracts.predicate.Predicate
use Rattle.cpa_craig.specs.contracts.craig.Craig
use Rattle.cpa_craig.specs.contracts.craig.Craig.TheInside

predicate_sent : IsSend Predicate.the_row
predicate_sent = search (Crossing.crosses, TheKnot.crosses, sendable) depth 60 fits 20000

fields_sent : IsSend TheInside.the_row
fields_sent = recorded_send (TheInside.the_field).row _ _ (TheInside.the_type).to_one
    (struct_send (shape TheInside.the_type) (predicate_sent, (search sendable, tt)))

pub craig_sent : IsSend Craig.the_row
craig_sent = view_send _ _ _ _ _ fields_sent
