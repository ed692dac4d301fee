-- Statements and values, operand by operand.
use Rattle.std.specs.Vec.Iter.{into_iter_items}
use Rattle.c_lower_values.proofs.HeldOperands.{divided_kept}
use Rattle.c_lower_values.proofs.operands.divided.Goals as goal

pub loop-v-preserved : goal.loop-v-preserved
loop-v-preserved c =
    let at = c.loop-v in
    let kept = divided_kept at.statements _ at.values.items c.push.new.self.items
    (into_iter_items c.next.new.self) (into_iter_items at.v-iterator) c.in-Some.v _ _
    c.in-Some.ensures.steps.0 c.in_ok-statements.ensures c.in_ok-push.ensures.items
    at.invariant.statements at.invariant.values in
    record { statements = kept.0; values = kept.1 }
