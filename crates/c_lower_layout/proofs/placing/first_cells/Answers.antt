-- A function more, and one with which there is too much.
use Rattle.std.proofs.Common.{arith}
use Rattle.c_lower_layout.proofs.Rests.{turn, refused_on, made_turn, made_end}
use Rattle.c_lower_layout.proofs.placing.first_cells.Goals as goal

pub returns-then-not-is_within-clause-found : goal.returns-then-not-is_within-clause-found
returns-then-not-is_within-clause-found c =
    refused_on _ _ _ _ _ _ _ _ _ c.in_ok-first.ensures c.is_within.ensures
    c.if-not-is_within.true c.loop-function.invariant.so

pub loop-function-preserved : goal.loop-function-preserved
loop-function-preserved c =
    record {
      so = turn _ c.args.functions.now c.loop-function.function-index _ _ _ _ _ _ _ _ _
          (omega arith) c.function-item.is c.in_ok-first.ensures c.in_ok-push.ensures.items
          c.in_ok-size.ensures.taken c.in_ok-size.ensures.size c.loop-function.invariant.so;
      made = made_turn _ c.args.functions.now c.loop-function.function-index _ _ _ _ _ _
          (omega arith) c.function-item.is c.in_ok-size.ensures.taken c.in_ok-size.ensures.made
          c.loop-function.invariant.made;
    }
