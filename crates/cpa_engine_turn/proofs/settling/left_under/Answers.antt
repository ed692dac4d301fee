use Rattle.cpa_reached.specs.Entries.{numbers}
use Rattle.cpa_reached.specs.Passed.{IsPassedBy}
use Rattle.cpa_reached.specs.lemmas.PassedLaws.{left_weaker}
use Rattle.cpa_engine_turn.specs.Stages.{under}
use Rattle.cpa_engine_turn.specs.Steps.{IsOff}
use Rattle.cpa_engine_turn.proofs.Passing.{the_mark, mark_of, stands_apart}
use Rattle.cpa_engine_turn.proofs.settling.left_under.Goals as goal

pub returns : goal.returns
returns c = λ cs row by.
    let xs = c.args.reached.now.live in
    left_weaker (IsPassedBy c.args.mark row xs) (IsOff cs row xs)
    (numbers (under c.args.reached.now c.args.key.now.elems)) c.in_ok-left.left.items
    (λ n passed e there number.
    stands_apart cs row e.elems passed.by (the_mark cs row c.args.mark passed.by passed.is by)
    (passed.parted e there number))
    (c.in_ok-left.ensures.left row (mark_of cs row c.args.mark by))
