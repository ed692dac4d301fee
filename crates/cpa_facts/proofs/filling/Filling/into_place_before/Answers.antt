-- The last block stands as a whole behind full ones.
use Rattle.std.proofs.Common.{rules, arith, ◌∙◌, ap, sym, subst, length}
use Rattle.std.proofs.lemmas.List.{length-append}
use Rattle.cpa_facts.specs.Blocks.{joined, AreFilled}
use Rattle.cpa_facts.proofs.FillingLemmas.{shared_last, filled_last}
use Rattle.cpa_facts.proofs.filling.Filling.into_place_before.Goals as goal

pub returns-then-fits-clause-facts : goal.returns-then-fits-clause-facts
returns-then-fits-clause-facts c =
    ap joined c.in_ok-from_seq.ensures
    ∙ shared_last c.make_room.new.blocks c.push.new.self c.self-2.inside.blocks
    c.in_ok-share.field-0 c.args.last.now c.make_room.new.rest c.self-2.inside.rest c.args.self
    c.in_ok-push.ensures.ok c.in_ok-share.ensures (search rules) c.in_ok-make_room.ensures.same
    c.self-2.view_is

pub returns-then-fits-clause-counted : goal.returns-then-fits-clause-counted
returns-then-fits-clause-counted c =
    let same = ap length (returns-then-fits-clause-facts c) in
    let sum = length-append c.args.self c.args.last.now in
    let count = c.in_ok-_count.ensures in
    let len = c.in_ok-len.ensures in
    let last = ap length c.facts.ensures in (
      subst AreFilled (sym c.in_ok-from_seq.ensures)
          (filled_last c.make_room.new.blocks c.push.new.self c.in_ok-share.field-0
          c.make_room.ensures.full (search rules) (search rules) c.in_ok-push.ensures.ok),
      omega (arith, same, sum, count, len, last),
    )
