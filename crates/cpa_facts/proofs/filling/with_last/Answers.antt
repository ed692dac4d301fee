-- Full blocks are filled, with a last one too.
use Rattle.std.proofs.Common.{rules, ap, ◌∙◌, ◌++◌}
use Rattle.cpa_facts.specs.Blocks.{joined}
use Rattle.cpa_facts.proofs.FillingLemmas.{full_filled, filled_last, joined_push, some_rest}
use Rattle.cpa_facts.proofs.filling.with_last.Goals as goal

pub returns-then-is_empty-clause-filled : goal.returns-then-is_empty-clause-filled
returns-then-is_empty-clause-filled c = full_filled c.args.blocks c.requires.full

pub returns-clause-whole : goal.returns-clause-whole
returns-clause-whole c =
    ap joined c.in_ok-push.ensures.ok ∙ (joined_push c.args.blocks c.in_ok-new.field-0
    ∙ ap (λ l. joined c.args.blocks ++ l) c.in_ok-new.ensures)

pub returns-clause-filled : goal.returns-clause-filled
returns-clause-filled c =
    let some = some_rest c.args.rest c.in_ok-new.field-0 c.is_empty.result c.is_empty.ensures
    c.if-is_empty.false c.in_ok-new.ensures in
    filled_last c.args.blocks c.push.new.self c.in_ok-new.field-0 c.requires.full some
    (search rules) c.in_ok-push.ensures.ok
