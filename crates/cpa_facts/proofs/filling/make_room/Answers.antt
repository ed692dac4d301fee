-- The facts behind the blocks are the last block.
use Rattle.std.proofs.Common.{◌≡◌, ◌∷◌, ◌++◌, [], ap, ◌∙◌}
use Rattle.std.proofs.lemmas.Result.{on_ok_weaker}
use Rattle.cpa_facts.specs.Blocks.{joined}
use Rattle.cpa_facts.proofs.FillingLemmas.{pushed}
use Rattle.cpa_facts.proofs.filling.make_room.Goals as goal

pub returns-clause-same : goal.returns-clause-same
returns-clause-same c =
    let block = c.in_ok-new.field-0 in
    let blocks = c.args.blocks.now in
    on_ok_weaker c.push.result (λ (is : c.push.new.self ≡ blocks ++ block ∷ []).
    pushed blocks c.push.new.self block c.replace-facts.new.dest is
    (c.replace-facts.ensures.after ∙ c.new.ensures)
    ∙ ap (λ l. joined blocks ++ l) (c.in_ok-new.ensures ∙ c.replace-facts.ensures.value))
    c.push.ensures.ok
