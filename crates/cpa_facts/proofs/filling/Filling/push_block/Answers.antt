-- A block that stands as a whole is one more.
use Rattle.std.proofs.Common.{◌≡◌, ◌∷◌, ◌++◌, [], rules}
use Rattle.std.proofs.lemmas.Result.{on_ok_weaker}
use Rattle.cpa_facts.proofs.FillingLemmas.{shared}
use Rattle.cpa_facts.proofs.filling.Filling.push_block.Goals as goal

pub returns : goal.returns
returns c =
    let blocks = c.make_room.new.blocks in
    on_ok_weaker c.push.result
    (λ (is : c.push.new.self ≡ blocks ++ c.in_ok-share.field-0 ∷ []).
    shared blocks c.push.new.self c.self.inside.blocks c.in_ok-share.field-0 c.args.block.now
    c.make_room.new.rest c.self.inside.rest c.args.self.now is c.in_ok-share.ensures
    (search rules) c.in_ok-make_room.ensures.same c.self.view_is)
    c.push.ensures.ok
