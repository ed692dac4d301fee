use Rattle.std.proofs.Common.{◌≡◌, [], ◌∷◌, ◌++◌}
use Rattle.std.proofs.lemmas.Result.{on_ok_weaker}
use Rattle.cpa_reached.specs.declared.links.Link.{Link}
use Rattle.cpa_reached.specs.Kept.{lists}
use Rattle.cpa_reached.proofs.Keys.{written}
use Rattle.cpa_reached.proofs.links.name_at.Goals as goal

pub returns-clause-ok : goal.returns-clause-ok
returns-clause-ok c = λ n at.
    let there = c.index_mut.result.now in
    on_ok_weaker _
    (λ (pushed : c.push.new.self ≡ there.namers ++ c.args.by ∷ []).
    rw pushed (written (λ (l : Link). l.number) c.args.links.now.items c.args.place n
    (lists c.args.by) there there c.requires.ascend at c.index_mut.ensures.value))
    c.push.ensures.ok
