use Rattle.std.proofs.Common.{◌≡◌, [], ◌∷◌, ◌++◌}
use Rattle.std.proofs.lemmas.Result.{on_ok_weaker}
use Rattle.cpa_iface.specs.declared.entries.Entry.{Entry}
use Rattle.cpa_reached.specs.Calls.{gains}
use Rattle.cpa_reached.proofs.Keys.{written}
use Rattle.cpa_reached.proofs.finding.gain.Goals as goal

pub returns-clause-ok : goal.returns-clause-ok
returns-clause-ok c =
    let there = c.index_mut.result.now in
    let at = rw c.deref.ensures.value at c.place-at.ensures.at in
    on_ok_weaker _
    (λ (pushed : c.push.new.self ≡ there.uses ++ c.args.by ∷ []).
    rw pushed (written (λ (e : Entry). e.number) c.args.entries.now.items c.place-at.result
    c.args.number (gains c.args.by) there there c.requires.ascend at c.index_mut.ensures.value))
    c.push.ensures.ok
