use Rattle.std.proofs.Common.{sym, ◌∙◌, subst, List}
use Rattle.cpa_iface.specs.declared.entries.Entry.{Entry}
use Rattle.cpa_reached.specs.Entries.{IsLive}
use Rattle.cases_turns.proofs.Live.{found}
use Rattle.cases_turns.proofs.reached.answers.is_live.Goals as goal

pub returns : goal.returns
returns c there =
    subst (λ (xs : List Entry). IsLive xs c.args.number) c.live.ensures.live
    (found c.live.result.now c.args.number (sym c.has_number.ensures ∙ there))
