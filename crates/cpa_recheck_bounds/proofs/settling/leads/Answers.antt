use Rattle.std.proofs.Common.{◌∙◌, [], map, sym}
use Rattle.std.proofs.lemmas.List.{get_or_default}
use Rattle.cpa_recheck_obligations.specs.Forms.{entry_at}
use Rattle.cpa_recheck_obligations.specs.lemmas.Asking.{edge_is}
use Rattle.cpa_recheck_bounds.proofs.Settled.{leads_runless}
use Rattle.cpa_recheck_bounds.proofs.settling.leads.Goals as goal

pub returns : goal.returns
returns c = λ is.
    let cfa = c.args.cfa.now in
    let xs = c.args.entries.now in
    let x = c.args.entry in
    let elem = c.index-entries-entry.result in
    leads_runless cfa xs (map (entry_at xs) c.args.numbers.now) x c.args.edge elem
    c.edge.result.now
    (sym (c.index-entries-entry.is
    ∙ get_or_default xs x elem (record { facts = [] }) c.requires.entry))
    (edge_is cfa c.args.edge c.edge.result.now c.edge.ensures) c.requires.numbers
    (c.in_ok-is.ensures is)
