use Rattle.std.proofs.Common.{◌∙◌, []}
use Rattle.std.proofs.lemmas.List.{get_or_default}
use Rattle.std.proofs.lemmas.Option.{slice_get-get_or}
use Rattle.cpa_model.specs.declared.automaton.Act.TheVariants.{Skip}
use Rattle.cpa_model.specs.Automata.{edge_of}
use Rattle.cpa_recheck_obligations.specs.Forms.{edge_at, entry_at, rivals, target}
use Rattle.cpa_recheck.proofs.Asked.{led}
use Rattle.cpa_recheck.proofs.asking.leads.Goals as goal

pub chosen-requires : goal.chosen-requires
chosen-requires c = c.requires.rivals.below

pub returns : goal.returns
returns c =
    let xs = c.args.entries.now in
    let cfa = c.args.cfa.now in
    let x = c.args.entry in
    let g = c.args.edge in
    let elem = c.index-entries-entry.result in
    led cfa.cells elem (entry_at xs x) (edge_at cfa g).act c.deref.result.now
    (rivals xs (target cfa xs x g)) c.in_ok-form.form c.holds_now.new.self c.take_edge.new.self
    c.fails_now.new.self c.in_ok-form.ensures c.in_ok-holds_now.ensures.ok
    (c.in_ok-take_edge.ensures.ok (edge_at cfa g)
    (slice_get-get_or cfa.edges g (edge_of 0 Skip 0) c.requires.edge))
    c.in_ok-fails_now.ensures.ok
    (c.index-entries-entry.is
    ∙ get_or_default xs x elem (record { facts = [] }) c.requires.entry)
    (c.deref.ensures.value ∙ (c.in_ok-failing.ensures ∙ c.requires.rivals.same))
