use Rattle.std.proofs.Common.{List, length, refl, subst, arith}
use Rattle.cpa_iface.specs.declared.precisions.Precision.{Precision}
use Rattle.cpa_composite.specs.Composites.{components}
use Rattle.cpa_engine_rounds.specs.Clearing.{BeginsBelow}
use Rattle.cpa_engine.proofs.Ancestors.{path_up}
use Rattle.cpa_engine.proofs.Histories.{again_begins}
use Rattle.cpa_engine.proofs.refining.begin_again.Goals as goal

pub returns : goal.returns
returns g c =
    let cfa = c.args.cfa.now in
    let cs = components c.args.composite.now in
    let config = c.args.config.now in
    let s = c.args.search.now in
    let path = c.args.path.now in
    let new = c.begin_round.new.reached in
    let root = c.ancestor-root.result in
    let begins : BeginsBelow root s.newest s.reached new =
    subst (λ (ps : List Precision). BeginsBelow root ps s.reached new) c.as_slice.ensures
    c.in_ok-begin_round.ensures in
    let edges = c.len.ensures in
    again_begins cfa cs config s new c.requires.search
    (c.rounds_begin.ensures cfa cs config.settings root s.newest s.reached new
    c.requires.found.numbered c.requires.search.came.precisions c.requires.search.came.binds begins
    c.requires.search.stands)
    begins.journal
    (record {
      path = path;
      leads = record {
        number = c.args.number;
        least = c.requires.found.least;
        way = c.requires.path;
      };
      refuted = c.requires.refuted;
      fewer = c.requires.more;
      stand = c.requires.stand;
      other = c.requires.other;
      first = c.requires.first;
      root = root;
      above = path_up s.reached.live c.args.number root c.len.result (length path.edges) path.edges
          c.ancestor-root.ensures.up c.requires.path (omega (arith, edges)) edges;
      begins = begins;
      same = refl;
    })
