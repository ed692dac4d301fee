use Rattle.std.proofs.Common.{ℕ, length, sym, subst}
use Rattle.cpa_reached.specs.Paths.{IsPathTo}
use Rattle.cpa_engine_rounds.specs.lemmas.Safe.{pins_err}
use Rattle.cpa_engine.proofs.Paths.{no_settled_run}
use Rattle.cpa_engine.proofs.laws.error_paths_are_kept.Goals as goal

pub returns : goal.returns
returns c = λ cfa cs settings r n path automaton stands at way why.
    let e = at.entry in
    let own = subst (λ (m : ℕ). IsPathTo r.live m path.edges) (sym at.number) way in
    record {
      inside = c.paths_are_kept.ensures.inside cfa (length cs) r.live n path stands.entries way;
      points = λ has. c.paths_are_kept.ensures.points cfa cs r e path.edges automaton at.numbered
          stands.entries stands.lines has at.is_in (λ i p. pins_err cfa e.elems i p at.errs) own;
      sites = λ has. c.paths_are_kept.ensures.sites cfa cs r e path.edges automaton at.numbered
          stands.entries stands.lines has at.is_in own;
      short = λ points stacks widen P W of pairs are. c.paths_are_kept.ensures.short P cfa cs r n
          path.edges pairs W of at.numbered stands.entries stands.lines points stacks
          (stands.own widen) are way;
      inputs = λ exact. c.paths_are_kept.ensures.inputs cfa cs r e path.edges automaton at.numbered
          stands.entries (stands.exact exact) exact.pinning at.is_in
          (λ i p. pins_err cfa e.elems i p at.errs) own (no_settled_run cfa path.edges why);
    }
