use Rattle.std.proofs.lemmas.List.{length-map}
use Rattle.cpa_model.specs.Automata.{initial_state}
use Rattle.cpa_engine_laws.specs.Pairs.{pair_key}
use Rattle.cpa_engine_laws.specs.lemmas.Fitting.{pairs_closed, key_there, start_fits}
use Rattle.cpa_engine_laws.proofs.laws.pairs_bound_turns.Goals as goal

pub returns-clause-keys : goal.returns-clause-keys
returns-clause-keys c = λ P cfa cs pairs W of are points stacks widen heights. record {
  widen = widen;
  heights = heights;
  closed = λ k g s t at is_s is_t step there.
      pairs_closed P cfa cs pairs W of are points stacks k g s t at step there;
}

pub returns-clause-first : goal.returns-clause-first
returns-clause-first c = λ P cfa cs pairs of are.
    key_there P cs pairs are (initial_state cfa) (start_fits P cfa of)

pub returns-clause-count : goal.returns-clause-count
returns-clause-count c = λ cs pairs. length-map pairs (pair_key cs)
