use Rattle.std.proofs.Common.{length}
use Rattle.cpa_engine_laws.specs.lemmas.Fitting.{kept_short}
use Rattle.cpa_engine_laws.specs.lemmas.KeyWays.{kept_points, kept_sites, path_inside}
use Rattle.cpa_engine_laws.specs.lemmas.PinWays.{kept_inputs}
use Rattle.cpa_engine_laws.specs.lemmas.Working.{sizes, edges_of}
use Rattle.cpa_engine_laws.proofs.laws.paths_are_kept.Goals as goal

pub returns-clause-points : goal.returns-clause-points
returns-clause-points c = λ cfa cs r e path automaton numbered are lines has there errs way.
    kept_points cfa cs r.live numbered.ascend (sizes cfa (length cs) r.live are)
    (edges_of cfa (length cs) r.live are)
    (c.edges_are_steps.ensures.state cfa automaton)
    lines has e there errs path way

pub returns-clause-sites : goal.returns-clause-sites
returns-clause-sites c = λ cfa cs r e path automaton numbered are lines has there way.
    kept_sites cfa cs r.live numbered.ascend (sizes cfa (length cs) r.live are)
    (edges_of cfa (length cs) r.live are)
    (c.edges_are_steps.ensures.state cfa automaton)
    lines has e there path way

pub returns-clause-short : goal.returns-clause-short
returns-clause-short c = λ P cfa cs r n path pairs W of numbered are lines points stacks own pair
    way.
    kept_short P cfa cs r.live pairs numbered.ascend (sizes cfa (length cs) r.live are)
    (edges_of cfa (length cs) r.live are)
    (c.edges_are_steps.ensures.state cfa
    (record { program = P; well_formed = W; automaton = of }))
    lines points stacks own W of pair n path way

pub returns-clause-inputs : goal.returns-clause-inputs
returns-clause-inputs c = λ cfa cs r e path automaton numbered are lines pinning there errs way
    none.
    kept_inputs cfa cs r.live numbered.ascend (sizes cfa (length cs) r.live are)
    (edges_of cfa (length cs) r.live are)
    (c.edges_are_steps.ensures.state cfa automaton)
    lines.lines pinning.parts.0 e there errs path way none

pub returns-clause-inside : goal.returns-clause-inside
returns-clause-inside c = λ cfa count xs n path are way. path_inside cfa count xs n path are way
