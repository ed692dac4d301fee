use Rattle.std.proofs.Common.{length}
use Rattle.cpa_composite.specs.Composites.{components}
use Rattle.cpa_engine.proofs.judging.judge_least.Goals as goal

pub judged_path-requires-clause-inside : goal.judged_path-requires-clause-inside
judged_path-requires-clause-inside g c = λ path way.
    c.paths_are_kept.ensures.inside c.args.cfa.now (length (components c.args.composite.now))
    c.args.search.now.reached.live c.in-Some.number (record { edges = path })
    c.requires.search.stands.entries way
