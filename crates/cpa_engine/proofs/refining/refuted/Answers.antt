use Rattle.cpa_engine.proofs.refining.refuted.Goals as goal

pub all_refined-requires-clause-leads : goal.all_refined-requires-clause-leads
all_refined-requires-clause-leads g c = record {
  number = c.args.number;
  least = c.requires.found.least;
  way = c.requires.path;
}
