use Rattle.cpa_engine.proofs.refining.unrefined.Goals as goal

pub no_new-requires-clause-leads : goal.no_new-requires-clause-leads
no_new-requires-clause-leads g c = record {
  number = c.args.number;
  least = c.requires.found.least;
  way = c.requires.path;
}
