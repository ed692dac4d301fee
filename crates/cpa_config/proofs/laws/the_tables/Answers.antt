use Rattle.std.proofs.Common.{refl}
use Rattle.cpa_config.proofs.laws.the_tables.Goals as goal

pub returns-clause-ranges : goal.returns-clause-ranges
returns-clause-ranges c = record {
  gates = refl;
  learnt = refl;
  limit = refl;
  rounds = refl;
  turns = refl;
}

pub returns-clause-words : goal.returns-clause-words
returns-clause-words c = record {
  all_keys = refl;
  merge = refl;
  model = refl;
  order = refl;
  tracked = refl;
  default_model = refl;
  default_order = refl;
  default_tracked = refl;
  widens = refl;
}
