-- The analysis of Cartesian predicates (CAV 1997; TACAS 2001; this project's own).
use Rattle.std.specs.Prelude.{[], length, None, Some, codes}
use Rattle.cpa_model.specs.declared.facts.Elem.{Elem}
use Rattle.cpa_model.specs.Standing.{has_facts}
use Rattle.cpa_model.specs.lemmas.StandingLaws.{has_facts-within, has_facts-same}
use Rattle.cpa_iface.specs.declared.analysis.Part.TheVariants as part
use Rattle.cpa_iface.specs.declared.analysis.Settings.{Settings}
use Rattle.cpa_iface.specs.Common.{fact_count}
use Rattle.cpa_iface.specs.Meanings.{Meaning}
use Rattle.cpa_folds.specs.Carried.{carried}
use Rattle.cpa_predicate.specs.declared.asking.Budgets.{Budgets}

-- no fact
abbrev pub no_facts : Elem
no_facts = record { facts = [] }

-- the budgets before any settings were given
abbrev pub default_budgets : Budgets
default_budgets = record { learnt = 20000; gates = 4000000; spent = 0 }

-- the budgets of the settings; the count goes on
abbrev pub budgets_of : Settings → Budgets → Budgets
budgets_of settings b = record b { learnt = settings.learnt; gates = settings.gates }

-- It is exact on nothing, keeps the facts which two elements have in common, covers by the letter,
-- and suggests the expressions that a path carries. What it answers hangs on its budgets.
abbrev pub predicates : Meaning
predicates = record {
  name = codes "predicate";
  part = part.Nothing;
  cover = has_facts;
  height = λ cfa p. length p.preds;
  rank = fact_count;
  suggestion = λ cfa path. Some (record { cells = []; preds = carried cfa path });
  replies = None;
  within = has_facts-within;
  same = has_facts-same;
}
