-- The analysis of values (this project's own).
use Rattle.std.specs.Prelude.{List, [], map, length, Some, codes}
use Rattle.cpa_model.specs.declared.program.Cell.{Cell}
use Rattle.cpa_model.specs.declared.facts.Elem.{Elem}
use Rattle.cpa_model.specs.declared.automaton.Cfa.{Cfa}
use Rattle.cpa_model.specs.Standing.{has_facts}
use Rattle.cpa_model.specs.lemmas.StandingLaws.{has_facts-within, has_facts-same}
use Rattle.cpa_iface.specs.declared.analysis.Part.TheVariants as part
use Rattle.cpa_iface.specs.Meanings.{Meaning, Replies}
use Rattle.cpa_iface.specs.Common.{merged_facts, fact_count}
use Rattle.cpa_iface.specs.Pins.{equals_from}
use Rattle.cpa_folds.specs.Needed.{needed}
use Rattle.cpa_folds.specs.Tracking.{first_tracking, refined}
use Rattle.cpa_value.specs.Limits.{limited}
use Rattle.cpa_value.specs.Strengthening.{strengthened}
use Rattle.cpa_value.specs.Transfer.{next_values}

-- each cell has its start
abbrev pub starts_of : List Cell → Elem
starts_of cells = record { facts = equals_from 0 (map (λ cell. cell.start) cells) }

abbrev pub starts : Cfa → Elem
starts cfa = starts_of cfa.cells

-- what it answers
abbrev pub value_replies : Replies
value_replies = record {
  initial = starts;
  first_precision = λ cfa settings. first_tracking cfa settings settings.limit;
  transfer = λ cfa g e p. next_values cfa p e g;
  strengthen = λ cfa own others p. strengthened (length cfa.cells) p own others;
  merge = λ cfa rule new old p. merged_facts rule new old;
  adjust = λ cfa e p reached place. (limited p.limit e reached place, p);
  refine = refined;
}

-- It is exact on the store, covers by the letter, suggests the cells that are needed, and tells
-- what it answers.
abbrev pub values : Meaning
values = record {
  name = codes "value";
  part = part.Store;
  cover = has_facts;
  height = λ cfa p. length cfa.cells;
  rank = fact_count;
  suggestion = λ cfa path. Some (record { cells = needed cfa path; preds = [] });
  replies = Some value_replies;
  within = has_facts-within;
  same = has_facts-same;
}
