-- The analysis of intervals (this project's own).
use Rattle.std.specs.Prelude.{List, [], map, Some, codes}
use Rattle.cpa_model.specs.declared.program.Cell.{Cell}
use Rattle.cpa_model.specs.declared.facts.Elem.{Elem}
use Rattle.cpa_iface.specs.declared.analysis.Part.TheVariants as part
use Rattle.cpa_iface.specs.Meanings.{Meaning, Replies}
use Rattle.cpa_folds.specs.Needed.{needed}
use Rattle.cpa_folds.specs.Tracking.{first_tracking, refined}
use Rattle.cpa_interval_bounds.specs.Bounds.{only}
use Rattle.cpa_interval.specs.Cells.{elem_of_all}
use Rattle.cpa_interval.specs.Transfer.{next_intervals}
use Rattle.cpa_interval.specs.Strengthening.{strengthened}
use Rattle.cpa_interval.specs.Covers.{covers}
use Rattle.cpa_interval.specs.Merging.{merged}
use Rattle.cpa_interval.specs.Ranks.{rank, height}
use Rattle.cpa_interval.specs.lemmas.CoverLaws.{covers-within, covers-same}

-- each cell has its start
abbrev pub starts_of : List Cell → Elem
starts_of cells = elem_of_all cells (map (λ cell. only cell.start) cells)

-- what it answers
abbrev pub interval_replies : Replies
interval_replies = record {
  initial = λ cfa. starts_of cfa.cells;
  first_precision = λ cfa settings. first_tracking cfa settings 0;
  transfer = λ cfa g e p. next_intervals cfa p e g;
  strengthen = λ cfa own others p. strengthened cfa.cells p own others;
  merge = λ cfa rule new old p. merged cfa rule new old;
  adjust = λ cfa e p reached place. (e, p);
  refine = refined;
}

-- It is exact on nothing, covers where each bound lies within the other's, suggests the cells that
-- are needed, and tells what it answers.
abbrev pub intervals : Meaning
intervals = record {
  name = codes "interval";
  part = part.Nothing;
  cover = covers;
  height = height;
  rank = rank;
  suggestion = λ cfa path. Some (record { cells = needed cfa path; preds = [] });
  replies = Some interval_replies;
  within = covers-within;
  same = covers-same;
}
