-- What analyses share that keep the facts which two elements have in common, and cover by the
-- letter (this project's own).
use Rattle.std.specs.Prelude.{ℕ, Bool, List, [], length}
use Rattle.std.specs.List.{filter, list_any}
use Rattle.cpa_facts.specs.declared.fact.Fact.{Fact}
use Rattle.cpa_model.specs.declared.facts.Elem.{Elem}
use Rattle.cpa_model.specs.declared.automaton.Cfa.{Cfa}
use Rattle.cpa_iface.specs.declared.merging.MergeRule.{MergeRule}
use Rattle.cpa_iface.specs.declared.merging.MergeRule.TheVariants.{Sep, Join, Widen}
use Rattle.cpa_iface.specs.declared.precisions.Precision.{Precision}
use Rattle.cpa_model.specs.Standing.{same_fact}
use Rattle.cpa_iface.specs.Meanings.{Suggestion}

-- the fact is one of the list
abbrev pub stands_in : List Fact → Fact → Bool
stands_in facts f = list_any (λ g. same_fact g f) facts

-- the facts of old that stand in new, too
abbrev pub common_facts : Elem → Elem → Elem
common_facts new old = record { facts = filter (stands_in new.facts) old.facts }

-- what two elements are merged to
abbrev pub merged_facts : MergeRule → Elem → Elem → Elem
merged_facts Sep new old = old
merged_facts Join new old = common_facts new old
merged_facts Widen new old = common_facts new old

-- the rank that falls where a fact is dropped
abbrev pub fact_count : Cfa → Elem → ℕ
fact_count cfa e = length e.facts

-- the precision that asks for nothing
abbrev pub no_precision : Precision
no_precision = record { tracked = []; limit = 0; preds = [] }

-- the suggestion to keep nothing more
abbrev pub no_suggestion : Suggestion
no_suggestion = record { cells = []; preds = [] }
