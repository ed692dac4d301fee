-- The rules that a table of keys breaks (this project's own). At one key the first of C3, C4 and
-- C5 counts.
use Rattle.std.specs.Prelude.{ℕ, List, [], not, ◌||◌, ◌==◌, Option, Some, None, length, codes}
use Rattle.std.specs.Prelude.{option_and_then, is_some, if◌then◌else◌}
use Rattle.std.specs.List.{list_all}
use Rattle.std.specs.Option.{option_map_or, option_or}
use Rattle.toml.specs.Data.{Data, Items, Members, no_members, member, as_array, as_table}
use Rattle.toml.specs.Data.{get_member}
use Rattle.cpa_config.specs.declared.faults.ConfigRule.{ConfigRule}
use Rattle.cpa_config.specs.declared.faults.ConfigRule.TheVariants.{C2, C3, C4, C5}
use Rattle.cpa_config.specs.declared.keys.Kind.{Kind}
use Rattle.cpa_config.specs.declared.keys.Kind.TheVariants as kind
use Rattle.cpa_config.specs.Values.{keys, merge_rules, models, named, number_in, orders}
use Rattle.cpa_config.specs.Values.{tracked_words, word_in}
use Rattle.cpa_config.specs.Values.{texts_in, are_texts, is_among, has_repeats}
use Rattle.cpa_config.specs.Values.{place_of}

-- a table: what stands at each key that it has
abbrev pub Table : Type 0
Table = List ℕ → Option Data

abbrev pub at : Members → Table
at members key = get_member key members

-- C3: the value means nothing at its key
abbrev pub kind_rule : {A : Type 0} → Option A → Option ConfigRule
kind_rule None = Some C3
kind_rule (Some a) = None

-- these names are listed
abbrev pub names_rule : List (List ℕ) → List (List ℕ) → Option ConfigRule
names_rule handed names =
    if not (list_all (λ name. is_some (place_of handed name)) names) then Some C4
    else (if (length names == 0) || has_repeats names then Some C5 else None)

-- `analyses` is this list
abbrev pub list_rule : List (List ℕ) → Items → Option ConfigRule
list_rule handed ds = if are_texts ds then names_rule handed (texts_in ds) else Some C3

-- a name of `merge` has this value
abbrev pub name_rule : List (List ℕ) → List ℕ → Data → Option ConfigRule
name_rule listed name d =
    if not (is_some (word_in merge_rules d)) then Some C3
    else (if is_among listed name then None else Some C4)

-- `merge` is this table, whose names stand in byte order: the first fault counts
abbrev pub merge_rule : List (List ℕ) → Members → Option ConfigRule
merge_rule listed no_members = None
merge_rule listed (member name d ms) = option_or (name_rule listed name d) (merge_rule listed ms)

-- the names that a table lists
abbrev pub listed_in : Table → List (List ℕ)
listed_in table = option_map_or texts_in (option_and_then as_array (table (codes "analyses"))) []

-- a value stands at a key of this kind, or at no key
abbrev pub value_rule : List (List ℕ) → List (List ℕ) → Data → Option Kind → Option ConfigRule
value_rule handed listed d None = Some C2
value_rule handed listed d (Some kind.Analyses) =
    option_map_or (list_rule handed) (as_array d) (Some C3)
value_rule handed listed d (Some kind.Merge) =
    option_map_or (merge_rule listed) (as_table d) (Some C3)
value_rule handed listed d (Some kind.Model) = kind_rule (word_in models d)
value_rule handed listed d (Some (kind.Number range)) = kind_rule (number_in range d)
value_rule handed listed d (Some kind.Order) = kind_rule (word_in orders d)
value_rule handed listed d (Some kind.Tracked) = kind_rule (word_in tracked_words d)

-- the rule that a table breaks at a key, for the names of the handed analyses
abbrev pub rule_at : List (List ℕ) → Table → List ℕ → Option ConfigRule
rule_at handed table key =
    option_and_then (λ d. value_rule handed (listed_in table) d (named keys key)) (table key)
