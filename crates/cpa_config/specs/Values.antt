-- What the value at a key means (this project's own), by the tables of `src/keys.rt` and over the
-- data that the toml crate makes of a text.
use Rattle.std.specs.Prelude.{ℕ, ℤ, pos, negsuc, List, [], ◌∷◌, Bool, true, false, ◌&&◌, ◌||◌, map}
use Rattle.std.specs.Prelude.{Option, Some, None, option_map, option_and_then, is_some, nat_le}
use Rattle.std.specs.Prelude.{if◌then◌else◌, find, position}
use Rattle.std.specs.List.{cons_option, list_any}
use Rattle.std.specs.Str.{bytes_eq}
use Rattle.toml.specs.Data.{Data, Items, no_items, item, as_integer, as_str}
use Rattle.cpa_iface.specs.declared.merging.MergeRule.{MergeRule}
use Rattle.cpa_iface.specs.declared.merging.Order.{Order}
use Rattle.cpa_ints.specs.declared.data_model.DataModel.{DataModel}
use Rattle.cpa_config.specs.declared.keys.Kind.{Kind}
use Rattle.cpa_config.specs.declared.keys.Range.{Range}
use Rattle.cpa_config.specs.declared.keys.TheConstants.{KEYS, MERGE_RULES, MODELS, ORDERS}
use Rattle.cpa_config.specs.declared.keys.TheConstants.{TRACKED, WIDENED}

-- what a word stands for in a table
abbrev pub named : {A : Type 0} → List (List ℕ × A) → List ℕ → Option A
named rows word = option_map (λ row. row.1) (find (λ row. bytes_eq row.0 word) rows)

-- what the word that a value is stands for
abbrev pub word_in : {A : Type 0} → List (List ℕ × A) → Data → Option A
word_in rows d = option_and_then (named rows) (as_str d)

-- the tables, with the bytes of their words
abbrev pub keys : List (List ℕ × Kind)
keys = map (λ row. (row.0.now, row.1)) KEYS

abbrev pub merge_rules : List (List ℕ × MergeRule)
merge_rules = map (λ row. (row.0.now, row.1)) MERGE_RULES

abbrev pub models : List (List ℕ × DataModel)
models = map (λ row. (row.0.now, row.1)) MODELS

abbrev pub orders : List (List ℕ × Order)
orders = map (λ row. (row.0.now, row.1)) ORDERS

abbrev pub tracked_words : List (List ℕ × Bool)
tracked_words = map (λ row. (row.0.now, row.1)) TRACKED

abbrev pub within : Range → ℤ → Option ℕ
within range (pos n) = if nat_le range.least n && nat_le n range.greatest then Some n else None
within range (negsuc n) = None

-- the number that a value is, where it is a whole one of the range
abbrev pub number_in : Range → Data → Option ℕ
number_in range d = option_and_then (within range) (as_integer d)

-- the texts among the items of a list
abbrev pub texts_in : Items → List (List ℕ)
texts_in no_items = []
texts_in (item d ds) = cons_option (as_str d) (texts_in ds)

-- each item is a text
abbrev pub are_texts : Items → Bool
are_texts no_items = true
are_texts (item d ds) = is_some (as_str d) && are_texts ds

-- the place of the first of these names that is this one
abbrev pub place_of : List (List ℕ) → List ℕ → Option ℕ
place_of names name = position (λ other. bytes_eq other name) names

-- a name is one of these
abbrev pub is_among : List (List ℕ) → List ℕ → Bool
is_among names name = list_any (λ other. bytes_eq other name) names

-- a name stands twice
abbrev pub has_repeats : List (List ℕ) → Bool
has_repeats [] = false
has_repeats (name ∷ names) = is_among names name || has_repeats names

-- the elements of an analysis are widened where a text does not say how they are merged
abbrev pub is_widened : List ℕ → Bool
is_widened name = list_any (λ word. bytes_eq word.now name) WIDENED
