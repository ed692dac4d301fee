-- The configuration that a text gives for the names of the handed analyses, or the rule that it
-- breaks and the key (this project's own), over the table that toml makes of the text.
use Rattle.std.specs.Prelude.{◌≡◌, ◌⊎◌, ℕ, List, [], true, Option, Some, None, codes, IsUtf8}
use Rattle.std.specs.Prelude.{◌∷◌, option_and_then, unwrap_or, if◌then◌else◌}
use Rattle.std.specs.Cmp.Lexicographic.{slice_cmp}
use Rattle.std.specs.List.{AllZip}
use Rattle.std.specs.Option.{option_or}
use Rattle.std.specs.Ordering.{nat_cmp, is_lt}
use Rattle.std.specs.Str.{bytes_eq}
use Rattle.std.specs.String.{string_bytes}
use Rattle.toml.specs.Data.{Data, array, string, Items, no_items, item, Members, as_table}
use Rattle.toml.specs.Data.{get_member}
use Rattle.toml.specs.Parse.{parse_document}
use Rattle.cpa_iface.specs.declared.merging.MergeRule.{MergeRule}
use Rattle.cpa_iface.specs.declared.merging.MergeRule.TheVariants.{Sep, Widen}
use Rattle.cpa_iface.specs.declared.merging.Pick.{Pick}
use Rattle.cpa_config.specs.declared.config.Config.{Config}
use Rattle.cpa_config.specs.declared.faults.ConfigError.{ConfigError}
use Rattle.cpa_config.specs.declared.faults.ConfigError.TheVariants as error
use Rattle.cpa_config.specs.declared.faults.ConfigRule.{ConfigRule}
use Rattle.cpa_config.specs.declared.faults.ConfigRule.TheVariants.{C1}
use Rattle.cpa_config.specs.declared.keys.Range.{Range}
use Rattle.cpa_config.specs.declared.keys.TheConstants.{GATES, LEARNT, LIMIT, ROUNDS, TURNS}
use Rattle.cpa_config.specs.declared.keys.TheConstants.{DEFAULT_MODEL, DEFAULT_ORDER}
use Rattle.cpa_config.specs.declared.keys.TheConstants.{DEFAULT_TRACKED}
use Rattle.cpa_config.specs.Rules.{Table, listed_in, rule_at}
use Rattle.cpa_config.specs.Values.{is_widened, merge_rules, models, number_in, orders}
use Rattle.cpa_config.specs.Values.{place_of, tracked_words, word_in}

-- ---- the table

-- the text is a TOML document with these members
pub record IsDocument (text : List ℕ) (members : Members) : Type 0 where
  pub utf8 : IsUtf8 text
  pub document : parse_document text ≡ Some members

-- names as the items of a list
abbrev pub items_of_names : List (List ℕ) → Items
items_of_names [] = no_items
items_of_names (name ∷ names) = item (string name) (items_of_names names)

-- what stands at a key that the text does not have: at `analyses` all handed names
abbrev pub unsaid : List (List ℕ) → List ℕ → Option Data
unsaid handed key =
    if bytes_eq key (codes "analyses") then Some (array (items_of_names handed)) else None

abbrev pub table_of : List (List ℕ) → Members → Table
table_of handed members key = option_or (get_member key members) (unsaid handed key)

-- ---- what it gives

-- what the value at a key means, or else the default
abbrev pub value_at : {A : Type 0} → (Data → Option A) → A → Table → List ℕ → A
value_at meaning default table key = unwrap_or (option_and_then meaning (table key)) default

abbrev pub number_at : Range → Table → List ℕ → ℕ
number_at range = value_at (number_in range) range.default

-- what `merge` says of a name
abbrev pub merge_value : Table → List ℕ → Option Data
merge_value table name =
    option_and_then (get_member name) (option_and_then as_table (table (codes "merge")))

abbrev pub rule_of_name : Table → List ℕ → MergeRule
rule_of_name table name = unwrap_or (option_and_then (word_in merge_rules) (merge_value table name))
    (if is_widened name then Widen else Sep)

-- a listed name picks the first handed analysis of that name
pub record IsPick (handed : List (List ℕ)) (table : Table) (name : List ℕ) (pick : Pick)
    : Type 0 where
  pub place : place_of handed name ≡ Some pick.place
  pub rule : pick.rule ≡ rule_of_name table name

-- the table gives this configuration: no key breaks a rule
pub record IsConfig (handed : List (List ℕ)) (table : Table) (config : Config) : Type 0 where
  pub rules : (key : List ℕ) → rule_at handed table key ≡ None
  pub picks : AllZip (IsPick handed table) (listed_in table) config.picks
  pub order : config.order ≡ value_at (word_in orders) DEFAULT_ORDER table (codes "order")
  pub turns : config.turns ≡ number_at TURNS table (codes "turns")
  pub rounds : config.rounds ≡ number_at ROUNDS table (codes "rounds")
  pub tracked : config.settings.tracked_all
      ≡ value_at (word_in tracked_words) DEFAULT_TRACKED table (codes "tracked")
  pub limit : config.settings.limit ≡ number_at LIMIT table (codes "limit")
  pub learnt : config.settings.learnt ≡ number_at LEARNT table (codes "learnt")
  pub gates : config.settings.gates ≡ number_at GATES table (codes "gates")
  pub model : config.model ≡ value_at (word_in models) DEFAULT_MODEL table (codes "model")

-- the rule is broken at the key, and none is at a key before it in byte order
pub record IsFirstFault (handed : List (List ℕ)) (table : Table) (rule : ConfigRule) (key : List ℕ)
    : Type 0 where
  pub here : rule_at handed table key ≡ Some rule
  pub before : (k : List ℕ) → is_lt (slice_cmp nat_cmp k key) ≡ true → rule_at handed table k ≡ None

-- ---- of a text

abbrev pub Configures : List ℕ → List (List ℕ) → Config → Type 0
Configures text handed config =
    (members : Members) × IsDocument text members × IsConfig handed (table_of handed members) config

-- C1 has no key
abbrev pub IsNoDocument : List ℕ → ConfigRule → List ℕ → Type 0
IsNoDocument text rule key =
    ((members : Members) → IsDocument text members → ⊥) × (rule ≡ C1) × (key ≡ [])

abbrev pub Refuses : List ℕ → List (List ℕ) → ConfigRule → List ℕ → Type 0
Refuses text handed rule key =
    IsNoDocument text rule key
    ⊎ ((members : Members) × IsDocument text members
    × IsFirstFault handed (table_of handed members) rule key)

-- what an error says of a table
abbrev pub IsTableCause : List (List ℕ) → Table → ConfigError → Type 0
IsTableCause handed table (error.Fault fault) =
    IsFirstFault handed table fault.rule (string_bytes fault.key)
IsTableCause handed table error.OutOfMemory = Unit {0}

-- what an error says of the text
abbrev pub IsCause : List ℕ → List (List ℕ) → ConfigError → Type 0
IsCause text handed (error.Fault fault) = Refuses text handed fault.rule (string_bytes fault.key)
IsCause text handed error.OutOfMemory = Unit {0}
