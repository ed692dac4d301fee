-- Laws of configurations: the tables in numbers and words, that a text has one answer, and what the
-- empty text gives.
use Rattle.std.specs.Prelude.{◌≡◌, ℕ, List, [], ◌∷◌, true, false, Some, map, codes}
use Rattle.std.specs.Prelude.{if◌then◌else◌}
use Rattle.std.specs.List.{AllZip}
use Rattle.cpa_iface.specs.declared.merging.MergeRule.TheVariants.{Sep, Join, Widen}
use Rattle.cpa_iface.specs.declared.merging.Order.TheVariants.{First, Last}
use Rattle.cpa_ints.specs.declared.data_model.DataModel.TheVariants.{Lp64, Ilp32}
use Rattle.cpa_config.specs.declared.config.Config.{Config}
use Rattle.cpa_config.specs.declared.faults.ConfigRule.{ConfigRule}
use Rattle.cpa_config.specs.declared.keys.Kind.TheVariants as kind
use Rattle.cpa_config.specs.declared.keys.Range.{Range}
use Rattle.cpa_config.specs.declared.keys.TheConstants.{GATES, LEARNT, LIMIT, ROUNDS, TURNS}
use Rattle.cpa_config.specs.declared.keys.TheConstants.{DEFAULT_MODEL, DEFAULT_ORDER}
use Rattle.cpa_config.specs.declared.keys.TheConstants.{DEFAULT_TRACKED, WIDENED}
use Rattle.cpa_config.specs.Configurations.{Configures, Refuses}
use Rattle.cpa_config.specs.Values.{keys, is_widened, merge_rules, models, orders, place_of}
use Rattle.cpa_config.specs.Values.{tracked_words}

-- ---- the tables

abbrev pub range : ℕ → ℕ → ℕ → Range
range least greatest default = record { least = least; greatest = greatest; default = default }

-- the ranges and defaults of the numbers
pub record AreTheRanges : Type 0 where
  pub gates : GATES ≡ range 0 1000000000000 4000000
  pub learnt : LEARNT ≡ range 0 1000000000 20000
  pub limit : LIMIT ≡ range 0 1000000 0
  pub rounds : ROUNDS ≡ range 0 1000000 50
  pub turns : TURNS ≡ range 1 1000000000 100000

-- the keys, the words, and the other defaults
pub record AreTheWords : Type 0 where
  pub all_keys : keys ≡ (codes "analyses", kind.Analyses) ∷ (codes "gates", kind.Number GATES)
      ∷ (codes "learnt", kind.Number LEARNT) ∷ (codes "limit", kind.Number LIMIT)
      ∷ (codes "merge", kind.Merge) ∷ (codes "model", kind.Model) ∷ (codes "order", kind.Order)
      ∷ (codes "rounds", kind.Number ROUNDS) ∷ (codes "tracked", kind.Tracked)
      ∷ (codes "turns", kind.Number TURNS) ∷ []
  pub merge : merge_rules ≡ (codes "sep", Sep) ∷ (codes "join", Join) ∷ (codes "widen", Widen) ∷ []
  pub model : models ≡ (codes "lp64", Lp64) ∷ (codes "ilp32", Ilp32) ∷ []
  pub order : orders ≡ (codes "first", First) ∷ (codes "last", Last) ∷ []
  pub tracked : tracked_words ≡ (codes "all", true) ∷ (codes "none", false) ∷ []
  pub default_model : DEFAULT_MODEL ≡ Lp64
  pub default_order : DEFAULT_ORDER ≡ First
  pub default_tracked : DEFAULT_TRACKED ≡ false
  pub widens : map (λ name. name.now) WIDENED ≡ codes "interval" ∷ []

-- ---- a text

-- a text has one answer at most
pub record HasOneAnswer (text : List ℕ) (handed : List (List ℕ)) : Type 0 where
  pub config : (c d : Config) → Configures text handed c → Configures text handed d → c ≡ d
  pub fault : (r q : ConfigRule) (k j : List ℕ) → Refuses text handed r k
      → Refuses text handed q j → (r ≡ q) × (k ≡ j)
  pub apart : (c : Config) (r : ConfigRule) (k : List ℕ) → Configures text handed c
      → Refuses text handed r k → ⊥

-- the defaults: each handed analysis is picked, in the order in which they are handed in
pub record IsDefault (handed : List (List ℕ)) (config : Config) : Type 0 where
  pub picks : AllZip (λ name pick. (place_of handed name ≡ Some pick.place)
      × (pick.rule ≡ (if is_widened name then Widen else Sep))) handed config.picks
  pub order : config.order ≡ First
  pub turns : config.turns ≡ 100000
  pub rounds : config.rounds ≡ 50
  pub tracked : config.settings.tracked_all ≡ false
  pub limit : config.settings.limit ≡ 0
  pub learnt : config.settings.learnt ≡ 20000
  pub gates : config.settings.gates ≡ 4000000
  pub model : config.model ≡ Lp64
