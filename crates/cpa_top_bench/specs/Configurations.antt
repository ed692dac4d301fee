-- The configuration of a measurement (this project's own).
use Rattle.std.specs.Prelude.{◌≡◌, ◌⊎◌, ℕ, List, [], ◌∷◌, None, Some, true, codes}
use Rattle.std.specs.List.{AllZip}
use Rattle.cpa_config.specs.declared.config.Config.{Config}
use Rattle.cpa_config.specs.declared.keys.TheConstants.{DEFAULT_ORDER, GATES, LEARNT, LIMIT}
use Rattle.cpa_config.specs.declared.keys.TheConstants.{ROUNDS}
use Rattle.cpa_config.specs.Values.{place_of}
use Rattle.cpa_iface.specs.declared.merging.MergeRule.TheVariants.{Sep}
use Rattle.cpa_iface.specs.declared.merging.Pick.{Pick}
use Rattle.cpa_ints.specs.declared.data_model.DataModel.TheVariants.{Lp64}

-- the analyses of a measurement
abbrev pub used : List (List ℕ)
used = codes "location" ∷ codes "callstack" ∷ codes "value" ∷ []

-- the first handed analysis of the name, by which elements are kept apart
pub record IsKeptApart (handed : List (List ℕ)) (name : List ℕ) (pick : Pick) : Type 0 where
  pub place : place_of handed name ≡ Some pick.place
  pub rule : pick.rule ≡ Sep

-- The configuration picks location, callstack and value of the handed analyses, all kept apart. It
-- has all cells tracked, 1000000 turns and the data model LP64, and of all else what counts where a
-- text does not say.
pub record IsBenchConfig (handed : List (List ℕ)) (config : Config) : Type 0 where
  pub picks : AllZip (IsKeptApart handed) used config.picks
  pub order : config.order ≡ DEFAULT_ORDER
  pub turns : config.turns ≡ 1000000
  pub rounds : config.rounds ≡ ROUNDS.default
  pub tracked : config.settings.tracked_all ≡ true
  pub limit : config.settings.limit ≡ LIMIT.default
  pub learnt : config.settings.learnt ≡ LEARNT.default
  pub gates : config.settings.gates ≡ GATES.default
  pub model : config.model ≡ Lp64

-- one of the three is not handed in
abbrev pub LacksOne : List (List ℕ) → Type 0
LacksOne handed =
    (place_of handed (codes "location") ≡ None)
    ⊎ ((place_of handed (codes "callstack") ≡ None) ⊎ (place_of handed (codes "value") ≡ None))
