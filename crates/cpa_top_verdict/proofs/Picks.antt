-- The picks of a configuration name handed analyses: `are_places`. Each makes a component:
-- `one_each`.
use Rattle.std.proofs.Common.{◌≡◌, refl, ap, ◌∙◌, arith, ℕ, zero, suc, ◌<◌, List, [], ◌∷◌, length}
use Rattle.std.proofs.lemmas.List.Quantifiers.{position-Some}
use Rattle.std.specs.List.{AllZip, slice_get}
use Rattle.std.specs.Str.{bytes_eq}
use Rattle.cpa_iface.specs.declared.merging.MergeRule.{MergeRule}
use Rattle.cpa_iface.specs.declared.merging.Pick.{Pick}
use Rattle.cpa_iface.specs.Meanings.{Meaning}
use Rattle.cpa_composite.specs.Components.{ArePlaces, Component, picked, picked_before}
use Rattle.cpa_config.specs.declared.config.Config.{Config}
use Rattle.cpa_config.specs.Configurations.{Configures, IsPick, table_of}
use Rattle.cpa_config.specs.Rules.{Table, listed_in}

-- what a name picks is one of the handed analyses
within : (handed : List (List ℕ)) (table : Table) (name : List ℕ) (p : Pick)
    → IsPick handed table name p → p.place < length handed
within handed table name p is =
    (position-Some (λ other. bytes_eq other name) handed p.place [] is.place).0

all_within : (handed : List (List ℕ)) (table : Table) (names : List (List ℕ)) (picks : List Pick)
    → AllZip (IsPick handed table) names picks → ArePlaces (length handed) picks
all_within handed table [] [] all = tt
all_within handed table [] (p ∷ picks) all = absurd all
all_within handed table (name ∷ names) [] all = absurd all
all_within handed table (name ∷ names) (p ∷ picks) all =
    (within handed table name p all.0, all_within handed table names picks all.1)

pub are_places : (text : List ℕ) (handed : List (List ℕ)) (config : Config)
    → Configures text handed config → ArePlaces (length handed) config.picks
are_places text handed config says =
    let table = table_of handed says.0 in
    all_within handed table (listed_in table) config.picks says.2.picks

-- a pick within the analyses makes a component before the later ones
makes_one : (ms : List Meaning) (place : ℕ) (rule : MergeRule) (later : List Component)
    → place < length ms
    → length (picked_before (slice_get ms place) rule later) ≡ suc (length later)
makes_one [] place rule later inside = absurd (omega (arith, inside))
makes_one (m ∷ ms) zero rule later inside = refl
makes_one (m ∷ ms) (suc place) rule later inside = makes_one ms place rule later (omega arith)

pub one_each : (ms : List Meaning) (picks : List Pick) → ArePlaces (length ms) picks
    → length (picked ms picks) ≡ length picks
one_each ms [] places = refl
one_each ms (p ∷ picks) places =
    makes_one ms p.place p.rule (picked ms picks) places.0 ∙ ap suc (one_each ms picks places.1)
