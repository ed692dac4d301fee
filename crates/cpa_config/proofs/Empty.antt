-- The empty text gives the defaults.
use Rattle.std.proofs.Common.{◌≡◌, refl, sym, ap, ◌∙◌, subst, ℕ, List, [], ◌∷◌, Some}
use Rattle.std.specs.List.{AllZip}
use Rattle.std.specs.Prelude.{if◌then◌else◌}
use Rattle.toml.proofs.OnLiterals.{toml_on_literals}
use Rattle.toml.specs.Data.{no_members}
use Rattle.toml.specs.Parse.{parse_document}
use Rattle.cpa_iface.specs.declared.merging.MergeRule.TheVariants.{Sep, Widen}
use Rattle.cpa_iface.specs.declared.merging.Pick.{Pick}
use Rattle.cpa_config.specs.declared.config.Config.{Config}
use Rattle.cpa_config.specs.Configurations.{Configures, IsConfig, IsPick, items_of_names, table_of}
use Rattle.cpa_config.specs.Laws.{IsDefault}
use Rattle.cpa_config.specs.Values.{is_widened, place_of, texts_in}

empty_document : parse_document [] ≡ Some no_members
unfolding toml_on_literals
empty_document = refl

names_listed : (names : List (List ℕ)) → texts_in (items_of_names names) ≡ names
names_listed [] = refl
names_listed (name ∷ names) = ap (λ rest. name ∷ rest) (names_listed names)

picked : (handed : List (List ℕ)) (names : List (List ℕ)) (picks : List Pick)
    → AllZip (IsPick handed (table_of handed no_members)) names picks
    → AllZip (λ name pick. (place_of handed name ≡ Some pick.place)
    × (pick.rule ≡ (if is_widened name then Widen else Sep))) names picks
picked handed [] [] h = tt
picked handed [] (p ∷ ps) h = absurd h
picked handed (n ∷ ns) [] h = absurd h
picked handed (n ∷ ns) (p ∷ ps) h = ((h.0.place, h.0.rule), picked handed ns ps h.1)

given : (handed : List (List ℕ)) (c : Config) → IsConfig handed (table_of handed no_members) c
    → IsDefault handed c
given handed c is = record {
  picks = picked handed handed c.picks (subst
      (λ names. AllZip (IsPick handed (table_of handed no_members)) names c.picks)
      (names_listed handed) is.picks);
  order = is.order;
  turns = is.turns;
  rounds = is.rounds;
  tracked = is.tracked;
  limit = is.limit;
  learnt = is.learnt;
  gates = is.gates;
  model = is.model;
}

pub defaults : (handed : List (List ℕ)) (c : Config) → Configures [] handed c → IsDefault handed c
defaults handed c (ms, is, config) =
    let same : ms ≡ no_members =
    (let both : Some ms ≡ Some no_members = sym is.document ∙ empty_document in cc) in
    given handed c (subst (λ n. IsConfig handed (table_of handed n) c) same config)
