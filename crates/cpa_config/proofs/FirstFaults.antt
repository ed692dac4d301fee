-- The entry at which a table is first found to break a rule is its first fault.
use Rattle.std.proofs.Common.{◌≡◌, refl, sym, ◌∙◌, ℕ, List, ◌∷◌, true, Some, Ordering, Less}
use Rattle.std.proofs.Common.{Equal, Greater, nat_cmp, String, Global, string_bytes}
use Rattle.std.specs.Cmp.Lexicographic.{slice_cmp}
use Rattle.std.specs.List.Sorted.{IsStrictlySortedBy}
use Rattle.std.specs.Map.{keys_of}
use Rattle.std.specs.Ordering.{is_lt}
use Rattle.std.specs.String.{string_cmp}
use Rattle.toml.specs.View.{members_view, view}
use Rattle.toml.specs.declared.value.Value.{Value}
use Rattle.toml.proofs.Views.{Entry}
use Rattle.cpa_config.specs.Configurations.{IsFirstFault}
use Rattle.cpa_config.specs.Rules.{at, listed_in}
use Rattle.cpa_config.specs.declared.faults.ConfigRule.{ConfigRule}
use Rattle.cpa_config.proofs.Firsts.{IsLeast, ascend_from, first_in, first_some, rules_in}

is_less : (o : Ordering) → is_lt o ≡ true → o ≡ Less
is_less Less h = refl
is_less Equal h = absurd (cc)
is_less Greater h = absurd (cc)

pub first_fault_at : (handed : List (List ℕ)) (all rest : List Entry) (k : String Global)
    (v : Value) (rule : ConfigRule) (key : List ℕ) → key ≡ string_bytes k
    → IsStrictlySortedBy string_cmp (keys_of all)
    → first_in (rules_in handed (listed_in (at (members_view all)))) (members_view ((k, v) ∷ rest))
    ≡ first_in (rules_in handed (listed_in (at (members_view all)))) (members_view all)
    → rules_in handed (listed_in (at (members_view all))) (string_bytes k) (view v) ≡ Some rule
    → IsFirstFault handed (at (members_view all)) rule key
first_fault_at handed all rest k v rule key same ascending left broken =
    let rules = rules_in handed (listed_in (at (members_view all))) in
    let front : first_in rules (members_view ((k, v) ∷ rest)) ≡ Some (string_bytes k, rule) =
    rw broken refl in
    let least : IsLeast rules (members_view all) (string_bytes k, rule) =
    first_some rules (members_view all) (string_bytes k, rule) (ascend_from all ascending)
    (sym left ∙ front) in
    record {
      here = rw same least.here;
      before = λ j lesser.
          least.before j (is_less (slice_cmp nat_cmp j (string_bytes k)) (rw (← same) lesser));
    }
