-- Of members whose keys ascend, the first one that breaks a rule has the least key that breaks one.
use Rattle.std.proofs.Common.{◌≡◌, refl, ap, ◌∙◌, ℕ, List, [], ◌∷◌, Option, Some, None, option_map}
use Rattle.std.proofs.Common.{Ordering, Less, Equal, Greater, nat_cmp, String, Global, string_bytes}
use Rattle.std.proofs.lemmas.Cmp.{nat_list_cmp_total}
use Rattle.std.proofs.lemmas.Map.Lookups.{exact_bytes}
use Rattle.std.specs.Cmp.{tied_itself}
use Rattle.std.specs.Cmp.Lexicographic.{slice_cmp}
use Rattle.std.specs.List.{AllByRecursion}
use Rattle.std.specs.List.Sorted.{IsStrictlySortedBy}
use Rattle.std.specs.Map.{keys_of}
use Rattle.std.specs.Option.{option_or}
use Rattle.std.specs.Ordering.{match_ordering}
use Rattle.std.specs.Prelude.{option_and_then}
use Rattle.std.specs.String.{string_cmp}
use Rattle.toml.specs.Data.{Data, Members, no_members, member, get_member}
use Rattle.toml.specs.View.{members_view}
use Rattle.toml.specs.declared.value.Value.{Value}
use Rattle.cpa_config.specs.declared.faults.ConfigRule.{ConfigRule}
use Rattle.cpa_config.specs.Rules.{value_rule}
use Rattle.cpa_config.specs.Values.{keys, named}

abbrev pub Rules : Type 0
Rules = List ℕ → Data → Option ConfigRule

-- the rules of the keys of a table, for the handed names and those that it lists
abbrev pub rules_in : List (List ℕ) → List (List ℕ) → Rules
rules_in handed listed key d = value_rule handed listed d (named keys key)

-- the first member that breaks a rule
abbrev pub first_in : Rules → Members → Option (List ℕ × ConfigRule)
first_in rules no_members = None
first_in rules (member k d ms) =
    option_or (option_map (λ r. (k, r)) (rules k d)) (first_in rules ms)

-- the rule that is broken at a key
abbrev pub rule_on : Rules → List ℕ → Members → Option ConfigRule
rule_on rules key ms = option_and_then (rules key) (get_member key ms)

-- ---- keys that ascend

abbrev pub Above : List ℕ → Members → Type 0
Above key no_members = Unit {0}
Above key (member k d ms) = (slice_cmp nat_cmp key k ≡ Less) × Above key ms

abbrev pub Ascend : Members → Type 0
Ascend no_members = Unit {0}
Ascend (member k d ms) = Above k ms × Ascend ms

above_from : (k : String Global) (es : List (String Global × Value))
    → AllByRecursion (λ y. string_cmp k y ≡ Less) (keys_of es)
    → Above (string_bytes k) (members_view es)
above_from k [] h = tt
above_from k (e ∷ es) h = (h.0, above_from k es h.1)

pub ascend_from : (es : List (String Global × Value))
    → IsStrictlySortedBy string_cmp (keys_of es) → Ascend (members_view es)
unfolding IsStrictlySortedBy
ascend_from [] h = tt
ascend_from (e ∷ es) h = (above_from e.0 es h.0, ascend_from es h.1)

above_lesser : (j k : List ℕ) (ms : Members) → slice_cmp nat_cmp j k ≡ Less → Above k ms
    → Above j ms
above_lesser j k no_members less h = tt
above_lesser j k (member l d ms) less h =
    (nat_list_cmp_total.trans j k l less h.0, above_lesser j k ms less h.1)

absent : (j : List ℕ) (ms : Members) → Above j ms → get_member j ms ≡ None
absent j no_members h = refl
absent j (member l d ms) h = rw h.0 (absent j ms h.1)

-- ---- the member in front

in_front : (rules : Rules) (j k : List ℕ) (d : Data) (rest : Option Data) (o : Ordering)
    → (o ≡ Equal → rules j d ≡ None) → option_and_then (rules j) rest ≡ None
    → option_and_then (rules j) (match_ordering o rest (Some d) rest) ≡ None
in_front rules j k d rest Less here behind = behind
in_front rules j k d rest Equal here behind = here refl
in_front rules j k d rest Greater here behind = behind

passed : (rules : Rules) (j k : List ℕ) (d : Data) (ms : Members) → rules k d ≡ None
    → rule_on rules j ms ≡ None → rule_on rules j (member k d ms) ≡ None
passed rules j k d ms none behind =
    in_front rules j k d (get_member j ms) (slice_cmp nat_cmp j k)
    (λ tie. ap (λ key. rules key d) (exact_bytes j k tie) ∙ none) behind

-- ---- no rule

none_from : (rules : Rules) (k : List ℕ) (d : Data) (ms : Members) (found : Option ConfigRule)
    → rules k d ≡ found → ((j : List ℕ) → first_in rules ms ≡ None → rule_on rules j ms ≡ None)
    → option_or (option_map (λ r. (k, r)) found) (first_in rules ms) ≡ None
    → (j : List ℕ) → rule_on rules j (member k d ms) ≡ None
none_from rules k d ms (Some r) is behind e j = absurd (cc)
none_from rules k d ms None is behind e j = passed rules j k d ms is (behind j e)

pub first_none : (rules : Rules) (ms : Members) → first_in rules ms ≡ None → (j : List ℕ)
    → rule_on rules j ms ≡ None
first_none rules no_members e j = refl
first_none rules (member k d ms) e j =
    none_from rules k d ms (rules k d) refl (λ i rest. first_none rules ms rest i) e j

-- ---- a first rule

pub record IsLeast (rules : Rules) (ms : Members) (p : List ℕ × ConfigRule) : Type 0 where
  pub here : rule_on rules p.0 ms ≡ Some p.1
  pub before : (j : List ℕ) → slice_cmp nat_cmp j p.0 ≡ Less → rule_on rules j ms ≡ None

above_front : (k l : List ℕ) (d : Data) (rules : Rules) (ms : Members) (found : Option ConfigRule)
    (p : List ℕ × ConfigRule) → slice_cmp nat_cmp k l ≡ Less
    → (first_in rules ms ≡ Some p → slice_cmp nat_cmp k p.0 ≡ Less)
    → option_or (option_map (λ r. (l, r)) found) (first_in rules ms) ≡ Some p
    → slice_cmp nat_cmp k p.0 ≡ Less
above_front k l d rules ms (Some r) p less behind e =
    let same : l ≡ p.0 = cc in rw (← same) less
above_front k l d rules ms None p less behind e = behind e

above_first : (k : List ℕ) (rules : Rules) (ms : Members) (p : List ℕ × ConfigRule) → Above k ms
    → first_in rules ms ≡ Some p → slice_cmp nat_cmp k p.0 ≡ Less
above_first k rules no_members p h e = absurd (cc)
above_first k rules (member l d ms) p h e =
    above_front k l d rules ms (rules l d) p h.0 (above_first k rules ms p h.1) e

least_here : (rules : Rules) (k : List ℕ) (d : Data) (r : ConfigRule) (ms : Members) → Above k ms
    → rules k d ≡ Some r → IsLeast rules (member k d ms) (k, r)
least_here rules k d r ms above is = record {
  here = rw (tied_itself nat_list_cmp_total k) is;
  before = λ j less. rw (less, absent j ms (above_lesser j k ms less above)) refl;
}

least_behind : (rules : Rules) (k : List ℕ) (d : Data) (ms : Members) (p : List ℕ × ConfigRule)
    → slice_cmp nat_cmp k p.0 ≡ Less → rules k d ≡ None → IsLeast rules ms p
    → IsLeast rules (member k d ms) p
least_behind rules k d ms p less none least = record {
  here = rw (nat_list_cmp_total.antisymm p.0 k, less) least.here;
  before = λ j lesser. passed rules j k d ms none (least.before j lesser);
}

least_from : (rules : Rules) (k : List ℕ) (d : Data) (ms : Members) (found : Option ConfigRule)
    (p : List ℕ × ConfigRule) → rules k d ≡ found → Above k ms
    → (first_in rules ms ≡ Some p → IsLeast rules ms p)
    → option_or (option_map (λ r. (k, r)) found) (first_in rules ms) ≡ Some p
    → IsLeast rules (member k d ms) p
least_from rules k d ms (Some r) p is above behind e =
    let same : (k, r) ≡ p = cc in rw (← same) (least_here rules k d r ms above is)
least_from rules k d ms None p is above behind e =
    least_behind rules k d ms p (above_first k rules ms p above e) is (behind e)

pub first_some : (rules : Rules) (ms : Members) (p : List ℕ × ConfigRule) → Ascend ms
    → first_in rules ms ≡ Some p → IsLeast rules ms p
first_some rules no_members p h e = absurd (cc)
first_some rules (member k d ms) p h e =
    least_from rules k d ms (rules k d) p refl h.0 (first_some rules ms p h.1) e
