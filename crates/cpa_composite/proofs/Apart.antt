-- A component keeps its elements apart exactly where the pick that makes it does (`apart_rule`,
-- `rule_apart`).
use Rattle.std.proofs.Common.{◌≡◌, ℕ, ◌≤◌, true, List, length, Some, refl, sym, ap, ◌∙◌, arith}
use Rattle.std.proofs.lemmas.Option.{none-some, slice_get_past}
use Rattle.std.specs.List.{slice_get}
use Rattle.cpa_iface.specs.declared.merging.MergeRule.{MergeRule}
use Rattle.cpa_iface.specs.declared.merging.MergeRule.TheVariants.{Sep, Join, Widen}
use Rattle.cpa_iface.specs.declared.merging.Pick.{Pick}
use Rattle.cpa_iface.specs.Meanings.{Meaning}
use Rattle.cpa_composite.specs.Comparisons.{keeps_apart}
use Rattle.cpa_composite.specs.Components.{Component, picked, ArePlaces}
use Rattle.cpa_composite.proofs.Picking.{picked_at, picked_length}

is_sep : (r : MergeRule) → keeps_apart r ≡ true → r ≡ Sep
is_sep Sep h = refl
is_sep Join h = absurd (cc)
is_sep Widen h = absurd (cc)

pub apart_rule : (ms : List Meaning) (picks : List Pick) (i : ℕ) (p : Pick) (c : Component)
    → ArePlaces (length ms) picks → slice_get picks i ≡ Some p
    → slice_get (picked ms picks) i ≡ Some c → keeps_apart p.rule ≡ true → c.rule ≡ Sep
apart_rule ms picks i p c within at is apart =
    sym (picked_at ms picks within i p c at is).rule ∙ is_sep p.rule apart

pub rule_apart : (ms : List Meaning) (picks : List Pick) (i : ℕ) (p : Pick) (c : Component)
    → ArePlaces (length ms) picks → slice_get picks i ≡ Some p
    → slice_get (picked ms picks) i ≡ Some c → c.rule ≡ Sep → keeps_apart p.rule ≡ true
rule_apart ms picks i p c within at is sep =
    ap keeps_apart ((picked_at ms picks within i p c at is).rule ∙ sep)

-- there is no component where there is no pick
pub no_component : (ms : List Meaning) (picks : List Pick) (i : ℕ) (c : Component)
    → ArePlaces (length ms) picks → length picks ≤ i → slice_get (picked ms picks) i ≡ Some c → ⊥
no_component ms picks i c within past is =
    let many = picked_length ms picks within in
    none-some c (sym (slice_get_past (picked ms picks) i (omega (arith, many, past))) ∙ is)
