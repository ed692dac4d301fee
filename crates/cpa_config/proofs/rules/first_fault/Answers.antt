use Rattle.std.proofs.Common.{◌≡◌, ◌∙◌, [], ◌∷◌, sym, ap, map, arith, Some}
use Rattle.std.proofs.lemmas.Grind.{common_steps}
use Rattle.std.specs.String.{string_bytes}
use Rattle.toml.proofs.Views.{Entry}
use Rattle.toml.specs.View.{members_view, table_view, view}
use Rattle.cpa_config.specs.Rules.{at, listed_in}
use Rattle.cpa_config.proofs.Firsts.{first_in, first_none, rules_in}
use Rattle.cpa_config.proofs.FirstFaults.{first_fault_at}
use Rattle.cpa_config.proofs.rules.first_fault.Goals as goal

pub returns-in-Some-2-clause-some : goal.returns-in-Some-2-clause-some
returns-in-Some-2-clause-some c =
    let handed = map string_bytes c.args.handed.now in
    let rules = rules_in handed (listed_in (at (table_view c.args.table.now))) in
    let e : Entry = (c.in-Some.key.now, c.in-Some.value.now) in
    let iter : c.loop-key.key-iterator ≡ e ∷ c.next.new.self = grind (arith, common_steps) in
    let listed : map (λ name. name.now) c.as_slice.result.now
    ≡ listed_in (at (table_view c.args.table.now)) =
    ap (map (λ name. name.now)) c.as_slice.ensures.value ∙ c.in_ok-listed.ensures in
    let broken : rules (string_bytes c.in-Some.key.now) (view c.in-Some.value.now)
    ≡ Some c.in-Some-2.rule =
    rw (← listed, ← c.as_str.ensures.value) (sym c.in_ok-rule.ensures ∙ c.in-Some-2.is) in
    first_fault_at handed c.args.table.now.entries c.next.new.self c.in-Some.key.now
    c.in-Some.value.now c.in-Some-2.rule (string_bytes c.in_ok-clone.field-0)
    c.in_ok-clone.ensures.cases c.iter-key-items.ensures.ordered
    (ap (λ es. first_in rules (members_view es)) (sym iter) ∙ c.loop-key.invariant) broken

pub returns-clause-none : goal.returns-clause-none
returns-clause-none c = λ key.
    let rules = rules_in (map string_bytes c.args.handed.now)
    (listed_in (at (table_view c.args.table.now))) in
    let ended : c.loop-key.key-iterator ≡ [] = grind (arith, common_steps) in
    first_none rules (table_view c.args.table.now)
    (sym c.loop-key.invariant ∙ ap (λ es. first_in rules (members_view es)) ended) key
