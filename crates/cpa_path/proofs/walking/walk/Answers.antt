use Rattle.std.proofs.Common.{◌≡◌, ◌+◌, ℕ, List, false, drop, get_or, subst}
use Rattle.std.specs.Prelude.{◌↔◌}
use Rattle.std.proofs.lemmas.List.{drop_more}
use Rattle.cpa_form_rules.specs.Runs.{Runs}
use Rattle.cpa_path.specs.Paths.{added_along, has_input, HasStores}
use Rattle.cpa_path.proofs.Walked.{stores_on, stores_stop, no_input}
use Rattle.cpa_path.proofs.walking.walk.Goals as goal

pub loop-number-preserved : goal.loop-number-preserved
loop-number-preserved c =
    let cfa = c.args.cfa.now in
    let xs = c.args.path.now in
    let at = c.loop-number in
    let i = at.number-index in
    let n = get_or xs i 0 in
    let g = c.edge.result.now in
    let rest = drop (i + 1) xs in
    let here = drop_more xs i 0 c.loop-number-test.true in
    let split = no_input cfa n rest g c.edge.ensures
    (subst (λ (ns : List ℕ). has_input cfa ns ≡ false) here at.invariant.settled) in
    record {
      runs = λ inputs last.
          let before = subst (λ (ns : List ℕ).
          Runs cfa.cells (added_along cfa ns) at.store.values inputs last
          ↔ HasStores cfa xs inputs last) here (at.invariant.runs inputs last) in
          let on = stores_on cfa n rest g c.edge.ensures at.store.values
          c.step_store-stepped.new.store.values inputs last split.0
          (c.step_store-stepped.ensures.done cfa.cells c.if-not-stepped.false) in
          (λ h. before.0 (on.0 h), λ h. on.1 (before.1 h));
      settled = split.1;
    }

pub returns-then-not-stepped-clause-no : goal.returns-then-not-stepped-clause-no
returns-then-not-stepped-clause-no c = λ same inputs last all.
    let cfa = c.args.cfa.now in
    let xs = c.args.path.now in
    let at = c.loop-number in
    let i = at.number-index in
    let n = get_or xs i 0 in
    let g = c.edge.result.now in
    let rest = drop (i + 1) xs in
    let here = drop_more xs i 0 c.loop-number-test.true in
    let split = no_input cfa n rest g c.edge.ensures
    (subst (λ (ns : List ℕ). has_input cfa ns ≡ false) here at.invariant.settled) in
    let before = subst (λ (ns : List ℕ).
    Runs cfa.cells (added_along cfa ns) at.store.values inputs last
    ↔ HasStores cfa xs inputs last) here (at.invariant.runs inputs last) in
    stores_stop cfa n rest g c.edge.ensures at.store.values inputs last split.0
    (λ new step. c.step_store-stepped.ensures.never cfa.cells c.if-not-stepped.true new step)
    (before.1 all)
