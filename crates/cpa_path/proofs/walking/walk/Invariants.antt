-- What is left runs from here as the path does from the start, and has no input.
use Rattle.std.proofs.Common.{◌≡◌, ℤ, List, false, drop}
use Rattle.std.specs.Prelude.{◌↔◌}
use Rattle.cpa_form_rules.specs.Runs.{Runs}
use Rattle.cpa_path.specs.Paths.{added_along, has_input, HasStores}
use Rattle.cpa_path.proofs.walking.walk.Given as goal

abbrev pub invariant-loop-number : goal.invariant-loop-number
invariant-loop-number l = record {
  runs : (inputs last : List ℤ)
      → Runs l.cfa.cells (added_along l.cfa (drop l.number-index l.path)) l.store.values inputs last
      ↔ HasStores l.cfa l.path inputs last;
  settled : has_input l.cfa (drop l.number-index l.path) ≡ false;
}
