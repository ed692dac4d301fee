-- What is left chains from here where all does from the start.
use Rattle.std.proofs.Common.{drop}
use Rattle.std.specs.Prelude.{◌↔◌}
use Rattle.cpa_path.specs.Paths.{Chains, ChainsFrom}
use Rattle.cpa_path.proofs.chaining.chains.Given as goal

abbrev pub invariant-loop-number : goal.invariant-loop-number
invariant-loop-number l =
    ChainsFrom l.cfa l.point l.calls.items (drop l.number-index l.path) ↔ Chains l.cfa l.path
