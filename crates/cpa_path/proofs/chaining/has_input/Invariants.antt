-- What is left has an input where the whole path has one.
use Rattle.std.proofs.Common.{◌≡◌, drop}
use Rattle.cpa_path.specs.Paths.{has_input}
use Rattle.cpa_path.proofs.chaining.has_input.Given as goal

abbrev pub invariant-loop-number : goal.invariant-loop-number
invariant-loop-number l = has_input l.cfa (drop l.number-index l.path) ≡ has_input l.cfa l.path
