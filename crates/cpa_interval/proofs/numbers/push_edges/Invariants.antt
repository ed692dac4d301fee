-- What is added and what is left is the whole.
use Rattle.std.proofs.Common.{◌≡◌, ◌++◌, drop}
use Rattle.cpa_interval.specs.Numbers.{near_along}
use Rattle.cpa_interval.proofs.numbers.push_edges.Given as goal

abbrev pub invariant-loop-edge : goal.invariant-loop-edge
invariant-loop-edge l = l.numbers.items ++ near_along (drop l.edge-index l.edges)
    ≡ l.fn.numbers.items ++ near_along l.edges
