-- The facts that are left are those that were, in fewer blocks.
use Rattle.std.proofs.Common.{◌≡◌, ◌++◌, length}
use Rattle.cpa_facts.specs.Blocks.{joined}
use Rattle.cpa_facts.proofs.iter.IterIterator.next.Given as goal

abbrev pub invariant-loop-self : goal.invariant-loop-self
invariant-loop-self l =
    l.self-inside.facts.now ++ joined l.self-inside.blocks.now ≡ l.fn.self

abbrev pub decreases-loop-self : goal.decreases-loop-self
decreases-loop-self l = length l.self-inside.blocks.now
