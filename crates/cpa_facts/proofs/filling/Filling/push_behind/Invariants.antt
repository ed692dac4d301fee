-- What is put in and what is left is the whole.
use Rattle.std.proofs.Common.{◌≡◌, ◌++◌, ◌-◌, drop, length}
use Rattle.cpa_facts.specs.Blocks.{joined}
use Rattle.cpa_facts.proofs.filling.Filling.push_behind.Given as goal

abbrev pub invariant-loop-block : goal.invariant-loop-block
invariant-loop-block l =
    (l.self ++ drop l.left (joined (drop l.block-index l.blocks))
    ≡ l.fn.self ++ drop l.count (joined l.blocks))
    × (l.left - length (joined (drop l.block-index l.blocks)) ≡ l.count - length (joined l.blocks))
