-- What is put in and what is left is the whole.
use Rattle.std.proofs.Common.{◌≡◌, ◌++◌, drop, take}
use Rattle.cpa_facts.specs.Blocks.{joined}
use Rattle.cpa_facts.proofs.filling.Filling.push_front.Given as goal

abbrev pub invariant-loop-block : goal.invariant-loop-block
invariant-loop-block l =
    l.self ++ take l.left (joined (drop l.block-index l.blocks))
    ≡ l.fn.self ++ take l.count (joined l.blocks)
