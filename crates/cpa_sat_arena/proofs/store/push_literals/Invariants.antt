use Rattle.std.proofs.Common.{◌≡◌, ◌++◌, take}
use Rattle.cpa_sat_arena.proofs.store.push_literals.Given as goal

abbrev pub invariant-loop-literal : goal.invariant-loop-literal
invariant-loop-literal l = l.literals.items ≡ l.initial.literals.items
    ++ take l.literal-index l.literal-items
