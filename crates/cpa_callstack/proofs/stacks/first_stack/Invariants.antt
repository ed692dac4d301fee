use Rattle.std.proofs.Common.{◌≡◌}
use Rattle.cpa_callstack.specs.Stacks.{first_stack}
use Rattle.cpa_callstack.proofs.stacks.first_stack.Given as goal

abbrev pub invariant-loop-fact : goal.invariant-loop-fact
invariant-loop-fact l = first_stack l.facts ≡ first_stack l.fact-iterator
