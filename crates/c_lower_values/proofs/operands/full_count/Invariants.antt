-- The operands so far, and those behind them.
use Rattle.std.proofs.Common.{◌≡◌, ◌+◌, ◌≤◌, drop}
use Rattle.c_lower_values.specs.Held.{full_count}
use Rattle.c_lower_values.proofs.operands.full_count.Given as goal

abbrev pub invariant-loop-v : goal.invariant-loop-v
invariant-loop-v l = record {
  whole : l.count + full_count (drop l.v-index l.operands) ≡ full_count l.operands;
  few : l.count ≤ l.v-index;
}
