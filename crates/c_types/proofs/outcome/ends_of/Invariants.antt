-- The ends so far, and behind them those of the functions that are left, are all of them.
use Rattle.std.proofs.Common.{◌≡◌, ◌++◌, drop}
use Rattle.c_core_checked.specs.Texts.{ends_of}
use Rattle.c_types.proofs.outcome.ends_of.Given as goal

abbrev pub invariant-loop-function : goal.invariant-loop-function
invariant-loop-function l =
    l.ends ++ ends_of (drop l.function-index l.functions) ≡ ends_of l.functions
