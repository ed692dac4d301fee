-- The copies so far are the expressions so far.
use Rattle.std.proofs.Common.{◌≡◌, ◌++◌, take}
use Rattle.cpa_edgeform.proofs.settling.push_copies.Given as goal

abbrev pub invariant-loop-one : goal.invariant-loop-one
invariant-loop-one l = l.out ≡ l.initial.out ++ take l.one-index l.asked
