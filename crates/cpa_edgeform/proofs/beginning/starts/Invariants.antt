-- What is wanted so far, with what is left, is what all cells give.
use Rattle.std.proofs.Common.{◌≡◌, ◌++◌, drop}
use Rattle.cpa_form_rules.specs.Forms.{starts}
use Rattle.cpa_edgeform.proofs.beginning.starts.Given as goal

abbrev pub invariant-loop-i : goal.invariant-loop-i
invariant-loop-i l = l.wanted.items ++ starts l.i (drop l.i l.cells) ≡ starts 0 l.cells
