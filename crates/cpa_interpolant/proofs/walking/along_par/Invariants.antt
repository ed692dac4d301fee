-- So many cuts are done: one expression more than these.
use Rattle.std.proofs.Common.{◌≡◌, suc, length}
use Rattle.cpa_folds.specs.Along.{acts_along}
use Rattle.cpa_interpolant.specs.Walked.{IsWalked}
use Rattle.cpa_interpolant.proofs.walking.along_par.Given as goal

abbrev pub invariant-loop-i : goal.invariant-loop-i
invariant-loop-i g l =
    IsWalked l.cfa l.learnt l.gates (acts_along l.cfa l.path.edges) l.exprs.items
    × (length l.exprs.items ≡ suc l.i)
