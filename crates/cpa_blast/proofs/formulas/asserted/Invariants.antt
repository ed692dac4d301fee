use Rattle.std.proofs.Common.{◌≡◌, drop}
use Rattle.cpa_blast.specs.Formulas.{asserted}
use Rattle.cpa_blast.proofs.Turns.{behind}
use Rattle.cpa_blast.proofs.formulas.asserted.Given as goal

abbrev pub invariant-loop-one : goal.invariant-loop-one
invariant-loop-one l =
    behind l.literals (asserted l.cells (drop l.one-index l.wanted) l.net)
    ≡ asserted l.cells l.wanted l.initial.net
