use Rattle.std.proofs.Common.{◌∙◌, Vec, Global, map, subst, sym, zero-add}
use Rattle.cpa_cnf.specs.declared.formula.Line.{Line}
use Rattle.cpa_recheck_obligations.specs.Obligations.{obligations}
use Rattle.cpa_recheck_obligations.specs.Spots.{as_one}
use Rattle.cpa_recheck.specs.Checks.{IsPart, StopsIn}
use Rattle.cpa_recheck.proofs.Shown.{confirmed}
use Rattle.cpa_recheck.proofs.rechecking.said.Goals as goal

pub returns-in-Whole : goal.returns-in-Whole
returns-in-Whole c = λ cfa es budget part.
    confirmed cfa es budget.learnt
    (map (λ (log : Vec Line Global). log.items) c.in-Whole.logs.items)
    (subst (IsPart cfa es budget 0 (obligations cfa (as_one es))) c.in-Whole.is part)

pub returns-in-Stopped : goal.returns-in-Stopped
returns-in-Stopped c = λ cfa es budget part.
    let os = obligations cfa (as_one es) in
    let at = subst (IsPart cfa es budget 0 os) c.in-Stopped.is part in
    c.stopped.ensures cfa es budget
    (subst (λ n. StopsIn cfa es budget os n c.in-Stopped.why) (sym (at.1 ∙ zero-add at.0)) at.2)
