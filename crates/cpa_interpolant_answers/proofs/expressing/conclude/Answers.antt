-- The expression is the next interpolant of the path.
use Rattle.std.proofs.Common.{List, sym, ◌∙◌, subst}
use Rattle.cpa_chains.specs.declared.partial.Partial.{Partial}
use Rattle.cpa_chains.specs.Interpolants.{IsInterpolant}
use Rattle.cpa_interpolant_answers.proofs.Concluding.{next_is}
use Rattle.cpa_interpolant_answers.proofs.expressing.conclude.Goals as goal

pub returns-in-Some : goal.returns-in-Some
returns-in-Some c = λ cfa learnt gates e a acts of.
    let r = c.args.refuted in
    next_is cfa learnt gates e a acts r of c.cuts_interpolate.ensures c.cuts_are_typed.ensures
    (subst (λ (ps : List Partial). IsInterpolant r.joined.cnf r.joined.sides.items ps)
    c.requires.list c.requires.interpolant) c.in-Some.expr
    (sym c.in-Some.is ∙ c.in_ok-found.ensures r.lines.items c.requires.list)
