use Rattle.std.proofs.Common.{ℕ, ◌∙◌, ap, subst, sym, ◌<◌, ◌^◌, ◌*◌}
use Rattle.std.specs.Prelude.{slice_index_or, []}
use Rattle.cpa_sat_search.specs.Analyses.{HasMarksOf}
use Rattle.cpa_sat_search.proofs.Marks.{begun, begun_marks}
use Rattle.cpa_sat_search.proofs.analysis.Analysis.begin.Goals as goal

pub returns-clause-marks : goal.returns-clause-marks
returns-clause-marks c l =
    let old = c.args.self.now in
    let clause = slice_index_or c.args.arena.now c.args.number [] in
    begun_marks old.vars c.none.result old.marks.items c.mark_others.new.self.marks.items
    c.clause.result.now clause c.none.ensures c.clause.ensures
    (subst (λ n. n < 2 ^ 31) c.requires.vars c.requires.trail.small)
    (c.requires.clauses.below c.args.number) c.requires.idle.blank
    c.in_ok-mark_others.ensures.marks l

pub returns-clause-derived : goal.returns-clause-derived
returns-clause-derived c =
    let old = c.args.self.now in
    let k = c.args.number in
    let clause = slice_index_or c.args.arena.now k [] in
    let same = c.in_ok-mark_others.ensures.same in
    let marks : HasMarksOf clause c.mark_others.new.self = λ l.
    begun_marks old.vars c.none.result old.marks.items c.mark_others.new.self.marks.items
    c.clause.result.now clause c.none.ensures c.clause.ensures
    (subst (λ n. n < 2 ^ 31) c.requires.vars c.requires.trail.small)
    (c.requires.clauses.below k) c.requires.idle.blank c.in_ok-mark_others.ensures.marks l in
    begun c.args.arena.now k c.mark_others.new.self (same.long ∙ c.requires.idle.long
    ∙ ap (λ n. 2 * n) (sym same.vars)) same.first c.requires.inside
    (same.steps ∙ c.clear-2.ensures.items) (c.requires.clauses.sorted k) marks
    c.in_ok-mark_others.ensures.noted
