use Rattle.std.proofs.Common.{◌≡◌, ◌<◌, ◌&&◌, ◌||◌, ℕ, not, set, length, List, []}
use Rattle.std.proofs.Common.{◌∙◌, ◌++◌, ◌∷◌, ◌/◌, ap, subst, sym, false}
use Rattle.std.proofs.lemmas.List.{length-set}
use Rattle.std.specs.Prelude.{◌==◌, slice_index_or}
use Rattle.cpa_cnf.specs.declared.formula.Step.{Step}
use Rattle.cpa_cnf.specs.Clauses.{has}
use Rattle.cpa_cnf.specs.Marking.{marked}
use Rattle.cpa_cnf.specs.lemmas.Chains.{listed_marks}
use Rattle.cpa_sat_search.proofs.Marks.{derived_more, union_of}
use Rattle.cpa_sat_search.proofs.analysis.Analysis.resolve.Goals as goal

abbrev step_of : ℕ → ℕ → Step
step_of pivot clause = record { pivot = pivot; clause = clause }

pub returns-clause-derived : goal.returns-clause-derived
returns-clause-derived c =
    let r = c.requires in
    let old = c.args.self.now in
    let cs = c.args.arena.now in
    let x = c.args.literal in
    let k = c.args.number in
    let same = c.in_ok-mark_others.ensures.same in
    let ss = c.mark_others.new.self.steps.items in
    let inside : x < length old.marks.items = subst (λ n. x < n) (sym r.derived.long) r.range in
    derived_more cs old _ x k r.derived same.vars (same.long
    ∙ length-set old.marks.items c.index.result false) same.first
    (c.in_ok-push.ensures.items
    ∙ ap (λ p. ss ++ step_of p c.number-clause.result ∷ []) (c.number-pivot.ensures ∙ c.var.ensures)
    ∙ ap (λ q. ss ++ step_of (x / 2) q ∷ []) c.number-clause.ensures
    ∙ ap (λ (before : List Step). before ++ step_of (x / 2) k ∷ []) same.steps)
    r.inside r.range r.here r.not_here r.there
    (λ l. union_of old.marks.items c.mark_others.new.self.marks.items (slice_index_or cs k [])
    c.clause.result.now x c.opposite.result l inside c.clause.ensures c.opposite.ensures
    (subst (λ i. marked c.mark_others.new.self.marks.items l
    ≡ (marked (set old.marks.items i false) l
    || (has c.clause.result.now l && not (l == c.opposite.result)))) c.index.ensures
    (c.in_ok-mark_others.ensures.marks l)))
    c.in_ok-mark_others.ensures.noted listed_marks
