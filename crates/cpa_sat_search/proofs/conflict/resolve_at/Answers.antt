use Rattle.std.proofs.Common.{◌<◌, length, ap, sym, ◌∙◌, subst}
use Rattle.std.specs.Prelude.{slice_index_or, []}
use Rattle.std.proofs.lemmas.List.{get_or_read}
use Rattle.cpa_cnf.specs.Literals.{opposite}
use Rattle.cpa_sat_trail.specs.Trails.{IsReasonFor}
use Rattle.cpa_sat_search.proofs.Conflicts.{gives_way}
use Rattle.cpa_sat_search.proofs.conflict.resolve_at.Goals as goal

pub returns-clause-gives_way : goal.returns-clause-gives_way
returns-clause-gives_way c =
    let t = c.args.trail.now in
    let cs = c.args.arena.now in
    let place = c.args.place in
    let r = c.requires in
    let lit = get_or_read t.lits.items place c.index.result.now r.inside c.index.ensures 0 in
    let held : place < length t.reasons.items =
    subst (λ n. place < n) (sym r.analysing.trail.paired) r.inside in
    let num = get_or_read t.reasons.items place c.index-number.result.now held
    c.index-number.ensures 0 in
    gives_way c.args.analysis.now c.resolve.new.self t place
    (slice_index_or cs c.index-number.result.now []) c.opposite-literal.result
    (c.opposite-literal.ensures ∙ ap opposite lit) c.in_ok-resolve.ensures.union
    (subst (λ n. IsReasonFor (slice_index_or cs n []) t place) (sym num)
    (r.analysing.justified place r.inside r.forced).1)
