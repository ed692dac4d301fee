use Rattle.std.proofs.Common.{sym, ◌∙◌, ap}
use Rattle.cpa_cnf.specs.Marking.{marked}
use Rattle.cpa_sat_search.proofs.Conflicts.{none_here, others_before, false_before, long_of}
use Rattle.cpa_sat_search.proofs.conflict.step_at.Goals as goal

pub returns-then-not-is_marked-clause-next : goal.returns-then-not-is_marked-clause-next
returns-then-not-is_marked-clause-next c =
    let r = c.requires in
    let a = c.args.analysis.now in
    none_here a c.args.trail.now c.args.at r.analysing.trail
    (long_of _ _ _ r.analysing.derived.long r.analysing.vars) r.inside r.untrue
    (ap (λ x. marked a.marks.items x) (sym c.false_at.ensures) ∙ sym c.if-not-is_marked.ensures)

pub resolve_at-requires-clause-forced : goal.resolve_at-requires-clause-forced
resolve_at-requires-clause-forced c =
    let r = c.requires in
    c.in-None.ensures.none (others_before c.args.analysis.now c.args.trail.now c.args.at
    r.analysing.trail (long_of _ _ _ r.analysing.derived.long r.analysing.vars) r.inside
    r.untrue)

pub returns-in_ok-resolve_at-in-None-clause-next : goal.returns-in_ok-resolve_at-in-None-clause-next
returns-in_ok-resolve_at-in-None-clause-next c =
    let r = c.requires in
    false_before c.args.analysis.now c.resolve_at.new.analysis c.args.trail.now c.args.at
    r.analysing.trail (long_of _ _ _ r.analysing.derived.long r.analysing.vars) r.inside
    r.untrue
    c.in_ok-resolve_at-in-None.ensures.gives_way
