use Rattle.std.proofs.Common.{◌∙◌, List, ap, map, subst, sym}
use Rattle.cpa_report_print.specs.declared.report.Listed.{Listed}
use Rattle.cpa_recheck_obligations.specs.Laws.{AreShapedFor}
use Rattle.cpa_recheck_obligations.specs.Spots.{as_one}
use Rattle.cpa_recheck.proofs.Shown.{shaped_one}
use Rattle.cpa_recheck.proofs.rechecking.walk_listed.Goals as goal

pub walk_entries-requires-clause-shaped : goal.walk_entries-requires-clause-shaped
walk_entries-requires-clause-shaped c =
    let cfa = c.args.cfa.now in
    let are = c.deref.ensures.value ∙ (c.in_ok-entries.ensures
    ∙ ap (λ (l : List Listed). as_one (map (λ (entry : Listed). entry.elems) l))
    c.as_slice.ensures) in
    subst (AreShapedFor cfa) (sym are) (shaped_one cfa _ c.requires.shaped)

pub returns : goal.returns
returns c =
    let are = c.deref.ensures.value ∙ (c.in_ok-entries.ensures
    ∙ ap (λ (l : List Listed). as_one (map (λ (entry : Listed). entry.elems) l))
    c.as_slice.ensures) in
    c.in_ok-walked.ensures (map (λ (entry : Listed). entry.elems) c.args.listed.now) are
