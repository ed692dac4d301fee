use Rattle.std.proofs.Common.{◌∙◌, List, ap, map, subst, sym}
use Rattle.cpa_model.specs.declared.program.Cell.{Cell}
use Rattle.cpa_interval_bounds.specs.declared.bounds.Bounds.{Bounds}
use Rattle.cpa_interval_bounds.specs.Bounds.{only}
use Rattle.cpa_interval_bounds.specs.ExpressionBounds.{LieWithin}
use Rattle.cpa_recheck_obligations.specs.Forms.{entry_at}
use Rattle.cpa_recheck_bounds.proofs.Followed.{starts_lie}
use Rattle.cpa_recheck_bounds.proofs.Settled.{begins_runless}
use Rattle.cpa_recheck_bounds.proofs.settling.begins.Goals as goal

pub returns : goal.returns
returns c = λ is.
    let cfa = c.args.cfa.now in
    let xs = c.args.entries.now in
    let starts = map (λ (cell : Cell). cell.start) cfa.cells in
    let all = c.in_ok-all.ensures
    ∙ ap (map (λ (cell : Cell). only cell.start)) c.as_slice.ensures in
    begins_runless cfa xs (map (entry_at xs) c.args.numbers.now) c.in_ok-all.all.each _
    c.any-nothing.ensures
    (subst (λ (l : List Bounds). LieWithin l starts) (sym all) (starts_lie cfa.cells))
    (c.are_said.ensures is c.in_ok-lows.ensures) c.requires
