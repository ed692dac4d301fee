use Rattle.std.proofs.Common.{◌≡◌, Some, None, sym}
use Rattle.cpa_reached.proofs.tracing.parent.Goals as goal

pub unreachable-requires : goal.unreachable-requires
unreachable-requires c =
    let p = c.requires.parent in
    let is : None ≡ p.entry.parent = c.in-None.ensures p.entry p.is_in p.is in
    let has : p.entry.parent ≡ Some p.parent = p.has in
    cc

pub returns : goal.returns
returns c = λ e there is. sym (c.in-Some.ensures e there is)
