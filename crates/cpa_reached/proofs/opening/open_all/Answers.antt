use Rattle.std.proofs.Common.{ℕ, List, ap, sym, take, map, ◌∙◌, arith}
use Rattle.std.proofs.lemmas.List.{take_all}
use Rattle.cpa_reached.specs.Kept.{opened_among}
use Rattle.cpa_reached.proofs.Reopened.{none_opened, opens_more, still_ascending, still_live}
use Rattle.cpa_reached.proofs.opening.open_all.Goals as goal

pub loop-number-init : goal.loop-number-init
loop-number-init c = sym (none_opened c.args.entries.now.items)

pub open-requires-clause-ascend : goal.open-requires-clause-ascend
open-requires-clause-ascend c =
    still_ascending (take c.loop-number.number-index c.args.found.now) c.args.entries.now.items
    c.loop-number.entries.items c.loop-number.invariant c.requires.ascend

pub open-requires-clause-live : goal.open-requires-clause-live
open-requires-clause-live c =
    let i = c.loop-number.number-index in
    still_live (take i c.args.found.now) c.args.entries.now.items c.loop-number.entries.items
    c.args.found.now i c.loop-number.invariant c.requires.live c.loop-number-test.true

pub loop-number-preserved : goal.loop-number-preserved
loop-number-preserved c =
    opens_more c.args.found.now c.loop-number.number-index c.args.entries.now.items
    c.loop-number.entries.items c.open.new.entries.items c.loop-number-test.true
    c.loop-number.invariant c.open.ensures

pub returns : goal.returns
returns c =
    let i = c.loop-number.number-index in
    c.loop-number.invariant
    ∙ ap (λ (ns : List ℕ). map (opened_among ns) c.args.entries.now.items)
    (take_all i c.args.found.now (omega (arith, c.loop-number-test.false)))
