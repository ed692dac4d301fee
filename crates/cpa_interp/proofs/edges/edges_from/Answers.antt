use Rattle.std.proofs.Common.{◌+◌, sym, subst}
use Rattle.std.specs.List.{between}
use Rattle.cpa_interp.specs.Turns.{Leave}
use Rattle.cpa_interp.proofs.Leaving.{leave_between}
use Rattle.cpa_interp.proofs.edges.edges_from.Goals as goal

pub returns : goal.returns
returns c =
    let first = c.leaving-first.result.0 in
    let count = c.leaving-first.result.1 in
    subst (λ edges. Leave c.args.cfa.now c.args.point (between first (first + count) edges))
    (sym c.as_slice.ensures)
    (leave_between c.args.cfa.now c.args.point first count c.requires.automaton.ordered
    c.leaving-first.ensures.within c.leaving-first.ensures.leave)
