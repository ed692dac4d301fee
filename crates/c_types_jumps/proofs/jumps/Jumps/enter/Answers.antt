use Rattle.c_types_jumps.proofs.Views.{found_entered, found_kept, on_err_always}
use Rattle.c_types_jumps.proofs.jumps.Jumps.enter.Goals as goal

pub returns-clause-entered : goal.returns-clause-entered
returns-clause-entered c =
    let inside = c.self.inside in
    found_entered inside.tree c.enter.new.tree inside.labels.items inside.gotos.items c.args.number
    c.args.self.now c.self.view_is c.self.invariant c.in_ok-enter.ensures.current
    c.in_ok-enter.ensures.ways c.in_ok-enter.ensures.first c.in_ok-enter.ensures.next

pub returns-in_err-enter-clause-kept : goal.returns-in_err-enter-clause-kept
returns-in_err-enter-clause-kept c =
    let inside = c.self.inside in
    on_err_always c.from_residual.result
    (found_kept inside.tree c.enter.new.tree inside.labels.items inside.gotos.items c.args.self.now
    c.self.view_is c.self.invariant c.in_err-enter.ensures.same_here c.in_err-enter.ensures.ways
    c.in_err-enter.ensures.first c.in_err-enter.ensures.same_next)
