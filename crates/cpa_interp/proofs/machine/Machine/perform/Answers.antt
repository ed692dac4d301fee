-- A write that cannot be done bars the act; a call and a return that are open change the stack.
use Rattle.std.proofs.Common.{refl, sym, subst}
use Rattle.cpa_model.specs.declared.automaton.Act.{Act}
use Rattle.cpa_interp.specs.declared.outcome.Outcome.TheVariants as outcome
use Rattle.cpa_interp.specs.Turns.{IsBarred}
use Rattle.cpa_interp.proofs.Turning.{stack_performed}
use Rattle.cpa_interp.proofs.machine.Machine.perform.Goals as goal

pub returns-else-assign : goal.returns-else-assign
returns-else-assign c =
    let m = c.args.self.now in
    subst (λ (a : Act). IsBarred c.args.cells.now a c.args.inputs.now m.taken m.store.values m.point
    (outcome.Trapped m.point))
    (sym c.in-Assign.is)
    (refl, c.assign.ensures.never c.if-assign.false)

pub returns-in_ok-step_stack-in-Call : goal.returns-in_ok-step_stack-in-Call
returns-in_ok-step_stack-in-Call c =
    let m = c.args.self.now in
    let done = stack_performed c.args.cells.now c.args.act.now c.args.inputs.now m.calls.items
    c.step_stack.new.sites.items m.store.values m.taken c.in_ok-step_stack-in-Call.field-0
    c.in-Call.is c.requires.open c.in_ok-step_stack-in-Call.ensures.after in
    (refl, done.0, done.1, done.2)
