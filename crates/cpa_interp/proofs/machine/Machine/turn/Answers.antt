-- A turn follows the open edge, or is held where there is none or it cannot be followed.
use Rattle.std.proofs.Common.{◌∙◌, Option, refl, subst}
use Rattle.cpa_interp.specs.declared.outcome.Outcome.{Outcome}
use Rattle.cpa_interp.specs.Turns.{Performs, state_of}
use Rattle.cpa_interp.proofs.Picking.{alike_of}
use Rattle.cpa_interp.proofs.Turning.{act_held, move_of, program_state, trapped, turned}
use Rattle.cpa_interp.proofs.machine.Machine.turn.Goals as goal

pub pick-requires : goal.pick-requires
pick-requires c =
    let a = c.requires.automaton in
    alike_of a.program c.args.cfa.now a.automaton c.args.self.now.point c.args.edges.now
    c.requires.leave

pub returns-in_default : goal.returns-in_default
returns-in_default c = λ P W A steps.
    trapped P c.args.cfa.now A c.args.self.now c.args.edges.now c.requires.leave
    c.in_default.ensures.none c.args.inputs.now steps

pub returns-in-Some-2 : goal.returns-in-Some-2
returns-in-Some-2 c = λ P W A steps.
    let cfa = c.args.cfa.now in
    let m = c.args.self.now in
    let edge = c.in-Some.edge.now in
    let moves = move_of P cfa A m.point c.args.edges.now c.requires.leave edge
    c.in-Some.ensures.some.0 in
    let done = subst (λ (o : Option Outcome). Performs c.as_slice.result.now edge.act
    c.args.inputs.now m c.perform.new.self o) c.in-Some-2.is c.in_ok-held.ensures in
    act_held P W.numbered c.as_slice.result.now (c.as_slice.ensures ∙ A.cells) m edge.act edge.to
    moves c.args.inputs.now steps c.in-Some-2.held done

pub returns-in-None : goal.returns-in-None
returns-in-None c = λ P W A.
    let cfa = c.args.cfa.now in
    let m = c.args.self.now in
    let edge = c.in-Some.edge.now in
    let new = c.perform.new.self in
    let moves = move_of P cfa A m.point c.args.edges.now c.requires.leave edge
    c.in-Some.ensures.some.0 in
    let done = subst (λ (o : Option Outcome). Performs c.as_slice.result.now edge.act
    c.args.inputs.now m new o) c.in-None.is c.in_ok-held.ensures in
    turned P (c.steps_keep_states.ensures P W) c.as_slice.result.now (c.as_slice.ensures ∙ A.cells)
    m
    (record { point = edge.to; calls = new.calls; store = new.store; taken = new.taken })
    (program_state P cfa A (state_of m) c.requires.state) edge.act edge.to moves c.args.inputs.now
    refl done.1 done.2 done.3
