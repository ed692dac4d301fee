-- The machine is where an execution comes to, so what comes of it comes of the replay.
use Rattle.std.proofs.Common.{◌≡◌, ◌∙◌, ℕ, ◌≤◌, Option, sym, subst, arith}
use Rattle.cpa_interp.specs.declared.outcome.Outcome.{Outcome}
use Rattle.cpa_interp.specs.Turns.{Turns, stage_of, state_of}
use Rattle.cpa_interp.specs.lemmas.Outcomes.{stage_is_state}
use Rattle.cpa_interp.proofs.Arriving.{automaton_state, empty_list, first_edge, run_first, run_held}
use Rattle.cpa_interp.proofs.Arriving.{IsRun, run_last, run_next, run_spent}
use Rattle.cpa_interp.proofs.running.run.Goals as goal

pub loop-made-init : goal.loop-made-init
loop-made-init c = λ P W A.
    run_first P c.args.inputs.now c.args.machine.now
    (c.requires.state ∙ c.edges_are_steps.ensures.initial P c.args.cfa.now A) c.requires.taken

pub returns-then-is_empty : goal.returns-then-is_empty
returns-then-is_empty c = λ P W A.
    let edges = c.edges_from-edges.result.now in
    let within : c.loop-made.made ≤ c.args.steps = omega (arith, c.loop-made-test.true) in
    run_last P W c.args.cfa.now A c.args.inputs.now c.loop-made.machine edges
    (empty_list edges (sym c.is_empty.ensures ∙ c.if-is_empty.true)) c.edges_from-edges.ensures
    c.args.steps c.loop-made.made within (c.loop-made.invariant P W A) c.last.result c.last.ensures

pub turn-requires-clause-state : goal.turn-requires-clause-state
turn-requires-clause-state c =
    let a = c.requires.automaton in
    let run = c.loop-made.invariant a.program a.well_formed a.automaton in
    automaton_state a.program c.args.cfa.now a.automaton (state_of c.loop-made.machine)
    (stage_is_state a.program (c.initial_is_state.ensures a.program a.well_formed)
    c.args.inputs.now (stage_of c.loop-made.machine c.args.inputs.now c.loop-made.made) run)

pub returns-in-Some : goal.returns-in-Some
returns-in-Some c = λ P W A.
    let edges = c.edges_from-edges.result.now in
    let some = first_edge edges (sym c.is_empty.ensures ∙ c.if-is_empty.false) in
    let turn = subst (λ (o : Option Outcome). Turns P c.args.inputs.now c.loop-made.machine
    c.turn.new.self o) c.in-Some.is (c.in_ok-held.ensures P W A) in
    run_held P c.args.cfa.now A c.args.inputs.now c.loop-made.machine edges
    c.edges_from-edges.ensures some.0 some.1 c.args.steps c.loop-made.made c.loop-made-test.true
    (c.loop-made.invariant P W A) c.in-Some.held (turn c.loop-made.made)

pub loop-made-preserved : goal.loop-made-preserved
loop-made-preserved c = λ P W A.
    let turn = subst (λ (o : Option Outcome). Turns P c.args.inputs.now c.loop-made.machine
    c.turn.new.self o) c.in_default.is (c.in_ok-held.ensures P W A) in
    run_next P c.args.inputs.now c.loop-made.machine c.turn.new.self c.loop-made.made
    (c.loop-made.invariant P W A) turn

pub returns-then-is_empty-2 : goal.returns-then-is_empty-2
returns-then-is_empty-2 c = λ P W A.
    let edges = c.edges_from.result.now in
    let end : c.loop-made.made ≡ c.args.steps =
    omega (arith, c.loop-made-test.false, c.loop-made.auto.made-end) in
    let run = subst (λ (made : ℕ). IsRun P c.args.inputs.now c.loop-made.machine made) end
    (c.loop-made.invariant P W A) in
    run_last P W c.args.cfa.now A c.args.inputs.now c.loop-made.machine edges
    (empty_list edges (sym c.is_empty-2.ensures ∙ c.if-is_empty-2.true)) c.edges_from.ensures
    c.args.steps c.args.steps (omega arith) run c.last-then-is_empty-2.result
    c.last-then-is_empty-2.ensures

pub returns-else-is_empty-2 : goal.returns-else-is_empty-2
returns-else-is_empty-2 c = λ P W A.
    let edges = c.edges_from.result.now in
    let some = first_edge edges (sym c.is_empty-2.ensures ∙ c.if-is_empty-2.false) in
    let end : c.loop-made.made ≡ c.args.steps =
    omega (arith, c.loop-made-test.false, c.loop-made.auto.made-end) in
    let run = subst (λ (made : ℕ). IsRun P c.args.inputs.now c.loop-made.machine made) end
    (c.loop-made.invariant P W A) in
    run_spent P c.args.cfa.now A c.args.inputs.now c.loop-made.machine edges c.edges_from.ensures
    some.0 some.1 c.args.steps run
