use Rattle.std.proofs.Common.{◌≡◌, [], ◌∷◌, true, false, Some, sym, ap, ◌∙◌}
use Rattle.std.proofs.lemmas.Result.{IfOk-weaker}
use Rattle.cpa_model.specs.declared.automaton.Act.TheVariants as act
use Rattle.cpa_model.specs.Automata.{edge_of}
use Rattle.cfa_build.specs.Edges.{edges_in, AreEdgesFrom}
use Rattle.cpa_model.specs.declared.program.Stmt.TheVariants as stmt
use Rattle.cpa_model.specs.Programs.{IsStmt}
use Rattle.cfa_build.specs.Places.{IsPlace}
use Rattle.cfa_build.proofs.Statements.{place_in_table, from_any_block, from_if, from_loop}
use Rattle.cfa_build.proofs.Statements.{from_assign, from_input, from_call, from_goto, from_break}
use Rattle.cfa_build.proofs.Statements.{from_continue, from_leave}
use Rattle.cfa_build.proofs.edges.leaving.Goals as goal

pub body-requires : goal.body-requires
body-requires c =
    let is : IsStmt c.args.program.now c.args.n (stmt.Call c.in-Call.function) =
    c.statement.ensures ∙ ap Some c.in-Call.is in
    let sound = c.requires.well_formed.sound c.args.n (stmt.Call c.in-Call.function) is in
    sound.0

pub exit-requires-clause-inside : goal.exit-requires-clause-inside
exit-requires-clause-inside c =
    let P = c.args.program.now in
    let place : IsPlace P c.args.n c.place_of-place.result =
    place_in_table P c.args.n c.args.places.now c.place_of-place.result c.requires.inside
    c.requires.placed c.place_of-place.ensures in
    c.requires.trees.function_inside c.place_of-place.result.function c.args.n place.function

pub returns-in-Block : goal.returns-in-Block
returns-in-Block c =
    let P = c.args.program.now in
    let place : IsPlace P c.args.n c.place_of-place.result =
    place_in_table P c.args.n c.args.places.now c.place_of-place.result c.requires.inside
    c.requires.placed c.place_of-place.ensures in
    let is : IsStmt P c.args.n (stmt.Block c.as_slice.result.now) =
    c.statement.ensures ∙ ap Some (c.in-Block.is ∙ ap stmt.Block (sym c.as_slice.ensures)) in
    rw c.skip.ensures (from_any_block P c.requires.trees c.args.n c.place_of-place.result.next
    c.first_or.result c.as_slice.result.now is place.next c.first_or.ensures.empty
    c.first_or.ensures.first)

pub returns-in-If : goal.returns-in-If
returns-in-If c =
    let P = c.args.program.now in
    let own =
    edge_of c.args.n (act.Assume c.in-If.test true) c.in-If.yes
    ∷ edge_of c.args.n (act.Assume c.in-If.test false) c.in-If.no ∷ [] in
    IfOk-weaker c.branch-alloc.result (λ outgoing. edges_in outgoing ≡ own)
    (λ outgoing. AreEdgesFrom P c.args.n (edges_in outgoing))
    (λ outgoing e. rw e (from_if P c.args.n c.in-If.test c.in-If.yes c.in-If.no
    (c.statement.ensures ∙ ap Some c.in-If.is))) c.branch-alloc.ensures

pub returns-in-Loop : goal.returns-in-Loop
returns-in-Loop c =
    rw c.skip-in-Loop.ensures (from_loop c.args.program.now c.args.n c.in-Loop.body c.in-Loop.step
    (c.statement.ensures ∙ ap Some c.in-Loop.is))

pub returns-in_ok-act-in-Assign : goal.returns-in_ok-act-in-Assign
returns-in_ok-act-in-Assign c =
    let P = c.args.program.now in
    let place : IsPlace P c.args.n c.place_of-place.result =
    place_in_table P c.args.n c.args.places.now c.place_of-place.result c.requires.inside
    c.requires.placed c.place_of-place.ensures in
    rw (c.one.ensures, c.in_ok-act-in-Assign.ensures)
    (from_assign P c.requires.trees c.args.n c.in-Assign.base c.in-Assign.len c.in-Assign.index
    c.in-Assign.value c.place_of-place.result.next
    (c.statement.ensures ∙ ap Some c.in-Assign.is) place.next)

pub returns-in-Input : goal.returns-in-Input
returns-in-Input c =
    let P = c.args.program.now in
    let place : IsPlace P c.args.n c.place_of-place.result =
    place_in_table P c.args.n c.args.places.now c.place_of-place.result c.requires.inside
    c.requires.placed c.place_of-place.ensures in
    rw c.one-in-Input.ensures (from_input P c.requires.trees c.args.n c.in-Input.cell
    c.place_of-place.result.next (c.statement.ensures ∙ ap Some c.in-Input.is) place.next)

pub returns-in-Call : goal.returns-in-Call
returns-in-Call c =
    rw c.one-in-Call.ensures (from_call c.args.program.now c.args.n c.in-Call.function c.body.result
    (c.statement.ensures ∙ ap Some c.in-Call.is) c.body.ensures)

pub returns-in-Goto : goal.returns-in-Goto
returns-in-Goto c =
    rw c.skip-in-Goto.ensures (from_goto c.args.program.now c.args.n c.in-Goto.to
    (c.statement.ensures ∙ ap Some c.in-Goto.is))

pub returns-in-Break : goal.returns-in-Break
returns-in-Break c =
    rw c.skip_if.ensures (from_break c.args.program.now c.args.n c.after_loop.result
    (c.statement.ensures ∙ ap Some c.in-Break.is) c.after_loop.ensures.found
    c.after_loop.ensures.all)

pub returns-in-Continue : goal.returns-in-Continue
returns-in-Continue c =
    rw c.skip_if-in-Continue.ensures
    (from_continue c.args.program.now c.args.n c.loop_step.result
    (c.statement.ensures ∙ ap Some c.in-Continue.is) c.loop_step.ensures.found
    c.loop_step.ensures.all)

pub returns-in-Leave : goal.returns-in-Leave
returns-in-Leave c =
    let P = c.args.program.now in
    let place : IsPlace P c.args.n c.place_of-place.result =
    place_in_table P c.args.n c.args.places.now c.place_of-place.result c.requires.inside
    c.requires.placed c.place_of-place.ensures in
    let here =
    from_leave P c.requires.trees c.args.n c.place_of-place.result.function
    (c.statement.ensures ∙ ap Some c.in-Leave.is) place.function in
    rw c.skip-in-Leave.ensures (rw c.exit.ensures here)
