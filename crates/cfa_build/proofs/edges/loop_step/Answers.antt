use Rattle.std.proofs.Common.{◌≡◌}
use Rattle.cpa_model.specs.declared.program.Stmt.TheVariants as stmt
use Rattle.cpa_model.specs.Programs.{IsStmt}
use Rattle.cfa_build.proofs.Statements.{loop_of_place}
use Rattle.cfa_build.proofs.edges.loop_step.Goals as goal

pub step_of-requires : goal.step_of-requires
step_of-requires c =
    let P = c.args.program.now in
    c.requires.trees.loop_inside c.in-Some.l c.args.n
    (loop_of_place P c.args.n c.in-Some.l c.args.place c.requires.place c.in-Some.is)

pub returns-in-Some-clause-all : goal.returns-in-Some-clause-all
returns-in-Some-clause-all c = λ l body m other is.
    let P = c.args.program.now in
    let in_loop = loop_of_place P c.args.n c.in-Some.l c.args.place c.requires.place c.in-Some.is in
    let same : l ≡ c.in-Some.l = c.requires.trees.one_loop l c.in-Some.l c.args.n other in_loop in
    let here : IsStmt P c.in-Some.l (stmt.Loop body m) = rw same at is in
    c.step_of.ensures.all body m here
