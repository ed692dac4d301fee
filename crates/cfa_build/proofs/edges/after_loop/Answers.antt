use Rattle.std.proofs.Common.{◌≡◌, Some, ap, arith}
use Rattle.cpa_model.specs.Programs.{Next}
use Rattle.cfa_build.specs.Places.{IsPlace}
use Rattle.cfa_build.proofs.Statements.{loop_of_place, place_in_table}
use Rattle.cfa_build.proofs.edges.after_loop.Goals as goal

pub place_of-requires : goal.place_of-requires
place_of-requires c =
    let P = c.args.program.now in
    let inside =
    c.requires.trees.loop_inside c.in-Some.l c.args.n
    (loop_of_place P c.args.n c.in-Some.l c.args.place c.requires.place c.in-Some.is) in
    omega (arith, c.requires.placed.each)

pub returns-in-Some-clause-found : goal.returns-in-Some-clause-found
returns-in-Some-clause-found c =
    let P = c.args.program.now in
    let in_loop = loop_of_place P c.args.n c.in-Some.l c.args.place c.requires.place c.in-Some.is in
    let inside = c.requires.trees.loop_inside c.in-Some.l c.args.n in_loop in
    let place : IsPlace P c.in-Some.l c.place_of.result =
    place_in_table P c.in-Some.l c.args.places.now c.place_of.result inside
    c.requires.placed c.place_of.ensures in
    (c.in-Some.l, in_loop, place.next)

pub returns-in-Some-clause-all : goal.returns-in-Some-clause-all
returns-in-Some-clause-all c = λ l m other next.
    let P = c.args.program.now in
    let in_loop = loop_of_place P c.args.n c.in-Some.l c.args.place c.requires.place c.in-Some.is in
    let inside = c.requires.trees.loop_inside c.in-Some.l c.args.n in_loop in
    let place : IsPlace P c.in-Some.l c.place_of.result =
    place_in_table P c.in-Some.l c.args.places.now c.place_of.result inside
    c.requires.placed c.place_of.ensures in
    let same : c.in-Some.l ≡ l = c.requires.trees.one_loop c.in-Some.l l c.args.n in_loop other in
    let after : Next P l c.place_of.result.next = rw same at place.next in
    ap Some (c.requires.trees.one_next l c.place_of.result.next m after next)
