use Rattle.std.proofs.Common.{◌<◌, length, sym, ◌∙◌, arith}
use Rattle.std.proofs.lemmas.Option.{none-some}
use Rattle.std.proofs.lemmas.Result.{on_ok_weaker}
use Rattle.cpa_model.specs.declared.program.Stmt.TheVariants as stmt
use Rattle.cfa_build.specs.Edges.{IsCallOf}
use Rattle.cfa_build.proofs.Growth.{take_site, pass_site}
use Rattle.cfa_build.proofs.sites.add_site.Goals as goal

pub bounds-sites-f : goal.bounds-sites-f
bounds-sites-f c =
    let is : IsCallOf c.args.program.now c.in-Some.f c.args.n =
    (c.callee.ensures c.in-Some.f).0 c.in-Some.is in
    let sound = c.requires.well_formed.sound c.args.n (stmt.Call c.in-Some.f) is in
    omega (arith, sound.0, c.requires.below.each)

pub returns-in-Some : goal.returns-in-Some
returns-in-Some c =
    let P = c.args.program.now in
    let is : IsCallOf P c.in-Some.f c.args.n = (c.callee.ensures c.in-Some.f).0 c.in-Some.is in
    let sound = c.requires.well_formed.sound c.args.n (stmt.Call c.in-Some.f) is in
    let inside : c.in-Some.f < length c.args.sites.now =
    omega (arith, sound.0, c.requires.below.each) in
    on_ok_weaker c.push.result (λ e. take_site P c.args.n c.in-Some.f c.args.sites.now
    c.index-sites-f.result c.push.new.self inside e c.requires.below is) c.push.ensures.ok

pub returns-in-None : goal.returns-in-None
returns-in-None c =
    pass_site c.args.program.now c.args.n c.args.sites.now c.requires.below
    (λ f is. none-some f (sym c.in-None.is ∙ (c.callee.ensures f).1 is))
