-- What the analysis of predicates says of its transfer, with the count of both.
use Rattle.std.specs.declared.alloc.Global.{Global}
use Rattle.std.specs.declared.vec.Vec.{Vec}
use Rattle.std.proofs.lemmas.Result.{IfOk-weaker}
use Rattle.cpa_model.specs.declared.facts.Elem.{Elem}
use Rattle.cpa_craig.proofs.CraigLaws.{transfer-laws, transfer-exact, transfer-known}
use Rattle.cpa_craig.proofs.CraigLaws.{transfer-spends}
use Rattle.cpa_craig.proofs.craig.CraigAnalysis.transfer.Goals as goal

pub returns-clause-laws : goal.returns-clause-laws
returns-clause-laws c =
    IfOk-weaker _ _ _ (λ (es : Vec Elem Global) laws.
    transfer-laws c.args.cfa.now c.args.edge c.args.elem.now c.args.precision.now es.items laws)
    c.transfer.ensures.laws

pub returns-clause-exact : goal.returns-clause-exact
returns-clause-exact c =
    transfer-exact c.self.inside.stops c.self.inside.predicate c.transfer.new.self c.args.self.now
    c.self.view_is c.args.cfa.now c.args.edge c.args.elem.now c.args.precision.now _
    c.transfer.ensures.exact

pub returns-clause-known : goal.returns-clause-known
returns-clause-known c =
    transfer-known c.self.inside.stops c.self.inside.predicate c.transfer.new.self c.args.self.now
    c.self.view_is c.args.cfa.now c.args.edge c.args.elem.now c.args.precision.now _
    c.transfer.ensures.known

pub returns-clause-spends : goal.returns-clause-spends
returns-clause-spends c =
    transfer-spends c.self.inside.stops c.self.inside.predicate c.transfer.new.self
    c.args.self.now c.self.view_is c.args.cfa.now c.args.edge c.args.elem.now
    c.args.precision.now c.transfer.result c.transfer.ensures.spends
