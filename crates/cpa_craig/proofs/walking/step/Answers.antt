-- One element more.
use Rattle.cpa_craig.proofs.WalkLemmas.{step_more, step_spent}
use Rattle.cpa_craig.proofs.walking.step.Goals as goal

pub loop-elem-preserved : goal.loop-elem-preserved
loop-elem-preserved c =
    let l = c.loop-elem in
    step_more c.args.craig.now l.craig c.transfer.new.self c.args.cfa.now
    c.args.precision.now.preds c.args.edge c.requires.edge c.args.elems.now l.elem-index
    c.elem-item.result c.loop-elem-test.true c.elem-item.is c.in_ok-own.ensures.spends
    l.all.items c.in_ok-own.own.items _ l.invariant c.in_ok-own.ensures.laws.shaped
    c.in_ok-own.ensures.known c.in_ok-append.ensures.items

pub returns-in_err-own-clause-spends : goal.returns-in_err-own-clause-spends
returns-in_err-own-clause-spends c =
    let l = c.loop-elem in
    step_spent c.args.craig.now l.craig c.transfer.new.self c.args.cfa.now
    c.args.precision.now.preds c.args.edge c.requires.edge c.args.elems.now l.elem-index
    c.elem-item.result c.loop-elem-test.true c.elem-item.is c.transfer.ensures.spends
    l.invariant.spends

pub returns-in_err-append-clause-spends : goal.returns-in_err-append-clause-spends
returns-in_err-append-clause-spends c =
    let l = c.loop-elem in
    step_spent c.args.craig.now l.craig c.transfer.new.self c.args.cfa.now
    c.args.precision.now.preds c.args.edge c.requires.edge c.args.elems.now l.elem-index
    c.elem-item.result c.loop-elem-test.true c.elem-item.is c.in_ok-own.ensures.spends
    l.invariant.spends
