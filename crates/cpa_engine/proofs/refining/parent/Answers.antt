use Rattle.cpa_engine.proofs.Ancestors.{parent_back, root_ends}
use Rattle.cpa_engine.proofs.refining.parent.Goals as goal

pub returns-in-Some-clause-live : goal.returns-in-Some-clause-live
returns-in-Some-clause-live c =
    c.entry.ensures.numbered.parents c.entry.result.now c.in-Some.parent c.in-Some.field-0-1
    c.entry.ensures.is_in c.in-Some.is

pub returns-in-Some-clause-back : goal.returns-in-Some-clause-back
returns-in-Some-clause-back c = λ edge edges back.
    parent_back c.args.reached.now.live c.entry.ensures.numbered.ascend c.entry.result.now
    c.entry.ensures.is_in c.args.number c.entry.ensures.number c.in-Some.parent c.in-Some.field-0-1
    c.in-Some.is edge edges back

pub returns-in-None-clause-back : goal.returns-in-None-clause-back
returns-in-None-clause-back c = λ edge edges back.
    absurd (root_ends c.args.reached.now.live c.entry.ensures.numbered.ascend c.entry.result.now
    c.entry.ensures.is_in c.args.number c.entry.ensures.number c.in-None.is edge edges back)

pub returns-in-Some-clause-up : goal.returns-in-Some-clause-up
returns-in-Some-clause-up c = λ edge edges back.
    record {
      entry = c.entry.result.now;
      edge = c.in-Some.field-0-1;
      is_in = c.entry.ensures.is_in;
      number = c.entry.ensures.number;
      parent = c.in-Some.is;
    }

pub returns-in-None-clause-up : goal.returns-in-None-clause-up
returns-in-None-clause-up c = λ edge edges back.
    absurd (root_ends c.args.reached.now.live c.entry.ensures.numbered.ascend c.entry.result.now
    c.entry.ensures.is_in c.args.number c.entry.ensures.number c.in-None.is edge edges back)
