use Rattle.std.proofs.Common.{None, Some, rules}
use Rattle.c_types_names.proofs.Numbering.{updated}
use Rattle.c_types_names.proofs.numbers.put_back.Goals as goal

pub returns-in-None : goal.returns-in-None
returns-in-None c = λ q. rw c.in-None.is
    (updated c.args.name.now c.args.numbers.now c.remove.new.self None c.remove.ensures.updates q)

pub returns-in-Some-get_mut : goal.returns-in-Some-get_mut
returns-in-Some-get_mut c = λ q. rw c.in-Some.is
    (updated c.args.name.now c.args.numbers.now (c.get_mut.follows.lender c.in-Some.number)
    (Some c.in-Some.number) ((c.get_mut.follows.holds c.in-Some.number).3 (search rules)) q)
