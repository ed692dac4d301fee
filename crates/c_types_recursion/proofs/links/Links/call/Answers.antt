use Rattle.c_types_recursion.proofs.Among.{among_got}
use Rattle.c_types_recursion.proofs.links.Links.call.Goals as goal

pub returns : goal.returns
returns c =
    among_got c.args.calls.now c.in_ok-number.number c.in_ok-call.call c.in_ok-call.ensures.lookup
