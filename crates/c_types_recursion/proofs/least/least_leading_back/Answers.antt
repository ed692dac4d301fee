use Rattle.std.proofs.Common.{List, sym, subst}
use Rattle.c_types_rules.specs.Items.{Call}
use Rattle.c_types_recursion.specs.Marks.{HasCircular}
use Rattle.c_types_recursion.proofs.least.least_leading_back.Goals as goal

pub first_circular-requires-clause-each : goal.first_circular-requires-clause-each
first_circular-requires-clause-each c =
    subst (λ (found : List Call). HasCircular c.args.calls.now found) (sym c.deref.ensures.value)
    c.in_ok-found.ensures.each
