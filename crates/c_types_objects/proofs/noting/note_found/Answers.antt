-- The first of the held fault and of the first of the others.
use Rattle.std.proofs.Common.{None, Some, sym, ◌∙◌}
use Rattle.c_types_objects.proofs.FirstFault.{first_found}
use Rattle.c_types_objects.proofs.noting.note_found.Goals as goal

pub returns-in-Some : goal.returns-in-Some
returns-in-Some c = λ faults is. c.note.ensures
    ∙ first_found c.args.first.now (Some c.in-Some.fault) faults (sym c.in-Some.is ∙ is)

pub returns-in_default : goal.returns-in_default
returns-in_default c = λ faults is.
    first_found c.args.first.now None faults (sym c.in_default.is ∙ is)
