use Rattle.std.proofs.Common.{sym}
use Rattle.c_types_objects.proofs.Fitting.{no_calls}
use Rattle.c_types_objects.proofs.enumerators.read_enumerator.Goals as goal

pub returns-in-None-clause-calls : goal.returns-in-None-clause-calls
returns-in-None-clause-calls c =
    rw c.in-None.is (sym (no_calls c.args.calls.now.items c.args.caller))
