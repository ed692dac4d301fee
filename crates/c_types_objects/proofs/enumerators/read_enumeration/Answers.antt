use Rattle.std.proofs.Common.{sym, append-nil}
use Rattle.c_types_objects.proofs.Enumerating.{adds_none}
use Rattle.c_types_objects.proofs.enumerators.read_enumeration.Goals as goal

pub returns-in-None-clause-added : goal.returns-in-None-clause-added
returns-in-None-clause-added c = adds_none c.args.names.now

pub returns-in-None-clause-names : goal.returns-in-None-clause-names
returns-in-None-clause-names c = λ around named. rw c.in-None.is (sym named.names_are)

pub returns-in-None-clause-calls : goal.returns-in-None-clause-calls
returns-in-None-clause-calls c = λ around named.
    rw c.in-None.is (sym (append-nil c.args.calls.now.items))

pub returns-in-Some-clause-names : goal.returns-in-Some-clause-names
returns-in-Some-clause-names c = λ around named.
    rw c.in-Some.is (rw c.get-found.ensures at (c.read_found.ensures.names around named))

pub returns-in-Some-clause-first : goal.returns-in-Some-clause-first
returns-in-Some-clause-first c = λ around named.
    rw c.in-Some.is (rw c.get-found.ensures at (c.read_found.ensures.first around named))

pub returns-in-Some-clause-calls : goal.returns-in-Some-clause-calls
returns-in-Some-clause-calls c = λ around named.
    rw c.in-Some.is (rw c.get-found.ensures at (c.read_found.ensures.calls around named))
