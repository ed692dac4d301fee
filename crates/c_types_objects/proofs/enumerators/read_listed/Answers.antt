use Rattle.c_types_objects.proofs.enumerators.read_listed.Goals as goal

pub returns-in-None-clause-names : goal.returns-in-None-clause-names
returns-in-None-clause-names c = λ around named.
    rw c.in-None.is (c.read_enumerators.ensures.names around named)

pub returns-in-None-clause-first : goal.returns-in-None-clause-first
returns-in-None-clause-first c = λ around named.
    rw c.in-None.is (c.read_enumerators.ensures.first around named)

pub returns-in-None-clause-calls : goal.returns-in-None-clause-calls
returns-in-None-clause-calls c = λ around named.
    rw c.in-None.is (c.read_enumerators.ensures.calls around named)

pub returns-in-Some-clause-names : goal.returns-in-Some-clause-names
returns-in-Some-clause-names c = λ around named.
    rw c.in-Some.is (c.read_tagged.ensures.names around named)

pub returns-in-Some-clause-first : goal.returns-in-Some-clause-first
returns-in-Some-clause-first c = λ around named.
    rw c.in-Some.is (c.read_tagged.ensures.first around named)

pub returns-in-Some-clause-calls : goal.returns-in-Some-clause-calls
returns-in-Some-clause-calls c = λ around named.
    rw c.in-Some.is (c.read_tagged.ensures.calls around named)
