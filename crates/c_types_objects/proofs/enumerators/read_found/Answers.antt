use Rattle.std.proofs.Common.{sym, append-nil}
use Rattle.c_types_objects.proofs.Enumerating.{adds_none}
use Rattle.c_types_objects.proofs.enumerators.read_found.Goals as goal

pub returns-in_ok-note_tag-in-Tag-clause-added : goal.returns-in_ok-note_tag-in-Tag-clause-added
returns-in_ok-note_tag-in-Tag-clause-added c = adds_none c.args.names.now

pub returns-in_ok-note_tag-in-Tag-clause-names : goal.returns-in_ok-note_tag-in-Tag-clause-names
returns-in_ok-note_tag-in-Tag-clause-names c = λ around named. rw c.in-Tag.is (sym named.names_are)

pub returns-in_ok-note_tag-in-Tag-clause-first : goal.returns-in_ok-note_tag-in-Tag-clause-first
returns-in_ok-note_tag-in-Tag-clause-first c = λ around named.
    rw c.in-Tag.is (c.in_ok-note_tag-in-Tag.ensures c.args.survey.now around c.args.outer named)

pub returns-in_ok-note_tag-in-Tag-clause-calls : goal.returns-in_ok-note_tag-in-Tag-clause-calls
returns-in_ok-note_tag-in-Tag-clause-calls c = λ around named.
    rw c.in-Tag.is (sym (append-nil c.args.calls.now.items))

pub returns-in-Listed-clause-names : goal.returns-in-Listed-clause-names
returns-in-Listed-clause-names c = λ around named.
    rw c.in-Listed.is
    (rw c.as_slice-list.ensures at (c.read_listed.ensures.names around named))

pub returns-in-Listed-clause-first : goal.returns-in-Listed-clause-first
returns-in-Listed-clause-first c = λ around named.
    rw c.in-Listed.is
    (rw c.as_slice-list.ensures at (c.read_listed.ensures.first around named))

pub returns-in-Listed-clause-calls : goal.returns-in-Listed-clause-calls
returns-in-Listed-clause-calls c = λ around named.
    rw c.in-Listed.is
    (rw c.as_slice-list.ensures at (c.read_listed.ensures.calls around named))
