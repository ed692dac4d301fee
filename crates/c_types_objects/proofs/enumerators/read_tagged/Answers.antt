use Rattle.std.proofs.Common.{pos, [], ◌∷◌, ◌∙◌}
use Rattle.c_types_rules.specs.Declarations.{tag_entry}
use Rattle.c_types_rules.specs.Statements.{enumerating, tagging, naming}
use Rattle.c_types_objects.proofs.Enumerating.{named_behind, two_firsts, adds_none, adds_more}
use Rattle.c_types_objects.proofs.Enumerating.{adds_then}
use Rattle.c_types_objects.proofs.enumerators.read_tagged.Goals as goal

pub returns-clause-added : goal.returns-clause-added
returns-clause-added c =
    let old = c.args.names.now in
    let mid = c.declare_tag.new.names in
    adds_then old mid c.read_enumerators.new.names
    (adds_more old old mid (tag_entry c.args.tag.now.bytes ∷ []) (adds_none old)
    c.in_ok-declare_tag.ensures.names)
    c.in_ok-read_enumerators.ensures.added

pub returns-clause-names : goal.returns-clause-names
returns-clause-names c = λ around named.
    let tag = c.args.tag.now in
    c.in_ok-read_enumerators.ensures.names (naming (tag_entry tag.bytes) around)
    (named_behind around tag c.args.outer c.args.names.now c.declare_tag.new.names named
    c.in_ok-declare_tag.ensures.names)

pub returns-clause-first : goal.returns-clause-first
returns-clause-first c = λ around named.
    let tag = c.args.tag.now in
    let text = c.args.survey.now in
    let behind = naming (tag_entry tag.bytes) around in
    two_firsts text c.args.first.now c.declare_tag.new.first c.read_enumerators.new.first
    ((tagging tag).sites around) ((enumerating text (pos 0) c.args.list.now).sites behind)
    (c.in_ok-declare_tag.ensures.first text around named)
    (c.in_ok-read_enumerators.ensures.first behind
    (named_behind around tag c.args.outer c.args.names.now c.declare_tag.new.names named
    c.in_ok-declare_tag.ensures.names))

pub returns-clause-calls : goal.returns-clause-calls
returns-clause-calls c = λ around named.
    let tag = c.args.tag.now in
    c.in_ok-read_enumerators.ensures.calls (naming (tag_entry tag.bytes) around)
    (named_behind around tag c.args.outer c.args.names.now c.declare_tag.new.names named
    c.in_ok-declare_tag.ensures.names)
