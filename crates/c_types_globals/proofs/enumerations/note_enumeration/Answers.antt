use Rattle.std.proofs.Common.{List, ap, ◌∙◌}
use Rattle.c_types_rules.specs.declared.meaning.Entry.{Entry}
use Rattle.c_types_rules.specs.Items.{Before}
use Rattle.c_types_globals.specs.Scopes.{before_of}
use Rattle.c_types_globals.proofs.Forgetting.{forgotten}
use Rattle.c_types_globals.proofs.enumerations.note_enumeration.Goals as goal

pub returns-clause-scope : goal.returns-clause-scope
returns-clause-scope c =
    let old = c.args.scope.now in
    let mid = c.declare_enumeration.new.scope in
    let kept = forgotten old.names mid.names c.keep.new.self c.len-count.result
    c.in_ok-declare_enumeration.ensures.added c.len-count.ensures c.keep.ensures in
    ap (λ (b : Before). record b { names = c.keep.new.self })
    c.in_ok-declare_enumeration.ensures.scope
    ∙ ap (λ (names : List Entry). record (before_of old) { names = names }) kept
