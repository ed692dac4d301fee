use Rattle.std.proofs.Common.{◌<◌, ℕ, ◌∙◌, sym, subst, ap, Some, length, arith}
use Rattle.std.proofs.Common.{get_or, option_map, IfSome}
use Rattle.std.specs.declared.option.Option.{Option}
use Rattle.c_types_rules.specs.declared.meaning.Entry.{Entry}
use Rattle.c_types_names.proofs.Lasts.{declared_last, declared_none, last_within}
use Rattle.c_types_names.proofs.table.declared.Goals as goal

pub index-requires : goal.index-requires
index-requires c =
    let es = c.args.table.now.entries.items in
    let found = c.in-Some.ensures ∙ c.requires.latest c.args.name.now in
    let within : c.in-Some.number < length es =
    subst (λ (held : Option ℕ). IfSome held (λ n. n < length es)) (sym found)
    (last_within es c.args.name.now) in
    omega arith

pub returns-in-Some : goal.returns-in-Some
returns-in-Some c =
    let es = c.args.table.now.entries.items in
    let entry = c.index.result.now in
    let found = c.in-Some.ensures ∙ c.requires.latest c.args.name.now in
    ap (λ (e : Entry). Some e.declared) (c.entry.ensures ∙ c.index.ensures)
    ∙ ap (option_map (λ n. (get_or es n entry).declared)) found
    ∙ sym (declared_last entry es c.args.name.now)

pub returns-in-None : goal.returns-in-None
returns-in-None c =
    sym (declared_none c.args.table.now.entries.items c.args.name.now
    (sym (c.in-None.ensures ∙ c.requires.latest c.args.name.now)))
