use Rattle.std.proofs.Common.{◌<◌, ℕ, ◌∷◌, [], ◌∙◌, sym, subst, ap, length, arith, IfSome}
use Rattle.std.specs.declared.option.Option.{Option}
use Rattle.c_types_rules.specs.declared.meaning.Entry.{Entry}
use Rattle.c_types_names.specs.Tables.{IsCounted}
use Rattle.c_types_names.proofs.Lasts.{again_is, again_none, counted_at, last_within}
use Rattle.c_types_names.proofs.table.declare_again.Goals as goal

pub index-requires : goal.index-requires
index-requires c =
    let es = c.args.table.now.entries.items in
    let found = c.in-Some.ensures ∙ c.requires.latest c.args.name.now in
    let within : c.in-Some.number < length es =
    subst (λ (held : Option ℕ). IfSome held (λ n. n < length es)) (sym found)
    (last_within es c.args.name.now) in
    omega arith

pub push-requires-clause-counted : goal.push-requires-clause-counted
push-requires-clause-counted c =
    let es = c.args.table.now.entries.items in
    let found = c.in-Some.ensures ∙ c.requires.latest c.args.name.now in
    subst (λ (e : Entry). IsCounted e.declared) (sym c.in_ok-declaration-in-Some.ensures)
    (counted_at es c.args.name.now c.in-Some.number c.index.result.now found c.index.ensures
    c.requires.counted)

pub returns-in_ok-declaration-in-Some-clause-ok :
    goal.returns-in_ok-declaration-in-Some-clause-ok
returns-in_ok-declaration-in-Some-clause-ok c =
    let es = c.args.table.now.entries.items in
    let found = c.in-Some.ensures ∙ c.requires.latest c.args.name.now in
    rw (again_is es c.args.name.now c.in-Some.number c.index.result.now found c.index.ensures
    ∙ ap (λ (e : Entry). e ∷ []) (sym c.in_ok-declaration-in-Some.ensures)) c.push.ensures.ok

pub returns-in-None-clause-ok : goal.returns-in-None-clause-ok
returns-in-None-clause-ok c =
    again_none c.args.table.now.entries.items c.args.name.now
    (sym (c.in-None.ensures ∙ c.requires.latest c.args.name.now))
