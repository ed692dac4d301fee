use Rattle.std.proofs.Common.{◌≡◌, ◌+◌, List, ◌∷◌, ◌++◌, drop, sym, ap, ◌∙◌, arith}
use Rattle.std.specs.List.{flat_map}
use Rattle.c_types_rules.specs.declared.meaning.Entry.{Entry}
use Rattle.c_types_rules.specs.Sound.{global_named, object_names}
use Rattle.c_types.proofs.Next.{next_item}
use Rattle.c_types.proofs.listing.globals_of.Goals as goal

pub loop-declaration-preserved : goal.loop-declaration-preserved
loop-declaration-preserved c =
    let f = global_named c.args.names.now c.args.starts.now in
    let all = c.declarations-declarations.result.now in
    let i = c.loop-declaration.declaration-index in
    let e = c.declaration-item.result in
    let rest = drop (i + 1) all in
    let next : e ∷ rest ≡ drop i all =
    sym (next_item all i e (omega arith) c.declaration-item.is) in
    c.in_ok-push_declared.ensures rest
    ∙ ap (λ (one : Entry). c.loop-declaration.globals.items
    ++ flat_map f (object_names c.loop-declaration.seen (one ∷ rest))) c.entry.ensures
    ∙ ap (λ (es : List Entry). c.loop-declaration.globals.items
    ++ flat_map f (object_names c.loop-declaration.seen es)) next
    ∙ c.loop-declaration.invariant
