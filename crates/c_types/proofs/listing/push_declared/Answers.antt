use Rattle.std.proofs.Common.{ℕ, List, [], ◌∷◌, ◌++◌, sym, ap, ◌∙◌}
use Rattle.std.specs.List.{flat_map}
use Rattle.c_types_rules.specs.declared.typed.Global.{Global}
use Rattle.c_types_rules.specs.Sound.{global_named, object_names}
use Rattle.c_types.proofs.Listed.{skipped, listed_more}
use Rattle.c_types.proofs.listing.push_declared.Goals as goal

pub returns-then-not-is_first : goal.returns-then-not-is_first
returns-then-not-is_first c = λ rest.
    skipped (global_named c.args.names.now c.args.starts.now) c.args.globals.now.items
    c.args.seen.now c.args.entry.now rest (sym c.if-not-is_first.ensures)

pub returns : goal.returns
returns c = λ rest.
    let f = global_named c.args.names.now c.args.starts.now in
    let e = c.args.entry.now in
    let held = c.args.globals.now.items in
    let seen = c.args.seen.now in
    let named = c.in_ok-push_named.ensures
    ∙ ap (λ (n : List ℕ). held ++ f n) c.as_slice-name.ensures in
    let pushed = c.in_ok-push.ensures.pushed
    ∙ ap (λ (n : List ℕ). seen ++ n ∷ []) c.as_slice-name.ensures in
    ap (λ (gs : List Global). gs ++ flat_map f (object_names c.push.new.self rest)) named
    ∙ ap (λ (s : List (List ℕ)). (held ++ f e.name) ++ flat_map f (object_names s rest)) pushed
    ∙ listed_more f held seen e rest (sym c.if-not-is_first.ensures)
