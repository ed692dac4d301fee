use Rattle.std.proofs.Common.{◌≡◌, List, ℕ, [], length, Some, cond, arith}
use Rattle.std.proofs.Common.{◌∷◌, ◌++◌, ap, ◌∙◌}
use Rattle.std.specs.Str.{bytes_eq}
use Rattle.std.specs.declared.option.Option.{Option}
use Rattle.c_types_rules.specs.declared.meaning.Entry.{Entry}
use Rattle.c_types_names.specs.Found.{number_of}
use Rattle.c_types_names.proofs.Lasts.{more_tied}
use Rattle.c_types_names.proofs.table.push.Goals as goal

pub returns-clause-tied : goal.returns-clause-tied
returns-clause-tied c =
    let table = c.args.table.now in
    let room = c.in_ok-reserve.ensures in
    let entry = c.args.declaration in
    let name = c.as_slice-name.ensures ∙ ap (λ (e : Entry). e.name) c.entry.ensures in
    let count : c.len-number.result ≡ length table.entries.items = omega arith in
    let entries = c.push_reserved-2.ensures.items
    ∙ ap (λ (es : List Entry). es ++ entry ∷ []) room.entries in
    let number = c.in_ok-earlier.ensures.earlier
    ∙ ap (λ (name : List ℕ). number_of c.reserve.new.table.latest name) name
    ∙ ap (λ latest. number_of latest entry.name) room.latest in
    let earlier = c.push_reserved.ensures.items
    ∙ ap (λ (ns : List (Option ℕ)). ns ++ c.in_ok-earlier.earlier ∷ []) room.earlier
    ∙ ap (λ (n : Option ℕ). table.earlier.items ++ n ∷ []) number in
    let latest = λ (q : List ℕ). c.in_ok-earlier.ensures.set q
    ∙ ap (λ (name : List ℕ). cond (bytes_eq name q) (Some c.len-number.result)
    (number_of c.reserve.new.table.latest q)) name
    ∙ ap (λ latest. cond (bytes_eq entry.name q) (Some c.len-number.result)
    (number_of latest q)) room.latest
    ∙ ap (λ n. cond (bytes_eq entry.name q) (Some n) (number_of table.latest q)) count in
    more_tied table _ entry c.requires.tied entries earlier latest c.requires.counted
