use Rattle.std.proofs.Common.{◌≡◌, List, ℕ, [], length, Some, None, cond, arith}
use Rattle.std.proofs.Common.{◌∷◌, ◌++◌, sym, subst, ap, ◌∙◌}
use Rattle.std.specs.Str.{bytes_eq}
use Rattle.c_types_rules.specs.Names.{or_else}
use Rattle.c_types_names.specs.Found.{HasFirsts, number_of}
use Rattle.c_types_names.proofs.Places.{names_more}
use Rattle.c_types_names.proofs.firsts.push.Goals as goal

pub returns-clause-firsts : goal.returns-clause-firsts
returns-clause-firsts c =
    let names = c.args.names.now.items in
    let named : c.in_ok-item.item ≡ c.args.name.now = c.in_ok-item.ensures in
    let pushed : c.push_reserved.new.self.items ≡ names ++ c.args.name.now ∷ [] =
    c.push_reserved.ensures.items
    ∙ ap (λ (all : List (List ℕ)). all ++ c.in_ok-item.item ∷ []) c.reserve.ensures.items
    ∙ ap (λ (name : List ℕ). names ++ name ∷ []) named in
    let count : c.len-number.result ≡ length names = omega arith in
    let first = λ (q : List ℕ). c.in_ok-set_first.ensures.set q ∙ ap (λ n.
    or_else (number_of c.args.places.now q) (cond (bytes_eq c.args.name.now q) (Some n)
    None)) count in
    subst (λ (all : List (List ℕ)). HasFirsts all c.set_first.new.numbers) (sym pushed)
    (names_more names c.args.name.now c.args.places.now c.set_first.new.numbers c.requires first)
