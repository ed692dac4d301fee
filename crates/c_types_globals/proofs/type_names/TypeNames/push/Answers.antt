-- Both lists get one item more, and so do their pairs.
use Rattle.std.specs.List.{zip}
use Rattle.std.proofs.Common.{◌≡◌, ℕ, List, [], ◌∷◌, ◌++◌, ◌∙◌, ap}
use Rattle.cpa_ints.specs.declared.integers.IntType.{IntType}
use Rattle.c_types_globals.proofs.Typed.{typed_more}
use Rattle.c_types_globals.proofs.type_names.TypeNames.push.Goals as goal

pub returns-clause-pushed : goal.returns-clause-pushed
returns-clause-pushed c =
    let name = c.args.name.now in
    let t = c.args.ty in
    let names = c.self.inside.names in
    let types = c.self.inside.types.items in
    let one_type : c.push_reserved.new.self.items ≡ types ++ t ∷ [] =
    c.push_reserved.ensures.items ∙ ap (λ (ts : List IntType). ts ++ t ∷ [])
    c.reserve.ensures.items in
    ap (λ (ns : List (List ℕ)). zip ns c.push_reserved.new.self.items) c.in_ok-push.ensures.pushed
    ∙ (ap (λ (ts : List IntType). zip (names ++ name ∷ []) ts) one_type
    ∙ (typed_more names types name t c.self.invariant
    ∙ ap (λ (rows : List (List ℕ × IntType)). rows ++ (name, t) ∷ []) c.self.view_is))
