use Rattle.std.proofs.Common.{◌≡◌, List, ℕ, Some, cond, subst}
use Rattle.std.specs.Str.{bytes_eq}
use Rattle.c_types_names.specs.Found.{number_of}
use Rattle.c_types_names.proofs.Numbering.{updated}
use Rattle.c_types_names.proofs.numbers.set.Goals as goal

pub returns-clause-earlier : goal.returns-clause-earlier
returns-clause-earlier c = subst (λ (name : List ℕ).
    c.in_ok-earlier.earlier ≡ number_of c.args.numbers.now name)
    (c.in_ok-key.ensures.items_if_clones_equal (λ x y is. is))
    c.in_ok-earlier.ensures.old

pub returns-clause-set : goal.returns-clause-set
returns-clause-set c = λ q. subst (λ (name : List ℕ).
    number_of c.insert.new.self q
    ≡ cond (bytes_eq name q) (Some c.args.number) (number_of c.args.numbers.now q))
    (c.in_ok-key.ensures.items_if_clones_equal (λ x y is. is))
    (updated c.in_ok-key.key.items c.args.numbers.now c.insert.new.self
    (Some c.args.number) c.in_ok-earlier.ensures.updates q)
