use Rattle.std.proofs.Common.{List, ℕ, []}
use Rattle.std.proofs.Common.{◌∷◌, ◌++◌, sym, subst, ap, ◌∙◌}
use Rattle.c_types_names.specs.Found.{HasFirstArities}
use Rattle.c_types_names.proofs.Places.{arities_more}
use Rattle.c_types_names.proofs.survey.note_arity.Goals as goal

pub returns-clause-surveyed : goal.returns-clause-surveyed
returns-clause-surveyed c =
    let rows = c.args.parts.now.arities.items in
    let named = c.from_vec.ensures ∙ c.in_ok-to_vec.ensures.items_if_clones_equal (λ x y is. is) in
    let pushed = c.in_ok-push.ensures.items ∙ ap (λ (name : List ℕ). rows
    ++ (name, c.args.count) ∷ []) named in
    record {
      arities = subst (λ (all : List (List ℕ × ℕ)). HasFirstArities all c.set_first.new.numbers)
          (sym pushed)
          (arities_more rows c.args.name.now c.args.count c.args.parts.now.first_arities
          c.set_first.new.numbers c.requires.arities c.in_ok-set_first.ensures.set);
    }
