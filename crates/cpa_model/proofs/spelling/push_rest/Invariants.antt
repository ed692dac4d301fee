-- The items so far stand at the end, each behind a comma.
use Rattle.std.proofs.Common.{◌≡◌, ◌++◌, ◌∷◌, take}
use Rattle.std.specs.List.{flat_map}
use Rattle.std.specs.String.{string_bytes}
use Rattle.cpa_model.proofs.spelling.push_rest.Given as goal

abbrev pub invariant-loop-item : goal.invariant-loop-item
invariant-loop-item g l =
    string_bytes l.out
    ≡ string_bytes l.initial.out ++ flat_map (λ x. 44 ∷ g.T.Spell.spelled x)
    (take l.item-index l.items)
