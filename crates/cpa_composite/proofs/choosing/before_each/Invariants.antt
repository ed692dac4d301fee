use Rattle.std.proofs.Common.{◌≡◌, ◌∷◌, map, take}
use Rattle.std.specs.List.{flat_map}
use Rattle.cpa_composite.proofs.choosing.before_each.Given as goal

abbrev pub invariant-loop-first : goal.invariant-loop-first
invariant-loop-first l =
    map (λ row. row.items) l.rows.items
    ≡ flat_map (λ e. map (λ row. e ∷ row) (map (λ row. row.items) l.later))
    (take l.first-index l.firsts)
