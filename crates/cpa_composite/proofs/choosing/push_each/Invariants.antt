use Rattle.std.proofs.Common.{◌≡◌, ◌∷◌, ◌++◌, map, take}
use Rattle.cpa_composite.proofs.choosing.push_each.Given as goal

abbrev pub invariant-loop-row : goal.invariant-loop-row
invariant-loop-row l =
    map (λ row. row.items) l.rows.items
    ≡ map (λ row. row.items) l.initial.rows.items
    ++ map (λ row. l.first ∷ row) (take l.row-index (map (λ row. row.items) l.later))
