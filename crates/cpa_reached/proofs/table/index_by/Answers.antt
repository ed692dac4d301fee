use Rattle.cpa_reached.proofs.table.index_by.Goals as goal

pub returns-clause-indexed : goal.returns-clause-indexed
returns-clause-indexed c =
    rw (c.from_vec.ensures, c.in_ok-kept.ensures.items_if_clones_equal (λ x y is. is))
    (rw c.deref.ensures.value at c.in_ok-index.ensures)
