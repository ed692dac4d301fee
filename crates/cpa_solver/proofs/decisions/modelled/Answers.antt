-- The store is that of the bits of the cells.
use Rattle.std.proofs.Common.{ap, sym, subst, ◌∙◌, length}
use Rattle.cpa_query.specs.Queries.{IsModel}
use Rattle.cpa_blast.specs.Formulas.{store_at}
use Rattle.cpa_blast.specs.Laws.{IsBlastable}
use Rattle.cpa_solver.proofs.decisions.modelled.Goals as goal

pub store_at-requires : goal.store_at-requires
store_at-requires c = c.requires.long ∙ sym (ap length c.as_slice.ensures)

pub returns : goal.returns
returns c =
    let q = c.args.query.now in
    let truths = c.args.truths.now in
    let few : IsBlastable q =
    record { asked = c.requires.asked; few = c.has_few_cells.ensures } in
    let store_is = c.in_ok-store.ensures
    ∙ ap (λ ts. store_at ts c.args.first.now truths) c.as_slice.ensures
    ∙ ap (λ fs. store_at q.cells fs truths) c.requires.first in
    subst (IsModel q) (sym store_is)
    (c.formulas_are_queries.ensures.sound q truths few c.requires.truth)
