use Rattle.std.proofs.Common.{ap, ◌∙◌}
use Rattle.std.specs.Prelude.{List, ℕ}
use Rattle.cpa_chains.specs.Tables.{leaves_noted}
use Rattle.cpa_chains.proofs.Filling.{all_leaves_same}
use Rattle.cpa_chains.proofs.clauses.leaves.Goals as goal

pub returns : goal.returns
returns c =
    c.in_ok-leaves.ensures
    ∙ ap (λ (cs : List (List ℕ)). leaves_noted c.deref.result.now c.args.sides.now cs)
    c.as_slice.ensures
    ∙ all_leaves_same c.args.cnf.now c.args.sides.now c.deref.result.now
    (rw c.deref.ensures.value c.in_ok-table.ensures) c.requires.below
