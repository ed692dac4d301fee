-- A clause of one literal has that literal alone.
use Rattle.std.proofs.Common.{◌∷◌, [], ap, ◌∙◌, arith}
use Rattle.cpa_cnf.specs.Clauses.{has}
use Rattle.cpa_blast.proofs.formulas.unit.Goals as goal

pub returns : goal.returns
returns c =
    let clause = c.in_ok-clause.ensures in
    c.a_clause_is_its_literals.ensures _ (c.args.literal ∷ []) clause.sorted (omega arith, tt)
    (λ l. clause.literals l ∙ ap (λ xs. has xs l) c.in_ok-vec.ensures.items)
