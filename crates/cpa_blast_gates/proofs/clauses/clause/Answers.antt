use Rattle.std.proofs.Common.{◌∙◌, sym}
use Rattle.cpa_blast_gates.specs.lemmas.Members.{has_clause, clause_is}
use Rattle.cpa_blast_gates.proofs.clauses.clause.Goals as goal

pub returns : goal.returns
returns c =
    let sorted = c.in_ok-sorted.ensures in
    c.a_clause_is_its_literals.ensures _ _ sorted.sorted (clause_is c.args.literals.items)
    (λ l. sorted.literals l ∙ sym (has_clause c.args.literals.items l))
