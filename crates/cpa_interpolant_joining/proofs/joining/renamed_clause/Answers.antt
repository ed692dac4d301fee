use Rattle.std.proofs.Common.{◌∙◌, sym, ap, map, List, ℕ}
use Rattle.cpa_cnf.specs.Clauses.{has}
use Rattle.cpa_blast_gates.specs.lemmas.Members.{has_clause, clause_is}
use Rattle.cpa_interpolant_joining.specs.Joining.{renamed_literal}
use Rattle.cpa_interpolant_joining.proofs.joining.renamed_clause.Goals as goal

pub returns : goal.returns
returns c =
    let sorted = c.in_ok-sorted.ensures in
    let literals = c.in_ok-literals.ensures in
    let given = c.literals.ensures.literals in
    c.a_clause_is_its_literals.ensures _ _ sorted.sorted
    (clause_is (map (renamed_literal c.args.first c.args.names.now) c.args.clause.now))
    (λ l. sorted.literals l
    ∙ ap (λ (xs : List ℕ). has xs l)
    (literals ∙ ap (map (renamed_literal c.args.first c.args.names.now)) given)
    ∙ sym (has_clause (map (renamed_literal c.args.first c.args.names.now) c.args.clause.now) l))
