use Rattle.std.proofs.Common.{ap, ◌∙◌}
use Rattle.cpa_cnf.specs.Clauses.{has}
use Rattle.cpa_cnf.specs.lemmas.Members.{any-has}
use Rattle.cpa_cnf.proofs.clause.Clause.contains.Goals as goal

pub returns : goal.returns
returns c =
    c.contains.ensures.value
    ∙ any-has c.args.literal c.as_slice.result.now
    ∙ ap (λ xs. has xs c.args.literal) (c.as_slice.ensures.value ∙ c.self.view_is)
