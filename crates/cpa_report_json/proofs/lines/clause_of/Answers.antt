use Rattle.std.proofs.Common.{◌∙◌, ℕ, List, ap, sym}
use Rattle.cpa_cnf.specs.Clauses.{has}
use Rattle.cpa_cnf.specs.lemmas.Chains.{same_members}
use Rattle.cpa_report_json.specs.Fits.{LiteralFits}
use Rattle.cpa_report_json.proofs.Chains.{all_same}
use Rattle.cpa_report_json.proofs.lines.clause_of.Goals as goal

pub returns-clause-made : goal.returns-clause-made
returns-clause-made c fits =
    same_members 0 0 _ _ c.in_ok-clause.ensures.sorted fits.0
    (λ l. c.in_ok-clause.ensures.literals l ∙ ap (λ (xs : List ℕ). has xs l) c.into_vec.ensures)

pub returns-clause-fit : goal.returns-clause-fit
returns-clause-fit c all = (
  c.in_ok-clause.ensures.sorted,
  all_same LiteralFits _ _ (λ l h.
      sym (c.in_ok-clause.ensures.literals l ∙ ap (λ (xs : List ℕ). has xs l)
      c.into_vec.ensures) ∙ h)
      all,
)
