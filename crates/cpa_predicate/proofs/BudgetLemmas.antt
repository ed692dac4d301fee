-- Two questions on the truths of one predicate, asked one after the other.
use Rattle.std.specs.Prelude.{Bool, true, false, None}
use Rattle.cpa_expr.specs.declared.tree.Expr.{Expr}
use Rattle.cpa_form_rules.specs.Forms.{Form}
use Rattle.cpa_predicate.specs.declared.asking.Budgets.{Budgets}
use Rattle.cpa_predicate.specs.Questions.{IsBeyond, IsUndecided, Spends, IsFound}
use Rattle.cpa_predicate.specs.Questions.{lacking}
use Rattle.cpa_predicate.specs.lemmas.Spending.{beyond_before, both_spent}
use Rattle.cpa_predicate.specs.lemmas.Spending.{undecided_since, undecided_until}
use Rattle.cpa_solver.specs.Decisions.{HasNoModel}

-- a truth is found by neither question
pub none_found : (a b c : Budgets) (C D : Type 0) (form : Form) (p : Expr) → Spends a b C
    → Spends b c D
    → (HasNoModel (lacking p true form).query → IsUndecided a b (lacking p true form))
    → (HasNoModel (lacking p false form).query → IsUndecided b c (lacking p false form))
    → IsFound a c form p None
none_found a b c C D form p s t first second = by
  where
    by : (holds : Bool) → HasNoModel (lacking p holds form).query
        → IsUndecided a c (lacking p holds form)
    by true none = undecided_until a b c (lacking p true form) t.grows (first none)
    by false none = undecided_since a b c C (lacking p false form) s t.grows (second none)

-- what was spent on both
pub both_asked : (a b c : Budgets) (form : Form) (p : Expr)
    → Spends a b (IsBeyond a (lacking p true form))
    → Spends b c (IsBeyond b (lacking p false form))
    → Spends a c ((holds : Bool) × IsBeyond a (lacking p holds form))
both_asked a b c form p s t =
    both_spent a b c (IsBeyond a (lacking p true form)) (IsBeyond b (lacking p false form))
    ((holds : Bool) × IsBeyond a (lacking p holds form)) s t (λ beyond. (true, beyond))
    (λ beyond. (
      false,
      beyond_before a b (IsBeyond a (lacking p true form)) (lacking p false form) s beyond,
    ))
