-- Questions that are asked one after the other: what they make of the budgets, and that one which
-- was not decided stays so.
use Rattle.std.proofs.Common.{◌≡◌, ◌<◌, ◌≤◌, ◌-◌, ◌^◌, refl, ◌∙◌, subst, arith, inl, inr}
use Rattle.std.specs.Prelude.{◌⊎◌}
use Rattle.std.proofs.lemmas.Bool.{cases_lt}
use Rattle.cpa_form_rules.specs.Forms.{Form}
use Rattle.cpa_predicate.specs.declared.asking.Budgets.{Budgets}
use Rattle.cpa_predicate.specs.Questions.{OutlastsSearch, IsBeyond, IsUndecided, Spends}

pub nothing_spent : (b : Budgets) (C : Type 0) → Spends b b C
nothing_spent b C = record {
  learnt = refl;
  gates = refl;
  grows = omega arith;
  rises = λ less. absurd (omega (arith, less));
}

-- what does not do before does not do after, and the other way round
pub beyond_before : (b c : Budgets) (C : Type 0) (form : Form) → Spends b c C → IsBeyond c form
    → IsBeyond b form
beyond_before b c C form s (inl heavy) = inl (subst (λ n. n < form.weight) s.gates heavy)
beyond_before b c C form s (inr outlasts) =
    inr (subst (λ n. OutlastsSearch n form.query) s.learnt outlasts)

pub both_spent : (a b c : Budgets) (C D E : Type 0) → Spends a b C → Spends b c D → (C → E)
    → (D → E) → Spends a c E
both_spent a b c C D E s t first second = record {
  learnt = t.learnt ∙ s.learnt;
  gates = t.gates ∙ s.gates;
  grows = let m = s.grows in let n = t.grows in omega (arith, m, n);
  rises = λ less. by less (cases_lt a.spent b.spent);
}
  where
    by : a.spent < c.spent → (a.spent < b.spent) ⊎ (b.spent ≤ a.spent) → E
    by less (inl risen) = first (s.rises risen)
    by less (inr still) = second (t.rises (omega (arith, less, still)))

-- another cause
pub caused : (a b : Budgets) (C D : Type 0) → Spends a b C → (C → D) → Spends a b D
caused a b C D s f = record {
  learnt = s.learnt;
  gates = s.gates;
  grows = s.grows;
  rises = λ less. f (s.rises less);
}

pub undecided_since : (a b c : Budgets) (C : Type 0) (form : Form) → Spends a b C
    → b.spent ≤ c.spent → IsUndecided b c form → IsUndecided a c form
undecided_since a b c C form s later was = record {
  beyond = beyond_before a b C form s was.beyond;
  counted = λ less. by less (cases_lt b.spent (2 ^ 64 - 1));
}
  where
    by : a.spent < 2 ^ 64 - 1 → (b.spent < 2 ^ 64 - 1) ⊎ (2 ^ 64 - 1 ≤ b.spent)
        → a.spent < c.spent
    by less (inl below) =
        let rises = was.counted below in let m = s.grows in omega (arith, rises, m)
    by less (inr full) = omega (arith, less, full, later)

pub undecided_until : (b c d : Budgets) (form : Form) → c.spent ≤ d.spent
    → IsUndecided b c form → IsUndecided b d form
undecided_until b c d form later was = record {
  beyond = was.beyond;
  counted = λ less. let rises = was.counted less in omega (arith, rises, later);
}

-- where the count did not rise and can rise, all was decided
pub none_undecided : (b c : Budgets) (form : Form) → c.spent ≡ b.spent → c.spent < 2 ^ 64 - 1
    → IsUndecided b c form → ⊥
none_undecided b c form same below was =
    let rises = was.counted (omega (arith, same, below)) in
    omega (arith, same, rises)
