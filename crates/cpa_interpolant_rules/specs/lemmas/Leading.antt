-- Expressions that lead on to 0 leave no run.
use Rattle.std.proofs.Common.{◌≡◌, ℤ, pos, true, List, [], ◌∷◌, subst, Option}
use Rattle.std.specs.Prelude.{IsSomeAnd}
use Rattle.cpa_ints.specs.declared.integers.IntType.TheVariants as ty
use Rattle.cpa_expr.specs.declared.tree.Expr.{Expr}
use Rattle.cpa_expr.specs.Values.{HasTruth, is_nonzero}
use Rattle.cpa_expr.specs.Laws.{value_at_variants}
use Rattle.cpa_model.specs.declared.program.Cell.{Cell}
use Rattle.cpa_model.specs.declared.automaton.Act.{Act}
use Rattle.cpa_interpolant_rules.specs.Interpolants.{LeadOn, HasNoRun, last_of, zero}

-- 0 is nonzero on no store
zero_is_false : (store : List ℤ) → HasTruth store zero true → ⊥
zero_is_false store holds = absurd
    (cc (subst (λ (v : Option ℤ). IsSomeAnd v (λ a. is_nonzero a ≡ true))
    (value_at_variants.constant ty.I32 (pos 0) store) holds))

pub no_run : (cells : List Cell) (acts : List Act) (e : Expr) (behind : List Expr)
    → LeadOn cells acts e behind → last_of e behind ≡ zero → HasNoRun cells acts e
no_run cells [] e [] lead last store holds run =
    zero_is_false store (subst (λ (f : Expr). HasTruth store f true) last holds)
no_run cells [] e (f ∷ fs) lead last store holds run = absurd (cc lead)
no_run cells (a ∷ acts) e [] lead last store holds run = absurd lead
no_run cells (a ∷ acts) e (f ∷ fs) lead last store holds (next, step, run) =
    no_run cells acts f fs lead.1 last next (lead.0 store next holds step) run
