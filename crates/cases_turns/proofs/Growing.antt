-- That the sample which asks for more keeps the refinement law.
use Rattle.std.proofs.Common.{◌≡◌, ◌-◌, ◌^◌, [], ◌∷◌, ◌++◌, List, refl, ap, inl, arith}
use Rattle.std.specs.Prelude.{ℕ, pos}
use Rattle.std.specs.Int.Signed.{le_z_yes}
use Rattle.std.specs.List.{AllByRecursion}
use Rattle.std.proofs.Math.Facts.{yes_leb}
use Rattle.cpa_ints.specs.declared.integers.IntType.TheVariants.{I32}
use Rattle.cpa_expr.specs.Laws.{a_constant_is_its_number}
use Rattle.cpa_model.specs.declared.automaton.Cfa.{Cfa}
use Rattle.cpa_model.specs.declared.automaton.Path.{Path}
use Rattle.cpa_model.specs.declared.facts.Elem.{Elem}
use Rattle.cpa_model.specs.Expressions.{types_of, IsExpr}
use Rattle.cpa_iface.specs.declared.precisions.Precision.{Precision}
use Rattle.cpa_iface.specs.Laws.{RefineLaws, TransferLaws}
use Rattle.cpa_iface.specs.Meanings.{IsPrecision}
use Rattle.cases_turns.specs.Samples.{no_facts, one, eager, longer_by_one}

nothing_more : {X : Type 0} (xs : List X) → xs ≡ xs ++ []
nothing_more [] = refl
nothing_more {X} (x ∷ xs) = ap (λ (l : List X). x ∷ l) (nothing_more xs)

and_one : {X : Type 0} (P : X → Type 0) (xs : List X) (x : X) → AllByRecursion P xs → P x
    → AllByRecursion P (xs ++ x ∷ [])
and_one P [] x all this = (this, tt)
and_one P (y ∷ ys) x all this = (all.0, and_one P ys x all.1 this)

one_fits : (cfa : Cfa) → IsExpr cfa.cells one
one_fits cfa = (a_constant_is_its_number (types_of cfa.cells) I32 (pos 1)).1
    (le_z_yes tt, le_z_yes (yes_leb {a = 1} {b = 2 ^ 31 - 1} (omega arith)))

pub longer_refined : (cfa : Cfa) (path : Path) (p : Precision) → IsPrecision cfa p
    → RefineLaws eager cfa path p (longer_by_one p)
longer_refined cfa path p fits = record {
  shaped = record {
    tracked = fits.tracked;
    preds = and_one (IsExpr cfa.cells) p.preds one fits.preds (one_fits cfa);
  };
  limit = refl;
  tracked = ([], nothing_more p.tracked);
  preds = (one ∷ [], refl);
  suggested = tt;
  told = tt;
}

-- one element without facts
pub nothing_transfer : (cfa : Cfa) (edge : ℕ) (e : Elem) (p : Precision)
    → TransferLaws eager cfa edge e p (no_facts ∷ [])
nothing_transfer cfa edge e p = record {
  shaped = (tt, tt);
  covers = λ g s t at holds steps. inl tt;
  exact = λ binds. absurd binds;
  bounded = λ _. (omega arith, tt);
  told = tt;
}
