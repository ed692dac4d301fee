-- That the precision after a path keeps the laws of refinement, and that a stop more is one more
-- that was not decided.
use Rattle.std.proofs.Common.{◌≡◌, ℕ, ◌-◌, ◌^◌, Bool, true, false, List, [], ◌∷◌, refl, sym, ap}
use Rattle.std.proofs.Common.{arith}
use Rattle.std.proofs.Common.{append-nil, ◌∙◌, subst}
use Rattle.std.specs.Prelude.{◌+◌, min, if◌then◌else◌}
use Rattle.std.specs.List.{AllByRecursion, filter}
use Rattle.cpa_expr.specs.declared.tree.Expr.{Expr}
use Rattle.cpa_model.specs.declared.automaton.Cfa.{Cfa}
use Rattle.cpa_model.specs.declared.automaton.Path.{Path}
use Rattle.cpa_model.specs.Automata.{IsAutomaton}
use Rattle.cpa_model.specs.Expressions.{IsExpr}
use Rattle.cpa_iface.specs.declared.precisions.Precision.{Precision}
use Rattle.cpa_iface.specs.Laws.{RefineLaws}
use Rattle.cpa_iface.specs.Meanings.{IsPrecision}
use Rattle.cpa_folds.specs.Along.{acts_along}
use Rattle.cpa_folds.specs.Carried.{carried, reads_some}
use Rattle.cpa_folds.specs.CarriedLaws.{CarriedAreExpressions}
use Rattle.cpa_predicate.specs.declared.asking.Budgets.{Budgets}
use Rattle.cpa_predicate.specs.Refining.{with_preds}
use Rattle.cpa_predicate.specs.lemmas.Missing.{missing, all_missing}
use Rattle.cpa_interpolant.specs.declared.outcome.Along.{Along}
use Rattle.cpa_interpolant.specs.declared.outcome.Along.TheVariants.{Cuts, Model, Learnt, Gates}
use Rattle.cpa_interpolant.specs.declared.outcome.Along.TheVariants.{Large}
use Rattle.cpa_interpolant.specs.Along.{IsAlong}
use Rattle.cpa_craig.specs.Craigs.{craigs, spent_more}
use Rattle.cpa_craig.specs.Refining.{refined_by, stops_in, IsRefined}

-- what holds of all expressions holds of those that pass a test
kept_all : (P : Expr → Type 0) (test : Expr → Bool) (es : List Expr) → AllByRecursion P es
    → AllByRecursion P (filter test es)
kept_all P test [] all = tt
kept_all P test (e ∷ es) all = by (test e) (kept_all P test es all.1)
  where
    by : (b : Bool) → AllByRecursion P (filter test es)
        → AllByRecursion P (if b then e ∷ filter test es else filter test es)
    by true rest = (all.0, rest)
    by false rest = rest

preds-laws : (cfa : Cfa) (path : Path) (p : Precision) (es : List Expr) → IsPrecision cfa p
    → AllByRecursion (IsExpr cfa.cells) es → RefineLaws craigs cfa path p (with_preds es p)
preds-laws cfa path p es precision typed =
    let appended = missing es p.preds in
    record {
      shaped = record {
        tracked = precision.tracked;
        preds = all_missing (IsExpr cfa.cells) es p.preds typed precision.preds;
      };
      limit = refl;
      tracked = ([], sym (append-nil p.tracked));
      preds = (appended.more, appended.is);
      suggested = tt;
      told = tt;
    }

pub refined-laws : CarriedAreExpressions → (cfa : Cfa) (path : Path) (p : Precision)
    (learnt gates : ℕ) (along : Along) → IsAutomaton cfa → IsPrecision cfa p
    → IsAlong cfa (acts_along cfa path.edges) learnt gates along
    → RefineLaws craigs cfa path p (refined_by cfa path along p)
refined-laws carried_are cfa path p learnt gates (Cuts exprs) a precision is =
    preds-laws cfa path p (filter reads_some exprs.items) precision
    (kept_all (IsExpr cfa.cells) reads_some exprs.items is.typed)
refined-laws carried_are cfa path p learnt gates (Model store) a precision is =
    preds-laws cfa path p (carried cfa path) precision (carried_are cfa path a)
refined-laws carried_are cfa path p learnt gates (Learnt exprs cut lines) a precision is =
    preds-laws cfa path p (carried cfa path) precision (carried_are cfa path a)
refined-laws carried_are cfa path p learnt gates (Gates exprs cut weight) a precision is =
    preds-laws cfa path p (carried cfa path) precision (carried_are cfa path a)
refined-laws carried_are cfa path p learnt gates (Large exprs cut lines) a precision is =
    preds-laws cfa path p (carried cfa path) precision (carried_are cfa path a)

-- so many stops more are as many more that were not decided
pub more_stops : (b : Budgets) (s t n : ℕ) → t ≡ min (s + n) (2 ^ 64 - 1)
    → spent_more t b ≡ spent_more n (spent_more s b)
more_stops b s t n is =
    ap (λ (k : ℕ). let r : Budgets = record b { spent = k } in r) (same b.spent)
  where
    same : (k : ℕ) → min (k + t) (2 ^ 64 - 1)
        ≡ min (min (k + s) (2 ^ 64 - 1) + n) (2 ^ 64 - 1)
    same k = omega (arith, is)

-- what was made by the outcome within the budgets that were given
pub refined_is : (cfa : Cfa) (path : Path) (b old given : Budgets) (s t n : ℕ) (along : Along)
    (p q : Precision) → given ≡ b → spent_more s b ≡ old
    → IsAlong cfa (acts_along cfa path.edges) given.learnt given.gates along
    → q ≡ refined_by cfa path along p → n ≡ stops_in along → t ≡ min (s + n) (2 ^ 64 - 1)
    → IsRefined cfa path old (spent_more t b) p q
refined_is cfa path b old given s t n along p q by is came made count sum = record {
  along = along;
  came = subst (λ (x : Budgets). Came x) is (subst (λ (x : Budgets). Came x) by came);
  precision = made;
  budgets =
      more_stops b s t (stops_in along) (sum ∙ ap (λ (k : ℕ). min (s + k) (2 ^ 64 - 1)) count)
      ∙ ap (λ (x : Budgets). spent_more (stops_in along) x) is;
}
  where
    Came : Budgets → Type 0
    Came x = IsAlong cfa (acts_along cfa path.edges) x.learnt x.gates along
