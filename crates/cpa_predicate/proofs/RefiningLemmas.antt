-- That the precision after a path keeps the laws of refinement.
use Rattle.std.proofs.Common.{[], refl, sym, append-nil}
use Rattle.cpa_model.specs.declared.automaton.Cfa.{Cfa}
use Rattle.cpa_model.specs.declared.automaton.Path.{Path}
use Rattle.cpa_model.specs.Automata.{IsAutomaton}
use Rattle.cpa_model.specs.Expressions.{IsExpr}
use Rattle.cpa_iface.specs.declared.precisions.Precision.{Precision}
use Rattle.cpa_iface.specs.Laws.{RefineLaws}
use Rattle.cpa_iface.specs.Meanings.{IsPrecision}
use Rattle.cpa_folds.specs.Carried.{carried}
use Rattle.cpa_folds.specs.CarriedLaws.{CarriedAreExpressions}
use Rattle.cpa_predicate.specs.Predicates.{predicates}
use Rattle.cpa_predicate.specs.Refining.{with_carried}
use Rattle.cpa_predicate.specs.lemmas.Missing.{missing, all_missing}

-- the laws of refinement
pub with_carried-laws : CarriedAreExpressions → (cfa : Cfa) (path : Path) (p : Precision)
    → IsAutomaton cfa → IsPrecision cfa p
    → RefineLaws predicates cfa path p (with_carried cfa path p)
with_carried-laws carried_are cfa path p a precision =
    let appended = missing (carried cfa path) p.preds in
    record {
      shaped = record {
        tracked = precision.tracked;
        preds = all_missing (IsExpr cfa.cells) (carried cfa path) p.preds
            (carried_are cfa path a) precision.preds;
      };
      limit = refl;
      tracked = ([], sym (append-nil p.tracked));
      preds = (appended.more, appended.is);
      suggested = (
        record { more = []; is = sym (append-nil p.tracked); whole = tt; only = tt; once = tt },
        appended,
      );
      told = tt;
    }
