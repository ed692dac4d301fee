-- The law of what a path carries: expressions over the automaton's cells. Below the statement
-- stands its lemma.
use Rattle.std.specs.Prelude.{◌≡◌, ℕ, ◌≤◌, ◌&&◌, nat_le, Bool, true, false, List, [], ◌∷◌}
use Rattle.std.specs.Prelude.{◌++◌, Option, None, Some, slice_get, if◌then◌else◌}
use Rattle.std.specs.List.{AllByRecursion, filter, list_any}
use Rattle.std.proofs.Common.{refl, subst, arith}
use Rattle.std.proofs.lemmas.Bool.{leb-true}
use Rattle.cpa_expr.specs.declared.tree.Expr.{Expr}
use Rattle.cpa_expr.specs.Cells.{replaced}
use Rattle.cpa_expr.specs.Equality.{same_expr}
use Rattle.cpa_expr.specs.Laws.{to_replace_keeps_types}
use Rattle.cpa_expr.specs.Shape.{IsExpr, IsTyped, height, size, type_of}
use Rattle.cpa_model.specs.declared.automaton.Act.{Act}
use Rattle.cpa_model.specs.declared.automaton.Act.TheVariants as act
use Rattle.cpa_model.specs.declared.automaton.Edge.{Edge}
use Rattle.cpa_model.specs.declared.automaton.Cfa.{Cfa}
use Rattle.cpa_model.specs.declared.automaton.Path.{Path}
use Rattle.cpa_model.specs.Acts.{IsActOf}
use Rattle.cpa_model.specs.Automata.{IsAutomaton}
use Rattle.cpa_model.specs.Expressions.{types_of}
use Rattle.cpa_model.specs.lemmas.EdgesSound.{edge_sound}
use Rattle.cpa_model.specs.lemmas.Lists.{AllByRecursion-push}
use Rattle.cpa_folds.specs.declared.carrying.CarriedLists.{CarriedLists}
use Rattle.cpa_folds.specs.Along.{act_of, acts_along}
use Rattle.cpa_folds.specs.Carried.{reads_some, reads_among, with_new, with_both}
use Rattle.cpa_folds.specs.Carried.{with_small, with_replaced, reading, without, is_scalar}
use Rattle.cpa_folds.specs.Carried.{carried_over, carried_along, carried}

-- whatever a path of an automaton carries is well typed over its cells, and no higher than an
-- expression may be
abbrev pub CarriedAreExpressions : Type 0
CarriedAreExpressions =
    (cfa : Cfa) (path : Path) → IsAutomaton cfa
    → AllByRecursion (IsExpr (types_of cfa.cells)) (carried cfa path)

-- ---- the lemma

module _ (cfa : Cfa) where
  abbrev Over : Expr → Type 0
  Over = IsExpr (types_of cfa.cells)

  -- both lists have expressions over the cells alone
  record AreOver (lists : CarriedLists) : Type 0 where
    present : AllByRecursion Over lists.present
    all : AllByRecursion Over lists.all

  new_over : (e : Expr) (es : List Expr) → Over e → AllByRecursion Over es
      → AllByRecursion Over (with_new e es)
  new_over e es one are = by (list_any (same_expr e) es)
    where
      by : (b : Bool) → AllByRecursion Over (if b then es else es ++ e ∷ [])
      by true = are
      by false = AllByRecursion-push Over es e are one

  both_over : (e : Expr) (lists : CarriedLists) → Over e → AreOver lists
      → AreOver (with_both e lists)
  both_over e lists one are = by (reads_some e)
    where
      by : (b : Bool) → AreOver (if b
          then record { present = with_new e lists.present; all = with_new e lists.all }
          else lists)
      by true = record {
        present = new_over e lists.present one are.present;
        all = new_over e lists.all one are.all;
      }
      by false = are

  small_over : (e : Expr) (lists : CarriedLists) → IsTyped (types_of cfa.cells) e
      → AreOver lists → AreOver (with_small e lists)
  small_over e lists typed are = by (nat_le (size e) 200) (nat_le (height e) 100) refl
    where
      by : (a b : Bool) → nat_le (height e) 100 ≡ b
          → AreOver (if a && b then with_both e lists else lists)
      by true true is =
          let low = leb-true (height e) 100 is in
          both_over e lists (record { typed = typed; height = omega (arith, low) }) are
      by true false is = are
      by false b is = are

  replaced_over : (cell : ℕ) (value : Expr) (es : List Expr) (lists : CarriedLists) → Over value
      → slice_get (types_of cfa.cells) cell ≡ Some (type_of value) → AllByRecursion Over es
      → AreOver lists → AreOver (with_replaced cell value es lists)
  replaced_over cell value [] lists v at each are = are
  replaced_over cell value (e ∷ es) lists v at each are =
      replaced_over cell value es (with_small (replaced e cell value) lists) v at each.1
      (small_over (replaced e cell value) lists
      (to_replace_keeps_types.typed (types_of cfa.cells) e cell value each.0.typed v.typed at) are)

  kept_over : (test : Expr → Bool) (es : List Expr) → AllByRecursion Over es
      → AllByRecursion Over (filter test es)
  kept_over test [] each = tt
  kept_over test (e ∷ es) each = by (test e) (kept_over test es each.1)
    where
      by : (b : Bool) → AllByRecursion Over (filter test es)
          → AllByRecursion Over (if b then e ∷ filter test es else filter test es)
      by true rest = (each.0, rest)
      by false rest = rest

  act_over : (a : Act) (lists : CarriedLists) → IsActOf cfa a → AreOver lists
      → AreOver (carried_over a lists)
  act_over act.Skip lists is are = are
  act_over (act.Assign base len index value) lists is are = by (is_scalar len index)
    where
      left : (n : ℕ) → AreOver (without base n lists)
      left n = record { present = kept_over _ lists.present are.present; all = are.all }

      first : 0 ≤ len → slice_get (types_of cfa.cells) base ≡ Some (type_of value)
      first some = subst (λ (k : ℕ). slice_get (types_of cfa.cells) k ≡ Some (type_of value))
          (omega arith) (is.3 0 (let long = is.0 in omega (arith, long)))

      by : (b : Bool) → AreOver (if b
          then with_replaced base value (reading base 1 lists) (without base 1 lists)
          else without base len lists)
      by true =
          replaced_over base value (reading base 1 lists) (without base 1 lists) is.2
          (first (omega arith)) (kept_over (reads_among base 1) lists.present are.present) (left 1)
      by false = left len
  act_over (act.Assume test holds) lists is are = both_over test lists is are
  act_over (act.Input cell) lists is are =
      record { present = kept_over _ lists.present are.present; all = are.all }
  act_over (act.Call site) lists is are = are
  act_over (act.Return site) lists is are = are

  along_over : IsAutomaton cfa → (edges : List ℕ) → AreOver (carried_along (acts_along cfa edges))
  along_over a [] = record { present = tt; all = tt }
  along_over a (n ∷ edges) = by (slice_get cfa.edges n) refl (along_over a edges)
    where
      by : (o : Option Edge) → slice_get cfa.edges n ≡ o
          → AreOver (carried_along (acts_along cfa edges))
          → AreOver (carried_along (act_of o ++ acts_along cfa edges))
      by None at rest = rest
      by (Some g) at rest =
          act_over g.act (carried_along (acts_along cfa edges)) (edge_sound cfa n g a at).act rest

pub carried_are_expressions : CarriedAreExpressions
carried_are_expressions cfa path a = (along_over cfa a path.edges).all
