-- What an edge or an element reads is there.
use Rattle.std.proofs.Common.{ℕ, zero, suc, ◌+◌, ◌-◌, ◌<◌, ◌≤◌, ◌^◌, IsTrue, List, [], ◌∷◌}
use Rattle.std.proofs.Common.{length, slice_get, arith, inl, inr}
use Rattle.std.specs.Prelude.{IsSomeAnd}
use Rattle.std.specs.List.{AllByRecursion}
use Rattle.std.proofs.lemmas.Bool.Decides.{nat_tests}
use Rattle.std.proofs.lemmas.List.{length-map}
use Rattle.std.proofs.lemmas.Option.{slice_get_within}
use Rattle.cpa_expr.specs.declared.tree.Expr.{Expr}
use Rattle.cpa_expr.specs.Shape.{type_of, IsTyped}
use Rattle.cpa_expr.specs.Cells.{is_within, may_read}
use Rattle.cpa_model.specs.declared.program.Cell.{Cell}
use Rattle.cpa_model.specs.declared.automaton.Act.{Act}
use Rattle.cpa_model.specs.declared.automaton.Act.TheVariants as act
use Rattle.cpa_facts.specs.declared.fact.Fact.{Fact}
use Rattle.cpa_facts.specs.declared.fact.Fact.TheVariants.{At, Stack, Equals, Within, Truth}
use Rattle.cpa_model.specs.Expressions.{types_of}
use Rattle.cpa_model.specs.Facts.{IsFact}
use Rattle.cpa_form_renaming.specs.Laws.{cells_behind_change_nothing}
use Rattle.cpa_form_rules.specs.Runs.{Added, taken, holding, failing}
use Rattle.cpa_form_rules.specs.Reading.{ActReads, SomeReads, AddedReads}
use Rattle.cpa_form_rules.specs.lemmas.Formed.{ActFits, AddedFits}
use Rattle.cpa_interpolant_cuts.specs.Touching.{IsGone}

some_within : {A : Type 0} (P : A → Type 0) (xs : List A) (i : ℕ)
    → IsSomeAnd (slice_get xs i) P → i < length xs
some_within P [] i h = absurd h
some_within P (x ∷ xs) zero h = omega arith
some_within P (x ∷ xs) (suc i) h = let rest = some_within P xs i h in omega (arith, rest)

module _ (cells : List Cell) (points : ℕ) (few : length (types_of cells) < 2 ^ 63) where
  expr_inside : (e : Expr) (cell : ℕ) → IsTyped (types_of cells) e → IsTrue (may_read e cell)
      → cell < length cells
  expr_inside e cell typed h =
      let long = length-map cells (λ (c : Cell). c.ty) in
      let inside = cells_behind_change_nothing.inside (types_of cells) cell e typed h in
      omega (arith, long, inside)

  act_inside : (a : Act) (cell : ℕ) → ActFits cells points few a → ActReads a cell
      → cell < length cells
  act_inside act.Skip cell is h = absurd h
  act_inside (act.Assign base len index value) cell is (inl h) =
      expr_inside index cell is.1.typed h
  act_inside (act.Assign base len index value) cell is (inr (inl h)) =
      expr_inside value cell is.2.typed h
  act_inside (act.Assign base len index value) cell is (inr (inr (more, within))) =
      let long = length-map cells (λ (c : Cell). c.ty) in
      let from = above base len cell within in
      let inside = slice_get_within (types_of cells) (base + (cell - base)) (type_of value)
      (is.3 (cell - base) from.1) in
      omega (arith, long, inside, from.0)
    where
      above : (base len cell : ℕ) → IsTrue (is_within base len cell)
          → (base ≤ cell) × (cell - base < len)
      above base len cell h =
          let low : base ≤ cell = grind (arith, nat_tests, h) in
          let high : cell < base + len = grind (arith, nat_tests, h) in
          (low, omega (arith, low, high))
  act_inside (act.Assume test holds) cell is h = expr_inside test cell is.typed h
  act_inside (act.Input own) cell is h = absurd h
  act_inside (act.Call site) cell is h = absurd h
  act_inside (act.Return site) cell is h = absurd h

  facts_inside : (facts : List Fact) (cell : ℕ) → AllByRecursion (IsFact cells points) facts
      → SomeReads facts cell → cell < length cells
  facts_inside [] cell is h = absurd h
  facts_inside (fact ∷ facts) cell is (inr h) = facts_inside facts cell is.1 h
  facts_inside (At point ∷ facts) cell is (inl h) = absurd h
  facts_inside (Stack sites ∷ facts) cell is (inl h) = absurd h
  facts_inside (Equals own value ∷ facts) cell is (inl h) =
      let inside = some_within _ cells own is.0 in omega (arith, inside, h)
  facts_inside (Within own lo hi ∷ facts) cell is (inl h) =
      let inside = some_within _ cells own is.0.0 in omega (arith, inside, h)
  facts_inside (Truth e holds ∷ facts) cell is (inl h) = expr_inside e cell is.0.typed h

  pub reads_inside : (one : Added) (cell : ℕ) → IsGone one → AddedFits cells points few one
      → AddedReads one cell → cell < length cells
  reads_inside (taken a) cell gone is h = act_inside a cell is h
  reads_inside (holding elem) cell gone is h = facts_inside elem.facts cell is h
  reads_inside (failing elems) cell gone is h = absurd gone
