-- One edge of a path without inputs, by its store: it leads on (`stores_on`), or no stores do
-- (`stores_stop`).
use Rattle.std.proofs.Common.{◌≡◌, ℕ, ℤ, List, [], ◌∷◌, ◌++◌, map, Bool, true, false, Option, Some}
use Rattle.std.proofs.Common.{◌+◌, pos, slice_get, slice_set, refl, sym, ap, ◌∙◌, subst}
use Rattle.std.proofs.lemmas.Option.{same_Some}
use Rattle.std.specs.List.{list_any}
use Rattle.std.specs.Prelude.{◌↔◌, ◌||◌}
use Rattle.cpa_model.specs.declared.automaton.Act.{Act}
use Rattle.cpa_model.specs.declared.automaton.Act.TheVariants as act
use Rattle.cpa_model.specs.declared.automaton.Edge.{Edge}
use Rattle.cpa_model.specs.declared.automaton.Cfa.{Cfa}
use Rattle.cpa_model.specs.declared.program.Cell.{Cell}
use Rattle.cpa_model.specs.Steps.{StepsStore}
use Rattle.cpa_form_rules.specs.Runs.{taken, Runs, StepsWith}
use Rattle.cpa_path.specs.Paths.{added_along, is_input, has_input}
use Rattle.cpa_folds.specs.Along.{act_of, acts_along}

-- without inputs a step is one of the store, and leads to one store
settled_step : (cells : List Cell) (a : Act) (old own new : List ℤ) → is_input a ≡ false
    → StepsWith cells a old own new → (own ≡ []) × StepsStore cells a old new
settled_step cells act.Skip old own new settles h = h
settled_step cells (act.Assign base len index value) old own new settles h = h
settled_step cells (act.Assume test holds) old own new settles h = h
settled_step cells (act.Input cell) old own new settles h = absurd (cc)
settled_step cells (act.Call site) old own new settles h = h
settled_step cells (act.Return site) old own new settles h = h

with_none : (cells : List Cell) (a : Act) (old new : List ℤ) → is_input a ≡ false
    → StepsStore cells a old new → StepsWith cells a old [] new
with_none cells act.Skip old new settles h = (refl, h)
with_none cells (act.Assign base len index value) old new settles h = (refl, h)
with_none cells (act.Assume test holds) old new settles h = (refl, h)
with_none cells (act.Input cell) old new settles h = absurd (cc)
with_none cells (act.Call site) old new settles h = (refl, h)
with_none cells (act.Return site) old new settles h = (refl, h)

one_store : (cells : List Cell) (a : Act) (old xs ys : List ℤ) → is_input a ≡ false
    → StepsStore cells a old xs → StepsStore cells a old ys → xs ≡ ys
one_store cells act.Skip old xs ys settles x y = x ∙ sym y
one_store cells (act.Assign base len index value) old xs ys settles x y =
    let p = same_Some (pos x.place) (pos y.place) (sym x.index_is ∙ y.index_is) in
    let place : x.place ≡ y.place = cc (p) in
    let written = same_Some x.written y.written (sym x.value_is ∙ y.value_is) in
    x.after ∙ ap (λ (k : ℕ). slice_set old (base + k) x.written) place
    ∙ ap (slice_set old (base + y.place)) written ∙ sym y.after
one_store cells (act.Assume test holds) old xs ys settles x y = x.1 ∙ sym y.1
one_store cells (act.Input cell) old xs ys settles x y = absurd (cc)
one_store cells (act.Call site) old xs ys settles x y = x ∙ sym y
one_store cells (act.Return site) old xs ys settles x y = x ∙ sym y

module _ (cfa : Cfa) (n : ℕ) (ns : List ℕ) (g : Edge) (at : slice_get cfa.edges n ≡ Some g) where
  -- the stores along the edge that a place holds, and along those behind it
  abbrev RunsPast : List ℤ → List ℤ → List ℤ → Option Edge → Type 0
  RunsPast old inputs last o =
      Runs cfa.cells (map taken (act_of o ++ acts_along cfa ns)) old inputs last

  pub stores_on : (old new inputs last : List ℤ) → is_input g.act ≡ false
      → StepsStore cfa.cells g.act old new
      → Runs cfa.cells (added_along cfa ns) new inputs last
      ↔ Runs cfa.cells (added_along cfa (n ∷ ns)) old inputs last
  stores_on old new inputs last settles step = (
    λ rest. subst (RunsPast old inputs last) (sym at)
        (new, [], inputs, with_none cfa.cells g.act old new settles step, refl, rest),
    λ all.
        let (next, own, others, meets, split, rest) = subst (RunsPast old inputs last) at all in
        let by = settled_step cfa.cells g.act old own next settles meets in
        let same = one_store cfa.cells g.act old next new settles by.1 step in
        let inputs_are : inputs ≡ others = split ∙ ap (λ (xs : List ℤ). xs ++ others) by.0 in
        subst (λ (xs : List ℤ). Runs cfa.cells (added_along cfa ns) new xs last) (sym inputs_are)
        (subst (λ (xs : List ℤ). Runs cfa.cells (added_along cfa ns) xs others last) same rest),
  )

  pub stores_stop : (old inputs last : List ℤ) → is_input g.act ≡ false
      → ((new : List ℤ) → StepsStore cfa.cells g.act old new → ⊥)
      → Runs cfa.cells (added_along cfa (n ∷ ns)) old inputs last → ⊥
  stores_stop old inputs last settles none all =
      let (next, own, others, meets, split, rest) = subst (RunsPast old inputs last) at all in
      none next (settled_step cfa.cells g.act old own next settles meets).1

  -- what is left has no input either
  pub no_input : has_input cfa (n ∷ ns) ≡ false → (is_input g.act ≡ false)
      × (has_input cfa ns ≡ false)
  no_input none =
      or_false (is_input g.act) (has_input cfa ns)
      (ap (λ (o : Option Edge). list_any is_input (act_of o ++ acts_along cfa ns)) (sym at) ∙ none)
    where
      or_false : (x y : Bool) → (x || y) ≡ false → (x ≡ false) × (y ≡ false)
      or_false true y none = absurd (cc)
      or_false false y none = (refl, none)
