-- The place lies behind the cells above, and not behind the one that is not.
use Rattle.std.proofs.Common.{◌≡◌, ℕ, ◌<◌, ◌-◌, Bool, true, false, not, List, length, inl, inr}
use Rattle.std.proofs.Common.{refl, sym, ◌∙◌, arith}
use Rattle.std.specs.Prelude.{IsTrue, slice_get}
use Rattle.std.proofs.lemmas.Bool.{cases_lt}
use Rattle.cpa_interval_bounds.specs.declared.table.CellBounds.{CellBounds}
use Rattle.cpa_interval_bounds.specs.Tables.{are_descending, is_above, place_in}
use Rattle.cpa_interval_bounds.specs.lemmas.TableLemmas.{behind_above, not_behind, place_within}
use Rattle.cpa_interval_bounds.proofs.table.is_place.Goals.{then-place-eq0, else-place-eq0}
use Rattle.cpa_interval_bounds.proofs.table.is_place.Goals as goal

first_place : (cell m : ℕ) (ks : List CellBounds) → m ≡ 0
    → is_above cell (slice_get ks m) ≡ false → m ≡ place_in cell ks
first_place cell m ks zero none =
    let within = place_within cell ks in elim (cases_lt m (length ks)) [
      | inl less ↦ let to = not_behind cell m ks less none in omega (arith, zero, to)
      | inr past ↦ omega (arith, zero, within, past)
    ]

later_place : (n cell m : ℕ) (ks : List CellBounds) → are_descending n ks ≡ true → 0 < m
    → is_above cell (slice_get ks (m - 1)) ≡ true → is_above cell (slice_get ks m) ≡ false
    → m ≡ place_in cell ks
later_place n cell m ks is some above none =
    let within = place_within cell ks in
    let behind = behind_above n cell (m - 1) ks is above in
    elim (cases_lt m (length ks)) [
      | inl less ↦ let to = not_behind cell m ks less none in omega (arith, some, behind, to)
      | inr past ↦ omega (arith, some, within, behind, past)
    ]

not_above : (b : Bool) → IsTrue (not b) → b ≡ false
not_above true none = absurd (cc)
not_above false none = refl

pub returns-then-is_from : goal.returns-then-is_from
returns-then-is_from c = λ none.
    let cell = c.args.cell in
    let place = c.args.place in
    let known = c.args.known.now in
    let past : is_above cell (slice_get known place) ≡ false =
    sym c.is_above.ensures ∙ not_above c.is_above.result none in
    elim c.if-place-eq0.branch [
      | then-place-eq0 w ↦ first_place cell place known w.if-place-eq0.true past
      | else-place-eq0 w ↦
          later_place c.args.count cell place known c.requires
          (omega (arith, w.if-place-eq0.false))
          (sym w.is_above-is_from.ensures ∙ (sym w.is_from-is ∙ c.if-is_from.true)) past
    ]
