-- What a call reads, seen from a form of any earlier time.
use Rattle.std.proofs.Common.{◌≡◌, ℕ, ◌<◌, ◌≤◌, ◌++◌, ◌^◌, Bool, IsTrue, List, [], ◌∷◌, length}
use Rattle.std.proofs.Common.{refl, sym, ◌∙◌, subst, arith, ◌⊎◌, inl, inr}
use Rattle.std.specs.List.{AllByRecursion}
use Rattle.std.proofs.lemmas.List.{append_cancel_left}
use Rattle.cpa_expr.specs.declared.tree.Expr.{Expr}
use Rattle.cpa_expr.specs.Cells.{may_read}
use Rattle.cpa_model.specs.declared.program.Cell.{Cell}
use Rattle.cpa_model.specs.Expressions.{types_of}
use Rattle.cpa_form_rules.specs.Runs.{Added}
use Rattle.cpa_form_rules.specs.Forms.{Form, with_added, form_from, place_now}
use Rattle.cpa_form_rules.specs.Reading.{AddedReads, IsNewOrPlace}
use Rattle.cpa_form_rules.specs.lemmas.Calls.{Fitted, front_long}
use Rattle.cpa_form_rules.specs.lemmas.Formed.{AddedFits, call_is}
use Rattle.cpa_form_rules.specs.lemmas.Readings.{Only}
use Rattle.cpa_form_rules.specs.lemmas.SettledReads.{PlaceOf, goes_on}
use Rattle.cpa_form_rules.specs.lemmas.CallReads.{call_reads}

-- what further calls leave of a form: no cell goes, and a place is new or is the one that it was
pub record Goes (cells : List Cell) (form last : Form) : Type 0 where
  pub fitted : Fitted cells last
  pub long : length form.query.cells ≤ length last.query.cells
  pub goes : (cell : ℕ) → (length form.query.cells ≤ place_now last cell)
      ⊎ (place_now last cell ≡ place_now form cell)

module _ (cells : List Cell) (points : ℕ) (few : length (types_of cells) < 2 ^ 63) where
  pub all_go : (form : Form) (later : List Added) → Fitted cells form
      → AllByRecursion (AddedFits cells points few) later
      → Goes cells form (form_from form later)
  all_go form [] fitted h = record {
    fitted = fitted;
    long = omega arith;
    goes = λ cell. inr refl;
  }
  all_go form (one ∷ later) fitted h =
      let next = with_added one form in
      let call = call_is cells points few one form h.0 fitted in
      let here = call_reads cells points few form fitted one h.0 in
      let rest = all_go next later call.fitted h.1 in
      let more = front_long form.query.cells next.query.cells call.longer in
      let long = rest.long in
      record {
        fitted = rest.fitted;
        long = omega (arith, more, long);
        goes = λ cell.
            goes_on (length form.query.cells) (place_now form cell) (place_now next cell)
            (place_now (form_from next later) cell) (here.goes cell)
            (lower (length form.query.cells) (length next.query.cells)
            (place_now (form_from next later) cell) (place_now next cell) more (rest.goes cell));
      }
    where
      lower : (n m k p : ℕ) → n ≤ m → (m ≤ k) ⊎ (k ≡ p) → (n ≤ k) ⊎ (k ≡ p)
      lower n m k p most (inl new) = inl (omega (arith, most, new))
      lower n m k p most (inr same) = inr same

  -- what a later call reads
  pub later_reads : (form : Form) (later : List Added) (one : Added) → Fitted cells form
      → AllByRecursion (AddedFits cells points few) later → AddedFits cells points few one
      → (wanted : List (Expr × Bool))
      → (with_added one (form_from form later)).query.wanted
      ≡ (form_from form later).query.wanted ++ wanted
      → AllByRecursion (λ (w : Expr × Bool). (number : ℕ) → IsTrue (may_read w.0 number)
      → IsNewOrPlace form one number) wanted
  later_reads form later one fitted h fits wanted are =
      let before = form_from form later in
      let gone = all_go form later fitted h in
      let call = call_reads cells points few before gone.fitted one fits in
      let same : call.wanted ≡ wanted =
      append_cancel_left before.query.wanted call.wanted wanted (sym call.wanted_are ∙ are) in
      subst (AllByRecursion (λ (w : Expr × Bool). (number : ℕ) → IsTrue (may_read w.0 number)
      → IsNewOrPlace form one number)) same (each before gone call.wanted call.reads)
    where
      at_form : (before : Form) → Goes cells form before → (number : ℕ)
          → (length before.query.cells ≤ number) ⊎ PlaceOf before.places (AddedReads one) number
          → IsNewOrPlace form one number
      at_form before gone number (inl new) =
          let long = gone.long in inl (omega (arith, long, new))
      at_form before gone number (inr (cell, reads, is)) =
          elim (gone.goes cell) [
            | inl new ↦ inl (omega (arith, new, is))
            | inr same ↦ inr (cell, reads, is ∙ same)
          ]

      each : (before : Form) → Goes cells form before → (ws : List (Expr × Bool))
          → AllByRecursion (λ (w : Expr × Bool). Only (length before.query.cells)
          (PlaceOf before.places (AddedReads one)) w.0) ws
          → AllByRecursion (λ (w : Expr × Bool). (number : ℕ) → IsTrue (may_read w.0 number)
          → IsNewOrPlace form one number) ws
      each before gone [] k = tt
      each before gone (w ∷ ws) k =
          (λ number read. at_form before gone number (k.0 number read), each before gone ws k.1)
