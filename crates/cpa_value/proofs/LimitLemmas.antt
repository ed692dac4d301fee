-- What facts and entries give the cells, as far as a loop has come.
use Rattle.std.proofs.Common.{◌≡◌, ℕ, ◌<◌, ℤ, List, [], ◌∷◌, refl, sym, ap, ◌∙◌, subst, length}
use Rattle.std.proofs.Common.{cond}
use Rattle.std.specs.Prelude.{zero, suc, nat_le, replicate, slice_get}
use Rattle.std.specs.List.{AllByRecursion, filter, slice_index_or}
use Rattle.std.proofs.lemmas.Option.{slice_get_within}
use Rattle.cpa_ints.specs.Integers.{IsInRange}
use Rattle.cpa_model.specs.declared.program.Cell.{Cell}
use Rattle.cpa_facts.specs.declared.fact.Fact.{Fact}
use Rattle.cpa_facts.specs.declared.fact.Fact.TheVariants.{At, Stack, Equals, Within, Truth}
use Rattle.cpa_model.specs.Facts.{IsFact}
use Rattle.cpa_model.specs.declared.facts.Elem.{Elem}
use Rattle.cpa_iface.specs.declared.entries.Entry.{Entry}
use Rattle.cpa_value.specs.Limits.{is_kept, seen_in, seen_along, seen, IsOfCell}
use Rattle.cpa_value.proofs.StoreLemmas.{some_and}

-- for each cell, what is left gives what the whole gives, where a function for each cell stands for
-- either
pub record Notes (whole left : ℕ → List ℤ → List ℤ) (first now : List (List ℤ)) : Type 0 where
  pub long : length now ≡ length first
  pub same : (cell : ℕ) → cell < length first
      → whole cell (slice_index_or first cell []) ≡ left cell (slice_index_or now cell [])

-- no value of any cell
pub none_noted : (n cell : ℕ) → slice_index_or
    (replicate n (let none : List ℤ = [] in none)) cell [] ≡ []
none_noted zero cell = refl
none_noted (suc n) zero = refl
none_noted (suc n) (suc cell) = none_noted n cell

-- a shaped fact gives a value to no cell but those of the automaton
pub shaped_of_cells : (cells : List Cell) (points : ℕ) (fs : List Fact)
    → AllByRecursion (IsFact cells points) fs → AllByRecursion (IsOfCell (length cells)) fs
shaped_of_cells cells points [] all = tt
shaped_of_cells cells points (At p ∷ fs) all = (tt, shaped_of_cells cells points fs all.1)
shaped_of_cells cells points (Stack s ∷ fs) all = (tt, shaped_of_cells cells points fs all.1)
shaped_of_cells cells points (Equals c v ∷ fs) all =
    let it = some_and (λ (x : Cell). IsInRange x.ty v) (slice_get cells c) all.0 in
    (slice_get_within cells c it.0 it.1, shaped_of_cells cells points fs all.1)
shaped_of_cells cells points (Within c lo hi ∷ fs) all = (tt, shaped_of_cells cells points fs all.1)
shaped_of_cells cells points (Truth e h ∷ fs) all = (tt, shaped_of_cells cells points fs all.1)

-- what is kept depends on the cells of the facts alone
pub kept_alike : (limit n : ℕ) (f g : ℕ → List ℤ) (fs : List Fact)
    → ((cell : ℕ) → cell < n → f cell ≡ g cell) → AllByRecursion (IsOfCell n) fs
    → filter (is_kept limit f) fs ≡ filter (is_kept limit g) fs
kept_alike limit n f g [] same all = refl
kept_alike limit n f g (At p ∷ fs) same all =
    ap (λ l. At p ∷ l) (kept_alike limit n f g fs same all.1)
kept_alike limit n f g (Stack s ∷ fs) same all =
    ap (λ l. Stack s ∷ l) (kept_alike limit n f g fs same all.1)
kept_alike limit n f g (Equals c v ∷ fs) same all =
    let rest = kept_alike limit n f g fs same all.1 in
    ap (λ vs. cond (nat_le (length vs) limit) (Equals c v ∷ filter (is_kept limit f) fs)
    (filter (is_kept limit f) fs)) (same c all.0)
    ∙ ap (λ l. cond (nat_le (length (g c)) limit) (Equals c v ∷ l) l) rest
kept_alike limit n f g (Within c lo hi ∷ fs) same all =
    ap (λ l. Within c lo hi ∷ l) (kept_alike limit n f g fs same all.1)
kept_alike limit n f g (Truth e h ∷ fs) same all =
    ap (λ l. Truth e h ∷ l) (kept_alike limit n f g fs same all.1)

-- the facts that are kept by the noted values are those that are kept by the values that are seen
pub kept_by_noted : (limit : ℕ) (e : Elem) (reached : List Entry) (place : ℕ)
    (none own all : List (List ℤ))
    → ((cell : ℕ) → slice_index_or none cell [] ≡ [])
    → AllByRecursion (IsOfCell (length none)) e.facts → length own ≡ length none
    → ((cell : ℕ) → cell < length none
    → slice_index_or own cell [] ≡ seen_in cell e.facts (slice_index_or none cell []))
    → ((cell : ℕ) → cell < length own
    → slice_index_or all cell [] ≡ seen_along cell place reached (slice_index_or own cell []))
    → filter (is_kept limit (λ cell. slice_index_or all cell [])) e.facts
    ≡ filter (is_kept limit (seen e reached place)) e.facts
kept_by_noted limit e reached place none own all empty inside long first later =
    kept_alike limit (length none) (λ cell. slice_index_or all cell [])
    (seen e reached place) e.facts
    (λ cell less. later cell (subst (λ n. cell < n) (sym long) less)
    ∙ ap (seen_along cell place reached) (first cell less ∙ ap (seen_in cell e.facts) (empty cell)))
    inside
