-- What settled places read, and where the places of cells go.
use Rattle.std.proofs.Common.{◌≡◌, ℕ, zero, suc, ◌+◌, ◌≤◌, Bool, true, false, IsTrue, List, [], ◌∷◌}
use Rattle.std.proofs.Common.{map, length, Some, slice_get, refl, sym, ap, ◌∙◌, arith, ◌⊎◌, inl}
use Rattle.std.proofs.Common.{inr, zero-add}
use Rattle.std.specs.Prelude.{if◌then◌else◌, slice_set}
use Rattle.std.specs.List.{AllByRecursion, list_all, range_with_len}
use Rattle.std.proofs.lemmas.List.{length-map}
use Rattle.std.proofs.lemmas.List.FromFn.{length-map-range_with_len}
use Rattle.cpa_ints.specs.declared.integers.IntType.{IntType}
use Rattle.cpa_expr.specs.declared.tree.Expr.{Expr}
use Rattle.cpa_expr.specs.Cells.{may_read}
use Rattle.cpa_expr.specs.lemmas.CellsRead.{or_left, or_right}
use Rattle.cpa_query.specs.Queries.{wanted_reads, reads}
use Rattle.cpa_form_renaming.specs.declared.places.Place.{Place}
use Rattle.cpa_form_renaming.specs.Places.{number_at}
use Rattle.cpa_form_renaming.specs.Renaming.{is_whole}
use Rattle.cpa_form_rules.specs.declared.drafts.Draft.{Draft}
use Rattle.cpa_form_rules.specs.Drafts.{Placed, placed, place_at, copied, asked_of, settled}
use Rattle.cpa_form_rules.specs.Drafts.{moved}
use Rattle.cpa_form_rules.specs.lemmas.Copies.{types_at}
use Rattle.cpa_form_rules.specs.lemmas.Wants.{Reads}
use Rattle.cpa_form_rules.specs.lemmas.Readings.{Drafted, AllRenamed, copied_only}
use Rattle.cpa_form_rules.specs.lemmas.Readings.{copied_places}
use Rattle.cpa_form_rules.specs.lemmas.Readings.{renamed_only}

-- a mark says that some expression reads the cell
unmarked : (f : ℕ → Bool) (a n i : ℕ) → slice_get (map f (range_with_len a n)) i ≡ Some true
    → IsTrue (f (a + i))
unmarked f a zero i is = absurd (cc)
unmarked f a (suc n) zero is = let here : f a ≡ true = cc in ap f (same a) ∙ here
  where
    same : (a : ℕ) → a + 0 ≡ a
    same a = omega arith
unmarked f a (suc n) (suc i) is = ap f (further a i) ∙ unmarked f (a + 1) n i is
  where
    further : (a i : ℕ) → a + suc i ≡ (a + 1) + i
    further a i = omega arith

-- the number is the place of a cell of P
abbrev pub PlaceOf : List Place → (ℕ → Type 0) → ℕ → Type 0
PlaceOf places P number = (cell : ℕ) × P cell × (number ≡ number_at places cell)

module _ (first : ℕ) (places : List Place) (P : ℕ → Type 0) where
  abbrev pub Named : ℕ → Type 0
  Named = PlaceOf places P

  -- what settled places and their draft read, and where the places go
  pub record SettledReads (at : Placed) : Type 0 where
    pub drafted : Drafted first Named at.draft
    pub goes : (cell : ℕ)
        → (first ≤ number_at at.places cell) ⊎ (number_at at.places cell ≡ number_at places cell)

  pub settled_reads : (asked : List (Expr × Bool)) (d : Draft) → Drafted first Named d
      → ((cell : ℕ) → IsTrue (wanted_reads asked cell) → P cell)
      → SettledReads (settled asked places d)
  settled_reads asked d drafted all =
      by (list_all (λ (one : Expr × Bool). is_whole places one.0) asked)
    where
      marks : List Bool
      marks = reads (asked_of places asked)

      long : length marks ≡ length places
      long = length-map-range_with_len (wanted_reads asked) 0 (length (types_at places))
          ∙ length-map places (λ p. p.ty)

      marked : (i : ℕ) → slice_get marks i ≡ Some true → Named (number_at places i)
      marked i is = (
        i,
        all i (ap (wanted_reads asked) (sym (zero-add i))
            ∙ unmarked (wanted_reads asked) 0 (length (types_at places)) i is),
        refl,
      )

      by : (b : Bool) → SettledReads (if b then placed d places else copied marks places d)
      by true = record { drafted = drafted; goes = λ cell. inr refl }
      by false = record {
        drafted = copied_only first Named marks places d marked drafted;
        goes = copied_places first Named marks places d drafted.behind long;
      }

  -- the place of a cell of P is new, or named
  pub new_or_named : (at : Placed) → SettledReads at → (cell : ℕ) → P cell
      → (first ≤ number_at at.places cell) ⊎ Named (number_at at.places cell)
  new_or_named at settles cell is =
      elim (settles.goes cell) [
        | inl new ↦ inl new
        | inr same ↦ inr (cell, is, same)
      ]

  -- expressions whose reads are in P, at settled places
  pub all_renamed : (at : Placed) (types : List IntType) → SettledReads at
      → (asked : List (Expr × Bool))
      → AllByRecursion (λ (one : Expr × Bool). Reads at.places types one.0) asked
      → ((cell : ℕ) → IsTrue (wanted_reads asked cell) → P cell)
      → AllRenamed first Named at.places asked
  all_renamed at types settles [] read all = tt
  all_renamed at types settles (one ∷ asked) read all = (
    renamed_only first Named at.places types one.0 read.0.readable (λ cell reads.
        new_or_named at settles cell
        (all cell (or_left (may_read one.0 cell) (wanted_reads asked cell) reads))),
    all_renamed at types settles asked read.1 (λ cell reads.
        all cell (or_right (may_read one.0 cell) (wanted_reads asked cell) reads)),
  )

-- ---- places that move

set_goes : (places : List Place) (i number : ℕ) (t : IntType) (cell : ℕ)
    → (number_at (slice_set places i (place_at number t)) cell ≡ number)
    ⊎ (number_at (slice_set places i (place_at number t)) cell ≡ number_at places cell)
set_goes [] i number t cell = inr refl
set_goes (p ∷ places) zero number t zero = inl refl
set_goes (p ∷ places) zero number t (suc cell) = inr refl
set_goes (p ∷ places) (suc i) number t zero = inr refl
set_goes (p ∷ places) (suc i) number t (suc cell) = set_goes places i number t cell

-- a place that is set at a new number
pub set_new : (first : ℕ) (places : List Place) (i number : ℕ) (t : IntType) (cell : ℕ)
    → first ≤ number
    → (first ≤ number_at (slice_set places i (place_at number t)) cell)
    ⊎ (number_at (slice_set places i (place_at number t)) cell ≡ number_at places cell)
set_new first places i number t cell new =
    elim (set_goes places i number t cell) [
      | inl is ↦ inl (omega (arith, new, is))
      | inr same ↦ inr same
    ]

pub moved_new : (first : ℕ) (places : List Place) (base number : ℕ) (t : IntType) (n cell : ℕ)
    → first ≤ number
    → (first ≤ number_at (moved base number t n places) cell)
    ⊎ (number_at (moved base number t n places) cell ≡ number_at places cell)
moved_new first places base number t zero cell new = inr refl
moved_new first places base number t (suc n) cell new =
    elim (set_new first (moved base number t n places) (base + n) (number + n) t cell
    (omega (arith, new))) [
      | inl above ↦ inl above
      | inr same ↦ elim (moved_new first places base number t n cell new) [
        | inl above ↦ inl (omega (arith, above, same))
        | inr kept ↦ inr (same ∙ kept)
      ]
    ]

-- one move after the other
pub goes_on : (first n m k : ℕ) → (first ≤ m) ⊎ (m ≡ n) → (first ≤ k) ⊎ (k ≡ m)
    → (first ≤ k) ⊎ (k ≡ n)
goes_on first n m k h (inl new) = inl new
goes_on first n m k (inl new) (inr same) = inl (omega (arith, new, same))
goes_on first n m k (inr kept) (inr same) = inr (same ∙ kept)
