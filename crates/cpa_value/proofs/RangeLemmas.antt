-- Known values lie in the ranges of their cells, and stay there.
use Rattle.std.proofs.Common.{◌≡◌, ℕ, ◌+◌, ◌≤◌, ℤ, pos, Bool, true, false, List, [], ◌∷◌, refl, sym}
use Rattle.std.proofs.Common.{subst, arith, cond, map, length}
use Rattle.std.specs.Prelude.{zero, suc, ◌==◌, Option, None, Some, Ok, slice_get, slice_set, IfSome}
use Rattle.std.specs.List.{AllByRecursion, AllZip, range_with_len, slice_index_or}
use Rattle.std.proofs.lemmas.Bool.{cond_both}
use Rattle.std.proofs.lemmas.Int.{ints}
use Rattle.std.proofs.lemmas.Bool.Decides.{Decides-eqb}
use Rattle.cpa_ints.specs.declared.integers.IntType.{IntType}
use Rattle.cpa_ints.specs.declared.integers.IntType.TheVariants as ty
use Rattle.cpa_ints.specs.Integers.{IsInRange}
use Rattle.cpa_expr.specs.declared.tree.Expr.{Expr}
use Rattle.cpa_expr.specs.Cells.{AreValues}
use Rattle.cpa_expr.specs.Shape.{type_of, IsTyped}
use Rattle.cpa_expr.specs.Values.{value_of}
use Rattle.cpa_expr.specs.Laws.{values_lie_in_range}
use Rattle.cpa_model.specs.declared.program.Cell.{Cell}
use Rattle.cpa_facts.specs.declared.fact.Fact.{Fact}
use Rattle.cpa_facts.specs.declared.fact.Fact.TheVariants.{At, Stack, Equals, Within, Truth}
use Rattle.cpa_model.specs.Expressions.{types_of}
use Rattle.cpa_model.specs.Facts.{IsFact, IsValueOf}
use Rattle.cpa_value_changes.specs.KnownValues.{known_value}
use Rattle.cpa_value_changes.specs.Acts.{forgotten}
use Rattle.cpa_value_changes.specs.Cells.{first_value, known_cells}
use Rattle.cpa_value.specs.Cells.{facts_from}
use Rattle.cpa_value.proofs.KnownLemmas.{Agrees, AgreeCells, known_agrees}

-- each known value lies in the range of its cell, and there is a place for each cell
abbrev pub AreKnown : List Cell → List (Option ℤ) → Type 0
AreKnown = AllZip (λ c o. IfSome o (IsInRange c.ty))

pub known_in_cell : (cs : List Cell) (os : List (Option ℤ)) (i : ℕ) (v : ℤ) → AreKnown cs os
    → slice_index_or os i None ≡ Some v → IsValueOf cs i v
known_in_cell [] [] i v all is = absurd (cc)
known_in_cell [] (o ∷ os) i v all is = absurd all
known_in_cell (c ∷ cs) [] i v all is = absurd all
known_in_cell (c ∷ cs) (o ∷ os) zero v all is = subst (λ x. IfSome x (IsInRange c.ty)) is all.0
known_in_cell (c ∷ cs) (o ∷ os) (suc i) v all is = known_in_cell cs os i v all.1 is

pub AreKnown-set : (cs : List Cell) (os : List (Option ℤ)) (k : ℕ) (o : Option ℤ) → AreKnown cs os
    → IfSome o (IsValueOf cs k) → AreKnown cs (slice_set os k o)
AreKnown-set [] [] k o all is = tt
AreKnown-set [] (x ∷ os) k o all is = absurd all
AreKnown-set (c ∷ cs) [] k o all is = absurd all
AreKnown-set (c ∷ cs) (x ∷ os) zero o all is = (is, all.1)
AreKnown-set (c ∷ cs) (x ∷ os) (suc k) o all is = (all.0, AreKnown-set cs os k o all.1 is)

pub AreKnown-forgotten : (cs : List Cell) (os : List (Option ℤ)) (base len : ℕ) → AreKnown cs os
    → AreKnown cs (forgotten base len os)
AreKnown-forgotten cs os base zero all = all
AreKnown-forgotten cs os base (suc len) all =
    AreKnown-set cs (forgotten base len os) (base + len) None
    (AreKnown-forgotten cs os base len all) tt

-- the places of a list of values of cells
mapped_known : (cs : List Cell) (f : ℕ → Option ℤ) (k : ℕ)
    → ((i j : ℕ) (v : ℤ) → k + i ≡ j → f j ≡ Some v → IsValueOf cs i v)
    → AreKnown cs (map f (range_with_len k (length cs)))
mapped_known [] f k each = tt
mapped_known (c ∷ cs) f k each = (
  first (f k) (λ v is. each 0 k v (omega arith) is),
  mapped_known cs f (k + 1) (λ i j v at is. each (suc i) j v (omega (arith, at)) is),
) where
  first : (o : Option ℤ) → ((v : ℤ) → o ≡ Some v → IsInRange c.ty v) → IfSome o (IsInRange c.ty)
  first None each = tt
  first (Some v) each = each v refl

first_shaped : (cells : List Cell) (points : ℕ) (fs : List Fact) (cell : ℕ) (v : ℤ)
    → AllByRecursion (IsFact cells points) fs → first_value fs cell ≡ Some v
    → IsValueOf cells cell v
first_shaped cells points [] cell v all is = absurd (cc)
first_shaped cells points (At p ∷ fs) cell v all is = first_shaped cells points fs cell v all.1 is
first_shaped cells points (Stack s ∷ fs) cell v all is =
    first_shaped cells points fs cell v all.1 is
first_shaped cells points (Equals own w ∷ fs) cell v all is =
    by (own == cell) refl (first_shaped cells points fs cell v all.1) is where
      by : (b : Bool) → (own == cell) ≡ b → (first_value fs cell ≡ Some v → IsValueOf cells cell v)
          → cond b (Some w) (first_value fs cell) ≡ Some v → IsValueOf cells cell v
      by true same later is = let here : own ≡ cell = (Decides-eqb own cell).0 same in
          let value : w ≡ v = cc in subst (IsValueOf cells cell) value
          (subst (λ k. IsValueOf cells k w) here all.0)
      by false other later is = later is
first_shaped cells points (Within c lo hi ∷ fs) cell v all is =
    first_shaped cells points fs cell v all.1 is
first_shaped cells points (Truth e h ∷ fs) cell v all is =
    first_shaped cells points fs cell v all.1 is

-- what a shaped element says of the cells
pub shaped_known : (cells : List Cell) (points : ℕ) (fs : List Fact)
    → AllByRecursion (IsFact cells points) fs → AreKnown cells (known_cells (length cells) fs)
shaped_known cells points fs all = mapped_known cells (first_value fs) 0 (λ i j v at is.
    let here : j ≡ i = omega (arith, at) in
    subst (λ k. IsValueOf cells k v) here (first_shaped cells points fs j v all is))

-- the store of the known values, and of the starts of the other cells
completed : List Cell → List (Option ℤ) → List ℤ
completed [] os = []
completed (c ∷ cs) [] = c.start ∷ completed cs []
completed (c ∷ cs) (None ∷ os) = c.start ∷ completed cs os
completed (c ∷ cs) (Some v ∷ os) = v ∷ completed cs os

completed_values : (cs : List Cell) (os : List (Option ℤ))
    → AllByRecursion (λ c. IsInRange c.ty c.start) cs → AreKnown cs os
    → AreValues (types_of cs) (completed cs os)
unfolding completed
completed_values [] [] starts all = tt
completed_values [] (o ∷ os) starts all = absurd all
completed_values (c ∷ cs) [] starts all = absurd all
completed_values (c ∷ cs) (None ∷ os) starts all = (starts.0, completed_values cs os starts.1 all.1)
completed_values (c ∷ cs) (Some v ∷ os) starts all = (all.0, completed_values cs os starts.1 all.1)

completed_agrees : (cs : List Cell) (os : List (Option ℤ)) → AreKnown cs os
    → AgreeCells os (completed cs os)
unfolding completed
completed_agrees [] [] all cell v is = absurd (cc)
completed_agrees [] (o ∷ os) all cell v is = absurd all
completed_agrees (c ∷ cs) [] all cell v is = absurd all
completed_agrees (c ∷ cs) (None ∷ os) all zero v is = absurd (cc)
completed_agrees (c ∷ cs) (None ∷ os) all (suc cell) v is = completed_agrees cs os all.1 cell v is
completed_agrees (c ∷ cs) (Some w ∷ os) all zero v is = is
completed_agrees (c ∷ cs) (Some w ∷ os) all (suc cell) v is = completed_agrees cs os all.1 cell v is

-- a known value of a well-typed expression lies in the range of its type
pub known_in_range : (cs : List Cell) (os : List (Option ℤ)) (e : Expr) (v : ℤ)
    → AllByRecursion (λ c. IsInRange c.ty c.start) cs → AreKnown cs os
    → IsTyped (types_of cs) e → known_value e os ≡ Ok v → IsInRange (type_of e) v
known_in_range cs os e v starts all typed is =
    let store = completed cs os in
    let agrees : value_of e store ≡ Some v =
    subst (λ k. Agrees k (value_of e store)) is
    (known_agrees os store (completed_agrees cs os all) e) in
    let lies : IfSome (value_of e store) (IsInRange (type_of e)) =
    values_lie_in_range (types_of cs) e store typed (completed_values cs os starts all) in
    subst (λ o. IfSome o (IsInRange (type_of e))) agrees lies

-- a type of a cell, and a value of the type
pub typed_cell : (cs : List Cell) (k : ℕ) (t : IntType) (v : ℤ) → slice_get (types_of cs) k ≡ Some t
    → IsInRange t v → IsValueOf cs k v
typed_cell [] k t v at within = absurd (cc)
typed_cell (c ∷ cs) zero t v at within = let same : c.ty ≡ t = cc in
    subst (λ u. IsInRange u v) (sym same) within
typed_cell (c ∷ cs) (suc k) t v at within = typed_cell cs k t v at within

-- every type has the value 0
pub zero_in_range : (t : IntType) → IsInRange t (pos 0)
zero_in_range ty.Bool = (omega (arith, ints), omega (arith, ints))
zero_in_range ty.I8 = (omega (arith, ints), omega (arith, ints))
zero_in_range ty.U8 = (omega (arith, ints), omega (arith, ints))
zero_in_range ty.I16 = (omega (arith, ints), omega (arith, ints))
zero_in_range ty.U16 = (omega (arith, ints), omega (arith, ints))
zero_in_range ty.I32 = (omega (arith, ints), omega (arith, ints))
zero_in_range ty.U32 = (omega (arith, ints), omega (arith, ints))
zero_in_range ty.I64 = (omega (arith, ints), omega (arith, ints))
zero_in_range ty.U64 = (omega (arith, ints), omega (arith, ints))

-- what holds of the fact of each known cell holds of all facts of the cells
pub facts_all : (P : Fact → Type 0) (tracked : ℕ → Bool) (n : ℕ) (os : List (Option ℤ))
    → ((i j : ℕ) (v : ℤ) → n + i ≡ j → slice_index_or os i None ≡ Some v → P (Equals j v))
    → AllByRecursion P (facts_from tracked n os)
facts_all P tracked n [] each = tt
facts_all P tracked n (None ∷ os) each =
    facts_all P tracked (n + 1) os (λ i j v at is. each (suc i) j v (omega (arith, at)) is)
facts_all P tracked n (Some v ∷ os) each =
    let later = facts_all P tracked (n + 1) os
    (λ i j w at is. each (suc i) j w (omega (arith, at)) is) in
    cond_both (tracked n) (Equals n v ∷ facts_from tracked (n + 1) os)
    (facts_from tracked (n + 1) os) (AllByRecursion P)
    (λ _. (each 0 n v (omega arith) refl, later)) (λ _. later)

-- there are no more facts than cells
pub facts_few : (tracked : ℕ → Bool) (n : ℕ) (os : List (Option ℤ))
    → length (facts_from tracked n os) ≤ length os
facts_few tracked n [] = omega arith
facts_few tracked n (None ∷ os) = let less : length (facts_from tracked (n + 1) os) ≤ length os =
    facts_few tracked (n + 1) os in omega arith
facts_few tracked n (Some v ∷ os) =
    let less : length (facts_from tracked (n + 1) os) ≤ length os = facts_few tracked (n + 1) os in
    cond_both (tracked n) (Equals n v ∷ facts_from tracked (n + 1) os)
    (facts_from tracked (n + 1) os) (λ l. length l ≤ length (Some v ∷ os))
    (λ _. omega arith) (λ _. omega arith)
