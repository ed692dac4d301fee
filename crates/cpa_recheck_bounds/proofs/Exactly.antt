-- Where bounds determine what an expression reads, they determine its value, and so what an act
-- writes.
use Rattle.std.proofs.Common.{◌≡◌, ℕ, zero, suc, ℤ, Bool, true, false, not, ◌||◌, List}
use Rattle.std.proofs.Common.{[], ◌∷◌, length, refl, sym, ap, ◌∙◌, subst, arith}
use Rattle.std.specs.Prelude.{Option, None, Some, slice_get, slice_set, IsSomeAnd, IfSome, IsTrue}
use Rattle.std.specs.Prelude.{option_map}
use Rattle.std.proofs.lemmas.Int.{ints}
use Rattle.std.proofs.lemmas.Bool.Decides.{Decides-int_eq}
use Rattle.std.proofs.lemmas.Option.{slice_get-map, slice_get_within}
use Rattle.cpa_expr.specs.declared.tree.CmpOp.TheVariants as cmp
use Rattle.cpa_expr.specs.declared.tree.Expr.{Expr}
use Rattle.cpa_expr.specs.Cells.{may_read}
use Rattle.cpa_expr.specs.Laws.{DependsOnWhatIsRead}
use Rattle.cpa_expr.specs.Values.{is_nonzero, value_of}
use Rattle.cpa_interval_bounds.specs.declared.bounds.Bounds.{Bounds}
use Rattle.cpa_interval_bounds.specs.Bounds.{Has, only}
use Rattle.cpa_interval_bounds.specs.ExpressionBounds.{LieWithin}
use Rattle.cpa_interval_acts.specs.Cuts.{cut_at}
use Rattle.cpa_interval_acts.specs.lemmas.CutLemmas.{Lies, cut_lies}
use Rattle.cpa_interval_acts.specs.lemmas.ZipLemmas.{some_value}
use Rattle.cpa_recheck_bounds.specs.declared.exact.Written.{Written}
use Rattle.cpa_recheck_bounds.specs.Exact.{AreFixedBelow, HasIfThere, cut_written, has_one}
use Rattle.cpa_recheck_bounds.specs.Exact.{lows_of}

-- ---- values

no_value : (all : List Bounds) (store : List ℤ) (cell : ℕ) → LieWithin all store
    → slice_get all cell ≡ None → slice_get store cell ≡ None
no_value [] [] cell lie at = refl
no_value [] (v ∷ store) cell lie at = absurd lie
no_value (b ∷ all) [] cell lie at = absurd lie
no_value (b ∷ all) (v ∷ store) zero lie at = absurd (cc)
no_value (b ∷ all) (v ∷ store) (suc cell) lie at = no_value all store cell lie.1 at

read_then : (a b : Bool) → (not a || b) ≡ true → IsTrue a → b ≡ true
read_then true b is reads = is
read_then false b is reads = absurd (cc)

one_number : (b : Bounds) (o : Option ℤ) → b.lo ≡ b.hi → IsSomeAnd o (Has b) → o ≡ Some b.lo
one_number b None same h = absurd h
one_number b (Some v) same h =
    let low = h.low in
    let high = h.high in
    ap Some (omega (arith, ints, low, high, same))

module _ (e : Expr) (all : List Bounds) (store : List ℤ) (lie : LieWithin all store)
    (fixed : AreFixedBelow e all (length all)) where
  agrees : (cell : ℕ) → IsTrue (may_read e cell) → slice_get store cell ≡ slice_get
      (lows_of all) cell
  agrees cell reads = by (slice_get all cell) refl
    where
      by : (o : Option Bounds) → slice_get all cell ≡ o
          → slice_get store cell ≡ slice_get (lows_of all) cell
      by None at =
          no_value all store cell lie at
          ∙ sym (slice_get-map (λ (b : Bounds). b.lo) all cell
          ∙ ap (option_map (λ (b : Bounds). b.lo)) at)
      by (Some b) at =
          let is = fixed cell (slice_get_within all cell b at) in
          let one : has_one (Some b) ≡ true =
          subst (λ o. has_one o ≡ true) at
          (read_then (may_read e cell) (has_one (slice_get all cell)) is reads) in
          one_number b (slice_get store cell) ((Decides-int_eq b.lo b.hi).0 one)
          (some_value all store cell b lie at)
          ∙ sym (slice_get-map (λ (b : Bounds). b.lo) all cell
          ∙ ap (option_map (λ (b : Bounds). b.lo)) at)

  pub exact : DependsOnWhatIsRead → (lows : List ℤ) → lows ≡ lows_of all
      → value_of e store ≡ value_of e lows
  exact law lows are =
      law e store lows (λ cell reads. agrees cell reads
      ∙ sym (ap (λ l. slice_get l cell) are))

if_same : (o p : Option ℤ) → p ≡ o → IfSome o (λ v. p ≡ Some v)
if_same None p is = tt
if_same (Some v) p is = is

pub exact_if : (law : DependsOnWhatIsRead) (e : Expr) (all : List Bounds) (store lows : List ℤ)
    (o : Option ℤ) → AreFixedBelow e all (length all) → LieWithin all store → lows ≡ lows_of all
    → o ≡ value_of e lows → IfSome o (λ v. value_of e store ≡ Some v)
exact_if law e all store lows o fixed lie are is =
    if_same o (value_of e store) (exact e all store lie fixed law lows are ∙ sym is)

-- ---- writes

pub same_number : (o p : Option ℤ) (n : ℤ) → p ≡ Some n → IfSome o (λ v. p ≡ Some v)
    → IfSome o (λ v. v ≡ n)
same_number None p n is h = tt
same_number (Some v) p n is h = let both : Some v ≡ Some n = sym h ∙ is in cc

set_same : (store : List ℤ) (k : ℕ) (w v : ℤ) → slice_get (slice_set store k w) k ≡ Some v → v ≡ w
set_same [] k w v is = absurd (cc)
set_same (x ∷ store) zero w v is = cc
set_same (x ∷ store) (suc k) w v is = set_same store k w v is

pub has_written : (o : Option Written) (old new : List ℤ) (k : ℕ) (w : ℤ) → new ≡ slice_set old k w
    → IfSome o (λ x. (x.cell ≡ k) × (x.value ≡ w)) → IfSome o (HasIfThere new)
has_written None old new k w is h = tt
has_written (Some x) old new k w is h = λ v at.
    set_same old k w v
    (ap (λ l. slice_get l k) (sym is) ∙ (ap (slice_get new) (sym h.0) ∙ at)) ∙ sym h.1

pub written_lies : (new : List ℤ) (w : Option Written) (all : List Bounds)
    → IfSome w (HasIfThere new) → LieWithin all new → Lies new (cut_written w all)
written_lies new None all has lie = lie
written_lies new (Some w) all has lie = by (slice_get all w.cell) refl
  where
    value : (o : Option ℤ) (own : Bounds) → IsSomeAnd o (Has own) → (v : ℤ) × (o ≡ Some v)
    value None own h = absurd h
    value (Some v) own h = (v, refl)

    by : (o : Option Bounds) → slice_get all w.cell ≡ o
        → Lies new (cut_at cmp.Eq w.cell (only w.value) o all)
    by None is = lie
    by (Some own) is =
        let there = value (slice_get new w.cell) own (some_value all new w.cell own lie is) in
        subst (λ o. Lies new (cut_at cmp.Eq w.cell (only w.value) o all)) is
        (cut_lies cmp.Eq w.cell (only w.value) all new there.0 w.value lie there.1
        (record { low = omega (arith, ints); high = omega (arith, ints) })
        ((Decides-int_eq there.0 w.value).1 (has there.0 there.1)))

-- ---- a test

-- a test whose value is known, and which comes out so, has no other value
pub other_truth : (o p : Option ℤ) (holds result : Bool) → IfSome o (λ v. p ≡ Some v)
    → IsSomeAnd p (λ v. is_nonzero v ≡ holds)
    → ((v : ℤ) → IfSome o (λ own. own ≡ v) → is_nonzero v ≡ holds → result ≡ false)
    → result ≡ false
other_truth o None holds result knows truth told = absurd truth
other_truth o (Some v) holds result knows truth told =
    told v (same_number o (Some v) v refl knows) truth
