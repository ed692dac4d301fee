-- The numbers of a list are those that were read, and those of what is left of it.
use Rattle.std.proofs.Common.{◌≡◌, ℕ, ◌+◌, ◌<◌, ◌≤◌, ℤ, List, [], ◌∷◌, ◌++◌, length, drop, get_or}
use Rattle.std.proofs.Common.{refl, sym, ap, ◌∙◌, arith, inl, inr, pos, negsuc, FitsSigned}
use Rattle.std.proofs.lemmas.Int.{ints, fits_signed_from_abs}
use Rattle.std.specs.Int.{w128}
use Rattle.std.specs.Prelude.{Option, Some, None, option_map}
use Rattle.std.proofs.lemmas.List.{drop_more, drop_all, append-nil, append_assoc}
use Rattle.std.specs.List.{AllByRecursion}
use Rattle.serde_json.specs.declared.value.Value.{Value}
use Rattle.serde_json.specs.View.{view, items_view}
use Rattle.cpa_top_jobs.specs.Inputs.{IsInput, in_front, whole_number, whole_numbers}

-- the numbers that were read, before those that are left
abbrev pub before : List ℤ → Option (List ℤ) → Option (List ℤ)
before ns rest = option_map (λ more. ns ++ more) rest

-- the numbers of what is left from a place on
abbrev pub left : List Value → ℕ → Option (List ℤ)
left vs i = whole_numbers (items_view (drop i vs))

next_value : (vs : List Value) (i : ℕ) (v : Value) → i < length vs → v ≡ get_or vs i v
    → drop i vs ≡ v ∷ drop (i + 1) vs
next_value vs i v h is = drop_more vs i v h ∙ ap (λ (y : Value). y ∷ drop (i + 1) vs) (sym is)

one_more : (ns : List ℤ) (n : ℤ) (rest : Option (List ℤ))
    → before ns (in_front n rest) ≡ before (ns ++ n ∷ []) rest
one_more ns n None = refl
one_more ns n (Some more) = ap Some (sym (append_assoc ns (n ∷ []) more))

-- nothing has been read
pub none_before : (rest : Option (List ℤ)) → rest ≡ before [] rest
none_before None = refl
none_before (Some more) = refl

-- a value that is a number has been read
pub number_read : (vs : List Value) (i : ℕ) (v : Value) (ns : List ℤ) (n : ℤ) → i < length vs
    → v ≡ get_or vs i v → Some n ≡ whole_number (view v)
    → before ns (left vs i) ≡ before (ns ++ n ∷ []) (left vs (i + 1))
number_read vs i v ns n h is number =
    rw (next_value vs i v h is, sym number) (one_more ns n (left vs (i + 1)))

-- a value that is none leaves no numbers
pub none_read : (vs : List Value) (i : ℕ) (v : Value) (ns : List ℤ) → i < length vs
    → v ≡ get_or vs i v → None ≡ whole_number (view v) → before ns (left vs i) ≡ None
none_read vs i v ns h is none = rw (next_value vs i v h is, sym none) refl

-- all values have been read
pub all_read : (vs : List Value) (i : ℕ) (ns : List ℤ) → length vs ≤ i
    → before ns (left vs i) ≡ Some ns
all_read vs i ns h = rw (drop_all i vs h) (ap Some (append-nil ns))

-- a number of 64 bits has 128
pub input_fits : (n : ℤ) → IsInput n → FitsSigned w128 n
input_fits (pos m) (inl h) = fits_signed_from_abs w128 _ (omega (arith, ints, h.1))
input_fits (negsuc m) (inl h) = fits_signed_from_abs w128 _ (omega (arith, ints, h.0))
input_fits (pos m) (inr h) = fits_signed_from_abs w128 _ (omega (arith, ints, h.1))
input_fits (negsuc m) (inr h) = fits_signed_from_abs w128 _ (omega (arith, ints, h.0))

pub inputs_pushed : (ns : List ℤ) (n : ℤ) → AllByRecursion IsInput ns → IsInput n
    → AllByRecursion IsInput (ns ++ n ∷ [])
inputs_pushed [] n all here = (here, tt)
inputs_pushed (m ∷ ns) n all here = (all.0, inputs_pushed ns n all.1 here)
