-- Two names have one count exactly where they have one place, and a failed read raises that count
-- alone.
use Rattle.std.proofs.Common.{◌≡◌, ◌≢◌, ℕ, Bool, true, false, ◌||◌, ◌&&◌, List, [], ◌∷◌, length}
use Rattle.std.proofs.Common.{Option, None, Some, IsSome, is_none, String, Vec, sym, ap, ◌∙◌, refl}
use Rattle.std.proofs.Common.{arith}
use Rattle.std.specs.Prelude.{bytes_eq, slice_index, if◌then◌else◌}
use Rattle.std.specs.Vec.{with_items}
use Rattle.std.specs.declared.alloc.Global.{Global}
use Rattle.std.proofs.lemmas.List.{with_items_is}
use Rattle.std.proofs.lemmas.Slice.Eq.{bytes_eq-Decides}
use Rattle.cpa_outside.specs.OutsideMemory.{has_name, place_of, first_bytes, one_more}
use Rattle.cpa_outside.proofs.Places.{place_of-told, place_of-apart}

-- the place of a name that is not there
pub place_of-missing : (files : List (String Global × Vec ℕ Global)) (name : List ℕ) →
    is_none (first_bytes files name) ≡ true → place_of files name ≡ length files
place_of-missing [] name missing = refl
place_of-missing (file ∷ rest) name missing =
    by (has_name name file) refl (place_of-missing rest name)
  where
    by : (b : Bool) → has_name name file ≡ b →
        (is_none (first_bytes rest name) ≡ true → place_of rest name ≡ length rest) →
        place_of (file ∷ rest) name ≡ length (file ∷ rest)
    by true e next = absurd (cc (rw e at missing))
    by false e next = rw e (let past = next (rw e at missing) in omega (arith, past))

some_told : (found : Option (List ℕ)) → is_none found ≡ false → IsSome found
some_told None is = absurd (cc)
some_told (Some told) is = refl

-- two names share a count
abbrev pub shares : List (String Global × Vec ℕ Global) → List ℕ → List ℕ → Bool
shares files name other =
    bytes_eq name other || (is_none (first_bytes files name) && is_none (first_bytes files other))

shares-one_place : (files : List (String Global × Vec ℕ Global)) (name other : List ℕ) →
    shares files name other ≡ true → place_of files other ≡ place_of files name
shares-one_place files name other is =
    by (bytes_eq name other) (is_none (first_bytes files name)) (is_none (first_bytes files other))
    refl refl refl
  where
    by : (a b c : Bool) → bytes_eq name other ≡ a → is_none (first_bytes files name) ≡ b →
        is_none (first_bytes files other) ≡ c → place_of files other ≡ place_of files name
    by true b c e f g = ap (place_of files) (sym ((bytes_eq-Decides name other).0 e))
    by false true true e f g = place_of-missing files other g ∙ sym (place_of-missing files name f)
    by false true false e f g = absurd (cc (rw (e, f, g) at is))
    by false false c e f g = absurd (cc (rw (e, f) at is))

shares-apart : (files : List (String Global × Vec ℕ Global)) (name other : List ℕ) →
    shares files name other ≡ false → place_of files other ≢ place_of files name
shares-apart files name other is same =
    by (bytes_eq name other) (is_none (first_bytes files name)) (is_none (first_bytes files other))
    refl refl refl
  where
    differ : bytes_eq name other ≡ false → name ≢ other
    differ e one = let equal = (bytes_eq-Decides name other).1 one in cc

    by : (a b c : Bool) → bytes_eq name other ≡ a → is_none (first_bytes files name) ≡ b →
        is_none (first_bytes files other) ≡ c → ⊥
    by true b c e f g = cc (rw e at is)
    by false true true e f g = cc (rw (e, f, g) at is)
    by false true false e f g =
        let there = place_of-told files other (some_told (first_bytes files other) g) in
        let past = place_of-missing files name f in
        omega (arith, there, past, same)
    by false false c e f g =
        let there = place_of-told files name (some_told (first_bytes files name) f) in
        place_of-apart files other name (differ e) there (sym same)

-- a failed read of a name raises each count that its name shares, and no other
module _ (files : List (String Global × Vec ℕ Global)) (counts : Vec ℕ Global) (old new : List ℕ)
    (name other : List ℕ) (place : ℕ) where
  abbrev raised : Bool → ℕ
  raised b =
      if b then one_more (slice_index counts.items (place_of files other))
      else slice_index counts.items (place_of files other)

  pub counts-failed : (fails : Bool) → fails ≡ true → place ≡ place_of files name →
      old ≡ counts.items → length new ≡ counts.len →
      slice_index new place ≡ one_more (slice_index old place) →
      ((k : ℕ) → k ≢ place → slice_index new k ≡ slice_index old k)
      → slice_index (with_items counts new).items (place_of files other)
      ≡ raised (fails && shares files name other)
  counts-failed fails is at was len one others =
      rw (with_items_is counts new len, is) (by (shares files name other) refl)
    where
      by : (b : Bool) → shares files name other ≡ b →
          slice_index new (place_of files other) ≡ raised (shares files name other)
      by true e = rw (e, shares-one_place files name other e, sym at, sym was) one
      by false e =
          rw (e, sym was) (others (place_of files other) (λ same.
          shares-apart files name other e (same ∙ at)))

-- and any other read raises none
pub counts-kept : (fails shared : Bool) (now kept : ℕ) → fails ≡ false →
    kept ≡ (if fails && shared then now else kept)
counts-kept fails shared now kept is = rw is refl

-- a read whose number is not listed, of a name that is there, does not fail
pub fails-not : (listed : Bool) (found : Option (List ℕ)) {told : List ℕ} → listed ≡ false →
    found ≡ Some told → (listed || is_none found) ≡ false
fails-not listed found unlisted there = rw (unlisted, there) refl
