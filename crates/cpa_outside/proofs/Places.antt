-- Where a file of a name stands among those in memory.
use Rattle.std.proofs.Common.{◌≡◌, ℕ, ◌<◌, ◌≤◌, ◌≢◌, Bool, true, List, [], ◌∷◌, length, get_or}
use Rattle.std.proofs.Common.{Option, Some, None, IsSome, IfErr, IsErrOf, IsTrue, is_none, Result}
use Rattle.std.proofs.Common.{◌||◌, ◌↔◌, false, String, Vec, string_bytes, sym, ap, ◌∙◌, refl, inl}
use Rattle.std.proofs.Common.{inr, arith, rules}
use Rattle.std.specs.Prelude.{unwrap_or, slice_index}
use Rattle.std.specs.List.{find, position, slice_get}
use Rattle.std.specs.Option.{option_map}
use Rattle.std.specs.declared.alloc.Global.{Global}
use Rattle.std.proofs.lemmas.List.Folds.{find_at}
use Rattle.std.proofs.lemmas.List.Sums.{passes_at_first, prefix_len-le-length}
use Rattle.std.specs.Vec.{with_items}
use Rattle.std.proofs.lemmas.List.{with_items_is}
use Rattle.std.proofs.lemmas.Option.{slice_get_read, slice_get_past}
use Rattle.std.proofs.lemmas.Bool.{cases_lt}
use Rattle.std.proofs.lemmas.Slice.Eq.{bytes_eq-Decides}
use Rattle.std.proofs.lemmas.Bool.Decides.{nat_tests}
use Rattle.cpa_outside.specs.declared.reads.ReadFault.{ReadFault}
use Rattle.cpa_outside.specs.declared.reads.ReadFault.TheVariants.{Failed}
use Rattle.cpa_outside.specs.OutsideMemory.{has_name, place_of, first_bytes, is_listed}

pub place_of-le : (files : List (String Global × Vec ℕ Global)) (name : List ℕ) →
    place_of files name ≤ length files
place_of-le files name = prefix_len-le-length _ files

-- the place that `position` gives, or the length
pub place_of-position : (files : List (String Global × Vec ℕ Global)) (name : List ℕ) →
    unwrap_or (position (has_name name) files) (length files) ≡ place_of files name
place_of-position files name = let le = place_of-le files name in grind (arith, nat_tests)

-- the file at its place has the bytes of the name
pub first_bytes-at : (files : List (String Global × Vec ℕ Global)) (name : List ℕ) (i : ℕ)
    (file : String Global × Vec ℕ Global) → i ≡ place_of files name → i < length files →
    file ≡ get_or files i file → first_bytes files name ≡ Some file.1.items
first_bytes-at files name i file place within at =
    ap (option_map (λ (f : String Global × Vec ℕ Global). f.1.items)) (find_at (has_name name) files
    ∙ ap (slice_get files) (sym place)
    ∙ slice_get_read files (length files) i file refl within at)

-- nothing is told of no file
none_told : (found : Option (String Global × Vec ℕ Global)) → found ≡ None →
    IsSome (option_map (λ (f : String Global × Vec ℕ Global). f.1.items) found) → ⊥
none_told None is told = search rules
none_told (Some file) is told = cc

-- no file of the name is there
pub first_bytes-past : (files : List (String Global × Vec ℕ Global)) (name : List ℕ) →
    length files ≤ place_of files name → first_bytes files name ≡ None
first_bytes-past files name past =
    ap (option_map (λ (f : String Global × Vec ℕ Global). f.1.items)) (find_at (has_name name) files
    ∙ slice_get_past files (place_of files name) past)

-- a name with bytes has a file
pub place_of-told : (files : List (String Global × Vec ℕ Global)) (name : List ℕ) →
    IsSome (first_bytes files name) → place_of files name < length files
place_of-told files name told =
    elim (cases_lt (place_of files name) (length files)) [
      | inl within ↦ within
      | inr past ↦ absurd (none_told (find (has_name name) files)
          (find_at (has_name name) files ∙ slice_get_past files (place_of files name) past) told)
    ]

-- the file at the place of a name has it
pub place_of-name : (files : List (String Global × Vec ℕ Global)) (name : List ℕ)
    (file : String Global × Vec ℕ Global) → place_of files name < length files →
    string_bytes (get_or files (place_of files name) file).0 ≡ name
place_of-name files name file within =
    (bytes_eq-Decides _ name).0 (passes_at_first (has_name name) files file within)

-- two names that are there have places of their own
pub place_of-apart : (files : List (String Global × Vec ℕ Global)) (name other : List ℕ) →
    other ≢ name → place_of files other < length files → place_of files other ≢ place_of files name
place_of-apart [] name other differ within same = absurd (omega arith)
place_of-apart (file ∷ rest) name other differ within same =
    let files = file ∷ rest in
    let here : place_of files name < length files = omega (arith, same) in
    let at : ℕ → List ℕ = λ (i : ℕ). string_bytes (get_or files i file).0 in
    differ (sym (place_of-name files other file within) ∙ ap at same
    ∙ place_of-name files name file here)

pub IsTrue-left : (a b : Bool) → a ≡ true → IsTrue (a || b)
IsTrue-left a b is = rw is (search rules)

pub IsTrue-missing : (a : Bool) (found : Option (List ℕ)) → found ≡ None →
    IsTrue (a || is_none found)
IsTrue-missing true found is = search rules
IsTrue-missing false found is = rw is (search rules)

-- an answer that is not Failed, where neither the number nor the name fails
pub not_fails : {T : Type 0} (result : Result T ReadFault) (listed : Bool) (found : Option (List ℕ))
    {told : List ℕ} → IfErr result (λ fault. fault ≢ Failed) → listed ≡ false → found ≡ Some told →
    IsErrOf result Failed ↔ IsTrue (listed || is_none found)
not_fails result listed found not_failed unlisted there = (
  λ is. absurd ((rw is at not_failed) refl),
  λ fails. absurd (cc (rw (unlisted, there) at fails)),
)

-- an empty list has no number
pub none_listed : (numbers : List ℕ) (call : ℕ) → numbers ≡ [] → true ≡ is_listed numbers call → ⊥
none_listed [] call none listed = cc
none_listed (number ∷ rest) call none listed = cc

-- a count that a write to the slice leaves
pub count-kept : (counts : Vec ℕ Global) (old new : List ℕ) (k : ℕ) → old ≡ counts.items →
    length new ≡ counts.len → slice_index new k ≡ slice_index old k →
    slice_index (with_items counts new).items k ≡ slice_index counts.items k
count-kept counts old new k was len kept = rw (with_items_is counts new len, kept, was)
