-- The picks of a measurement name handed analyses: `are_places`.
use Rattle.std.proofs.Common.{◌≡◌, refl, sym, ap, ap₂, subst, ℕ, ◌<◌, ◌+◌, List, [], ◌∷◌, length}
use Rattle.std.proofs.Common.{map}
use Rattle.std.proofs.Common.{Bool, not, cond, String, Global, string_bytes, Some, None, nat_lt}
use Rattle.std.proofs.lemmas.List.{length-map}
use Rattle.std.proofs.lemmas.List.Quantifiers.{position-Some}
use Rattle.std.specs.List.{AllZip, position, position_or_len}
use Rattle.std.specs.Str.{bytes_eq}
use Rattle.cpa_composite.specs.Components.{ArePlaces}
use Rattle.cpa_config.specs.Values.{place_of}
use Rattle.cpa_iface.specs.declared.merging.Pick.{Pick}
use Rattle.cpa_top_bench.specs.Configurations.{IsKeptApart}

-- ---- places of names, by their bytes

place_or_len : (names : List (String Global)) (name : List ℕ)
    → position_or_len (λ other. bytes_eq (string_bytes other) name) names
    ≡ position_or_len (λ other. bytes_eq other name) (map string_bytes names)
place_or_len [] name = refl
place_or_len (other ∷ names) name =
    ap (λ n. cond (not (bytes_eq (string_bytes other) name)) (1 + n) 0) (place_or_len names name)

pub position_of_bytes : (names : List (String Global)) (name : List ℕ)
    → position (λ other. bytes_eq (string_bytes other) name) names
    ≡ place_of (map string_bytes names) name
position_of_bytes names name =
    ap₂ (λ p n. cond (nat_lt p n) (Some p) None) (place_or_len names name)
    (sym (length-map names string_bytes))

-- ---- places are those of handed analyses

within : (handed : List (List ℕ)) (name : List ℕ) (p : Pick) → IsKeptApart handed name p
    → p.place < length handed
within handed name p is =
    (position-Some (λ other. bytes_eq other name) handed p.place [] is.place).0

all_within : (handed names : List (List ℕ)) (picks : List Pick)
    → AllZip (IsKeptApart handed) names picks → ArePlaces (length handed) picks
all_within handed [] [] all = tt
all_within handed [] (p ∷ picks) all = absurd all
all_within handed (name ∷ names) [] all = absurd all
all_within handed (name ∷ names) (p ∷ picks) all =
    (within handed name p all.0, all_within handed names picks all.1)

pub are_places : (names : List (String Global)) (used : List (List ℕ)) (picks : List Pick)
    → AllZip (IsKeptApart (map string_bytes names)) used picks → ArePlaces (length names) picks
are_places names used picks all =
    subst (λ (n : ℕ). ArePlaces n picks) (length-map names string_bytes)
    (all_within (map string_bytes names) used picks all)
