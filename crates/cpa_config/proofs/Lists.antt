-- Tests of the items of a list, and of what is seen of them.
use Rattle.std.proofs.Common.{◌≡◌, refl, sym, ap, ap₂, ℕ, List, [], ◌∷◌, Bool, not, cond, map, Bor}
use Rattle.std.proofs.Common.{String, Global, string_bytes, Some, None, nat_lt, ◌+◌}
use Rattle.std.specs.Prelude.{◌&&◌, ◌||◌, is_some}
use Rattle.std.proofs.lemmas.List.{length-map}
use Rattle.std.specs.List.{list_all, list_any, position, position_or_len}
use Rattle.std.specs.Str.{bytes_eq}
use Rattle.toml.specs.Data.{as_str}
use Rattle.toml.specs.View.{view, items_view}
use Rattle.toml.specs.declared.value.Value.{Value}
use Rattle.cpa_config.specs.Values.{are_texts, is_among, place_of}

pub any_of_bytes : (names : List (Bor (List ℕ))) (name : List ℕ)
    → list_any (λ other. bytes_eq other.now name) names
    ≡ is_among (map (λ other. other.now) names) name
any_of_bytes [] name = refl
any_of_bytes (other ∷ names) name =
    ap (λ rest. bytes_eq other.now name || rest) (any_of_bytes names name)

pub all_of_items : (values : List Value)
    → list_all (λ value. is_some (as_str (view value))) values ≡ are_texts (items_view values)
all_of_items [] = refl
all_of_items (value ∷ values) =
    ap (λ rest. is_some (as_str (view value)) && rest) (all_of_items values)

place_or_len : (names : List (String Global)) (name : List ℕ)
    → position_or_len (λ other. bytes_eq (string_bytes other) name) names
    ≡ position_or_len (λ other. bytes_eq other name) (map string_bytes names)
place_or_len [] name = refl
place_or_len (other ∷ names) name =
    ap (λ n. cond (not (bytes_eq (string_bytes other) name)) (1 + n) 0) (place_or_len names name)

pub position_of_bytes : (names : List (String Global)) (name : List ℕ)
    → position (λ other. bytes_eq (string_bytes other) name) names
    ≡ place_of (map string_bytes names) name
position_of_bytes names name =
    ap₂ (λ p n. cond (nat_lt p n) (Some p) None) (place_or_len names name)
    (sym (length-map names string_bytes))

pub all_of_bytes : (test : List ℕ → Bool) (names : List (Bor (List ℕ)))
    → list_all (λ name. test name.now) names ≡ list_all test (map (λ name. name.now) names)
all_of_bytes test [] = refl
all_of_bytes test (name ∷ names) = ap (λ rest. test name.now && rest) (all_of_bytes test names)
