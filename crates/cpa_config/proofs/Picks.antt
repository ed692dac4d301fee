-- Picks and names, place by place.
use Rattle.std.proofs.Common.{◌≡◌, refl, sym, ap, ◌∙◌, subst, ℕ, ◌+◌, ◌<◌, List, [], ◌∷◌, ◌++◌, map}
use Rattle.std.proofs.Common.{length, take, get_or, String, Global, string_bytes}
use Rattle.std.proofs.lemmas.List.{map-append, take_more}
use Rattle.std.specs.List.{AllZip}
use Rattle.toml.proofs.Views.{items_view-push}
use Rattle.toml.specs.Data.{string, push_item}
use Rattle.toml.specs.View.{view, items_view}
use Rattle.toml.specs.declared.value.Value.{Value}
use Rattle.cpa_config.specs.Configurations.{items_of_names}

zip_push : {A B : Type 0} (R : A → B → Type 0) (xs : List A) (ys : List B) (x : A) (y : B)
    → AllZip R xs ys → R x y → AllZip R (xs ++ x ∷ []) (ys ++ y ∷ [])
zip_push R [] [] x y h r = (r, tt)
zip_push R [] (b ∷ ys) x y h r = absurd h
zip_push R (a ∷ xs) [] x y h r = absurd h
zip_push R (a ∷ xs) (b ∷ ys) x y h r = (h.0, zip_push R xs ys x y h.1 r)

-- one item more of a list, as f gives it
seen_more : {A B : Type 0} (f : A → B) (xs : List A) (i : ℕ) (d : A) → i < length xs
    → map f (take i xs) ++ f (get_or xs i d) ∷ [] ≡ map f (take (i + 1) xs)
seen_more f xs i d h =
    sym (map-append f (take i xs) (get_or xs i d ∷ [])) ∙ ap (map f) (sym (take_more xs i d h))

pub zip_more : {A B C : Type 0} (R : C → B → Type 0) (f : A → C) (xs : List A) (ys : List B)
    (i : ℕ) (d : A) (y : B) → i < length xs → AllZip R (map f (take i xs)) ys
    → R (f (get_or xs i d)) y → AllZip R (map f (take (i + 1) xs)) (ys ++ y ∷ [])
zip_more R f xs ys i d y h all here =
    subst (λ zs. AllZip R zs (ys ++ y ∷ [])) (seen_more f xs i d h)
    (zip_push R (map f (take i xs)) ys (f (get_or xs i d)) y all here)

names_push : (names : List (List ℕ)) (name : List ℕ)
    → items_of_names (names ++ name ∷ []) ≡ push_item (items_of_names names) (string name)
names_push [] name = refl
names_push (n ∷ names) name = rw (names_push names name) refl

pub name_pushed : (names : List (String Global)) (i : ℕ) (name : String Global)
    (items : List Value) (value : Value) → i < length names → name ≡ get_or names i name
    → view value ≡ string (string_bytes name)
    → items_view items ≡ items_of_names (map string_bytes (take i names))
    → items_view (items ++ value ∷ []) ≡ items_of_names (map string_bytes (take (i + 1) names))
name_pushed names i name items value h is seen before =
    items_view-push items value
    ∙ rw (before, seen) (sym (names_push (map string_bytes (take i names)) (string_bytes name)))
    ∙ ap (λ n. items_of_names (map string_bytes (take i names) ++ string_bytes n ∷ [])) is
    ∙ ap items_of_names (seen_more string_bytes names i name h)
