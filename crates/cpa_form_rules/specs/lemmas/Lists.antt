-- Lists that grow at the end.
use Rattle.std.proofs.Common.{◌≡◌, List, [], ◌∷◌, ◌++◌, length, Some, slice_get, refl, sym, ap}
use Rattle.std.proofs.Common.{◌∙◌, arith}
use Rattle.std.specs.List.{AllByRecursion, AllZip}
use Rattle.std.proofs.lemmas.List.{append_assoc, append-nil}

pub all_parts : {A : Type 0} (P : A → Type 0) (xs ys : List A) → AllByRecursion P (xs ++ ys)
    → AllByRecursion P xs × AllByRecursion P ys
all_parts P [] ys h = (tt, h)
all_parts P (x ∷ xs) ys h = let rest = all_parts P xs ys h.1 in ((h.0, rest.0), rest.1)

pub all_both : {A : Type 0} (P : A → Type 0) (xs ys : List A) → AllByRecursion P xs
    → AllByRecursion P ys → AllByRecursion P (xs ++ ys)
all_both P [] ys h k = k
all_both P (x ∷ xs) ys h k = (h.0, all_both P xs ys h.1 k)

-- an item more on both sides
pub zip_last : {A B : Type 0} (R : A → B → Type 0) (xs : List A) (x : A) (zs : List B)
    → AllZip R (xs ++ x ∷ []) zs
    → (ys : List B) × (y : B) × (zs ≡ ys ++ y ∷ []) × AllZip R xs ys × R x y
zip_last R [] x [] h = absurd h
zip_last R [] x (z ∷ []) h = ([], z, refl, tt, h.0)
zip_last R [] x (z ∷ y ∷ zs) h = absurd h.1
zip_last R (w ∷ xs) x [] h = absurd h
zip_last R (w ∷ xs) x (z ∷ zs) h =
    let rest = zip_last R xs x zs h.1 in
    (z ∷ rest.0, rest.1, ap (λ l. z ∷ l) rest.2, (h.0, rest.3), rest.4)

pub zip_more : {A B : Type 0} (R : A → B → Type 0) (xs : List A) (ys : List B) (x : A) (y : B)
    → AllZip R xs ys → R x y → AllZip R (xs ++ x ∷ []) (ys ++ y ∷ [])
zip_more R [] [] x y h k = (k, tt)
zip_more R [] (z ∷ ys) x y h k = absurd h
zip_more R (w ∷ xs) [] x y h k = absurd h
zip_more R (w ∷ xs) (z ∷ ys) x y h k = (h.0, zip_more R xs ys x y h.1 k)

-- the list begins with the other one
abbrev pub Front : {A : Type 0} → List A → List A → Type 0
Front {A} xs zs = (ys : List A) × (zs ≡ xs ++ ys)

pub front_itself : {A : Type 0} (xs : List A) → Front xs xs
front_itself xs = ([], sym (append-nil xs))

pub front_of_front : {A : Type 0} (xs ys zs : List A) → Front xs ys → Front ys zs → Front xs zs
front_of_front xs ys zs h k = (
  h.0 ++ k.0,
  k.1 ∙ (ap (λ l. l ++ k.0) h.1 ∙ append_assoc xs h.0 k.0),
)

pub front_same : {A : Type 0} (xs zs ys us : List A) → length xs ≡ length ys
    → xs ++ zs ≡ ys ++ us → xs ≡ ys
front_same [] zs [] us long is = refl
front_same [] zs (y ∷ ys) us long is = absurd (omega (arith, long))
front_same (x ∷ xs) zs [] us long is = absurd (omega (arith, long))
front_same (x ∷ xs) zs (y ∷ ys) us long is =
    let head : x ≡ y = cc in
    let tail : xs ++ zs ≡ ys ++ us = cc in
    let rest = front_same xs zs ys us (omega (arith, long)) tail in cc

pub last_item : {A : Type 0} (xs : List A) (x : A) → slice_get (xs ++ x ∷ []) (length xs) ≡ Some x
last_item [] x = refl
last_item (y ∷ xs) x = last_item xs x
