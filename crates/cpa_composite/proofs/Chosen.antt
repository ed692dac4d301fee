-- The loops that make choices.
use Rattle.std.proofs.Common.{◌≡◌, ℕ, ◌+◌, true, eqb, List, [], ◌∷◌, ◌++◌, Some, map, take}
use Rattle.std.proofs.Common.{length, refl, sym, ap, ◌∙◌, arith}
use Rattle.std.specs.List.{slice_get, flat_map}
use Rattle.std.proofs.lemmas.Bool.{and_parts, eqb-true}
use Rattle.std.proofs.lemmas.List.{map-append, append_assoc, flat_map_more}
use Rattle.cpa_model.specs.declared.facts.Elem.{Elem}
use Rattle.cpa_composite.specs.Comparisons.{have_one_each}
use Rattle.cpa_composite.specs.Laws.{choices}
use Rattle.cpa_composite.proofs.Placed.{take_next, joined, no_more}

-- one row more behind those that were there
pub rows_more : (first : Elem) (was now start later : List (List Elem)) (i : ℕ) (r : List Elem)
    → slice_get later i ≡ Some r
    → was ≡ start ++ map (λ (row : List Elem). first ∷ row) (take i later)
    → now ≡ was ++ (first ∷ r) ∷ []
    → now ≡ start ++ map (λ (row : List Elem). first ∷ row) (take (i + 1) later)
rows_more first was now start later i r there before more =
    let put : List Elem → List Elem = λ row. first ∷ row in
    more
    ∙ (ap (λ (rows : List (List Elem)). rows ++ (first ∷ r) ∷ []) before
    ∙ (append_assoc start (map put (take i later)) ((first ∷ r) ∷ [])
    ∙ ap (λ (rows : List (List Elem)). start ++ rows)
    (sym (map-append put (take i later) (r ∷ []))
    ∙ ap (map put) (sym (take_next later i r there)))))

-- one element more before each row
pub firsts_more : (f : Elem → List (List Elem)) (firsts : List Elem) (i : ℕ) (e : Elem)
    (was now : List (List Elem)) → slice_get firsts i ≡ Some e → was ≡ flat_map f (take i firsts)
    → now ≡ was ++ f e → now ≡ flat_map f (take (i + 1) firsts)
firsts_more f firsts i e was now there before more =
    more
    ∙ (ap (λ (rows : List (List Elem)). rows ++ f e) before
    ∙ (flat_map_more f [] (take i firsts) e
    ∙ ap (flat_map f) (sym (take_next firsts i e there))))

-- The choices are the row before each choice from what is left, in which each list has one element.
pub record IsLeft (lists : List (List Elem)) (row : List Elem) (left : List (List Elem)) : Type 0
  where
    pub chosen : choices lists ≡ map (λ (r : List Elem). row ++ r) (choices left)
    pub one : have_one_each left ≡ true

same_rows : (rows : List (List Elem)) → rows ≡ map (λ (r : List Elem). [] ++ r) rows
same_rows [] = refl
same_rows (r ∷ rows) = ap (λ (rs : List (List Elem)). r ∷ rs) (same_rows rows)

pub left_first : (lists : List (List Elem)) → have_one_each lists ≡ true → IsLeft lists [] lists
left_first lists one = record { chosen = same_rows (choices lists); one = one }

put_behind : (row : List Elem) (e : Elem) (rows : List (List Elem))
    → map (λ (r : List Elem). row ++ r) (map (λ (r : List Elem). e ∷ r) rows)
    ≡ map (λ (r : List Elem). (row ++ e ∷ []) ++ r) rows
put_behind row e [] = refl
put_behind row e (r ∷ rows) =
    ap (λ (first : List Elem).
    first ∷ map (λ (r : List Elem). row ++ r) (map (λ (r : List Elem). e ∷ r) rows))
    (sym (joined row e r))
    ∙ ap (λ (rs : List (List Elem)). ((row ++ e ∷ []) ++ r) ∷ rs) (put_behind row e rows)

one_chosen : (row list : List Elem) (left : List (List Elem)) → length list ≡ 1
    → map (λ (r : List Elem). row ++ r) (choices (list ∷ left))
    ≡ map (λ (r : List Elem). (row ++ list) ++ r) (choices left)
one_chosen row [] left one = absurd (omega (arith, one))
one_chosen row (e ∷ []) left one =
    ap (map (λ (r : List Elem). row ++ r)) (no_more (map (λ (r : List Elem). e ∷ r) (choices left)))
    ∙ put_behind row e (choices left)
one_chosen row (e ∷ f ∷ list) left one = absurd (omega (arith, one))

-- one list more goes behind the row
pub left_next : (lists : List (List Elem)) (row list : List Elem) (left : List (List Elem))
    → IsLeft lists row (list ∷ left) → IsLeft lists (row ++ list) left
left_next lists row list left is =
    let parts = and_parts (eqb (length list) 1) (have_one_each left) is.one in
    record {
      chosen = is.chosen ∙ one_chosen row list left (eqb-true (length list) 1 parts.0);
      one = parts.1;
    }

pub left_none : (lists : List (List Elem)) (row : List Elem) → IsLeft lists row []
    → choices lists ≡ row ∷ []
left_none lists row is = is.chosen ∙ ap (λ (r : List Elem). r ∷ []) (no_more row)

-- with no item left there is no list
pub none_left : {X : Type 0} (xs : List X) → length xs ≡ 0 → xs ≡ []
none_left [] none = refl
none_left (x ∷ xs) none = absurd (omega (arith, none))
