-- The objects of file scope are listed once each (`listed_more`, `skipped`), and what one starts at
-- is found by its name's place (`start_found`, `start_within`).
use Rattle.std.proofs.Common.{◌≡◌, ℕ, suc, ◌+◌, ◌<◌, Bool, true, false, not, ◌&&◌, ◌||◌, cond}
use Rattle.std.proofs.Common.{List, [], ◌∷◌, ◌++◌, length, get_or, find, Option, None, Some, IfSome}
use Rattle.std.proofs.Common.{is_some, option_map, refl, sym, ap, ◌∙◌, arith}
use Rattle.std.specs.List.{flat_map, list_any}
use Rattle.std.specs.Str.{bytes_eq}
use Rattle.std.proofs.lemmas.Cmp.{nat_list_eq_equiv}
use Rattle.std.proofs.lemmas.List.{append_assoc}
use Rattle.c_types_rules.specs.declared.meaning.Entry.{Entry}
use Rattle.c_types_rules.specs.declared.typed.Global.{Global}
use Rattle.c_types_rules.specs.Names.{place_of}
use Rattle.c_types_rules.specs.Sound.{Start, is_object_entry, object_names}
use Rattle.c_types.specs.Starts.{start_names}

place_some : (b : Bool) (held : Option ℕ) →
    is_some (elim b [ true ↦ Some 0 | false ↦ option_map (λ n. n + 1) held ])
    ≡ (b || is_some held)
place_some true held = refl
place_some false None = refl
place_some false (Some n) = refl

pub place_any : {T : Type 0} (test : T → Bool) (xs : List T) →
    is_some (place_of test xs) ≡ list_any test xs
place_any test [] = refl
place_any test (x ∷ xs) =
    place_some (test x) (place_of test xs) ∙ ap (λ b. test x || b) (place_any test xs)

or_swap : (a b c : Bool) → (a || (b || c)) ≡ (b || (a || c))
or_swap true true c = refl
or_swap true false c = refl
or_swap false b c = refl

any_push : (test : List ℕ → Bool) (names : List (List ℕ)) (name : List ℕ) →
    list_any test (name ∷ names) ≡ list_any test (names ++ name ∷ [])
any_push test [] name = refl
any_push test (x ∷ names) name =
    or_swap (test name) (test x) (list_any test names)
    ∙ ap (λ b. test x || b) (any_push test names name)

same_choice : {T : Type 0} (b : Bool) (x y z w : T) → x ≡ y → z ≡ w →
    ◌≡◌ {A = T} (elim b [ true ↦ x | false ↦ z ]) (elim b [ true ↦ y | false ↦ w ])
same_choice true x y z w p q = p
same_choice false x y z w p q = q

-- the names that are left are the same where the same names are seen
same_names : (seen other : List (List ℕ)) (es : List Entry) →
    ((q : List ℕ) → list_any (bytes_eq q) seen ≡ list_any (bytes_eq q) other) →
    object_names seen es ≡ object_names other es
same_names seen other [] h = refl
same_names seen other (e ∷ es) h =
    ap (λ b. elim (is_object_entry e && not b) [
      | true ↦ e.name ∷ object_names (e.name ∷ seen) es
      | false ↦ object_names seen es
    ]) (h e.name)
    ∙ same_choice (is_object_entry e && not (list_any (bytes_eq e.name) other)) _ _ _ _
    (ap (λ (ns : List (List ℕ)). e.name ∷ ns) (same_names (e.name ∷ seen) (e.name ∷ other) es
    (λ q. ap (λ b. bytes_eq q e.name || b) (h q))))
    (same_names seen other es h)

choice_true : {T : Type 0} (b : Bool) (x y : T) → b ≡ true →
    ◌≡◌ {A = T} (elim b [ true ↦ x | false ↦ y ]) x
choice_true true x y h = refl
choice_true false x y h = absurd (cc)

choice_false : {T : Type 0} (b : Bool) (x y : T) → b ≡ false →
    ◌≡◌ {A = T} (elim b [ true ↦ x | false ↦ y ]) y
choice_false true x y h = absurd (cc)
choice_false false x y h = refl

-- a declaration that is passed over
pub skipped : (f : List ℕ → List Global) (held : List Global) (seen : List (List ℕ)) (e : Entry)
    (es : List Entry) → (is_object_entry e && not (is_some (place_of (bytes_eq e.name) seen)))
    ≡ false → held ++ flat_map f (object_names seen es)
    ≡ held ++ flat_map f (object_names seen (e ∷ es))
skipped f held seen e es h =
    ap (λ (ns : List (List ℕ)). held ++ flat_map f ns) (sym (choice_false
    (is_object_entry e && not (list_any (bytes_eq e.name) seen)) _ _
    (ap (λ b. is_object_entry e && not b) (sym (place_any (bytes_eq e.name) seen)) ∙ h)))

-- one whose object is listed
pub listed_more : (f : List ℕ → List Global) (held : List Global) (seen : List (List ℕ))
    (e : Entry) (es : List Entry) →
    (is_object_entry e && not (is_some (place_of (bytes_eq e.name) seen))) ≡ true →
    (held ++ f e.name) ++ flat_map f (object_names (seen ++ e.name ∷ []) es)
    ≡ held ++ flat_map f (object_names seen (e ∷ es))
listed_more f held seen e es h =
    ap (λ (ns : List (List ℕ)). (held ++ f e.name) ++ flat_map f ns) (sym (same_names
    (e.name ∷ seen) (seen ++ e.name ∷ []) es (λ q. any_push (bytes_eq q) seen e.name)))
    ∙ append_assoc held (f e.name) (flat_map f (object_names (e.name ∷ seen) es))
    ∙ ap (λ (ns : List (List ℕ)). held ++ flat_map f ns) (sym (choice_true
    (is_object_entry e && not (list_any (bytes_eq e.name) seen)) _ _
    (ap (λ b. is_object_entry e && not b) (sym (place_any (bytes_eq e.name) seen)) ∙ h)))

get_next : {T : Type 0} (x : T) (xs : List T) (n : ℕ) (d : T) →
    get_or (x ∷ xs) (n + 1) d ≡ get_or xs n d
get_next x xs n d =
    let e : n + 1 ≡ suc n = omega arith in
    ap (λ m. get_or (x ∷ xs) m d) e

find_step : (b : Bool) (x : Start) (xs : List Start) (d : Start) (held : Option ℕ) →
    cond b (Some x) (option_map (λ n. get_or xs n d) held)
    ≡ option_map (λ n. get_or (x ∷ xs) n d)
    (elim b [ true ↦ Some 0 | false ↦ option_map (λ n. n + 1) held ])
find_step true x xs d held = refl
find_step false x xs d None = refl
find_step false x xs d (Some n) = ap (λ (s : Start). Some s) (sym (get_next x xs n d))

pub start_found : (starts : List Start) (name : List ℕ) (d : Start) →
    find (λ start. bytes_eq start.name name) starts
    ≡ option_map (λ n. get_or starts n d) (place_of (bytes_eq name) (start_names starts))
start_found [] name d = refl
start_found (x ∷ xs) name d =
    ap (λ (held : Option Start). cond (bytes_eq x.name name) (Some x) held)
    (start_found xs name d)
    ∙ ap (λ b. cond b (Some x) (option_map (λ n. get_or xs n d) (place_of (bytes_eq name)
    (start_names xs)))) (nat_list_eq_equiv.symm x.name name)
    ∙ find_step (bytes_eq name x.name) x xs d (place_of (bytes_eq name) (start_names xs))

within_step : (b : Bool) (m : ℕ) (held : Option ℕ) → IfSome held (λ n. n < m) →
    IfSome (elim b [ true ↦ Some 0 | false ↦ option_map (λ n. n + 1) held ]) (λ n. n < suc m)
within_step true m held h = omega arith
within_step false m None h = tt
within_step false m (Some n) h = omega (arith, h)

pub start_within : (starts : List Start) (name : List ℕ) →
    IfSome (place_of (bytes_eq name) (start_names starts)) (λ n. n < length starts)
start_within [] name = tt
start_within (x ∷ xs) name =
    within_step (bytes_eq name x.name) (length xs) (place_of (bytes_eq name) (start_names xs))
    (start_within xs name)
