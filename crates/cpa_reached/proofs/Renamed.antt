-- What `replace` makes of the entries, step by step: one gives way (`gave_way`), and those that
-- named it are renamed (`renamed_all`).
use Rattle.std.proofs.Common.{◌≡◌, ℕ, zero, suc, ◌<◌, true, false, eqb, cond, not}
use Rattle.std.proofs.Common.{◌&&◌, ◌||◌, List, [], ◌∷◌, ◌++◌, map, take, drop, get_or}
use Rattle.std.proofs.Common.{slice_get, Option, Some, None, refl, sym, ap, ◌∙◌, subst, inl, inr}
use Rattle.std.proofs.Common.{⊎_elim, arith}
use Rattle.std.specs.List.{AllByRecursion, filter, remove}
use Rattle.std.proofs.lemmas.Option.{same_Some}
use Rattle.std.proofs.lemmas.Bool.{eq-eqb, ne_eqb, eqb-true, or_cases, and_parts}
use Rattle.std.proofs.lemmas.Bool.{cond_both, cases_Bool, cases_eq, both_ways}
use Rattle.std.proofs.lemmas.List.{map-append}
use Rattle.cpa_model.specs.declared.facts.Elem.{Elem}
use Rattle.cpa_iface.specs.declared.entries.Entry.{Entry}
use Rattle.cpa_reached.specs.declared.links.Link.{Link}
use Rattle.cpa_model.specs.Ascending.{AreAscending}
use Rattle.cpa_reached.specs.Members.{IsIn, is_in}
use Rattle.cpa_reached.specs.Entries.{numbers}
use Rattle.cpa_reached.specs.Calls.{at_number, rename, rename_parent, renamed, replacing, others}
use Rattle.cpa_reached.specs.Calls.{those, replaced_entries}
use Rattle.cpa_reached.specs.lemmas.MemberLaws.{or_left, in_push}
use Rattle.cpa_reached.specs.lemmas.MemberLaws.{in_map, in_filter}
use Rattle.cpa_reached.specs.Kept.{IsTied, IsTree, link_numbers, is_named_by, renamed_among}
use Rattle.cpa_reached.proofs.Keys.{at_all}
use Rattle.cpa_reached.proofs.Replacing.{other_parent}

-- of ascending items all others are kept where one is taken out by its place
keeps_all : {X : Type 0} (key : X → ℕ) (n : ℕ) (xs : List X)
    → AllByRecursion (λ m. n < m) (map key xs) → filter (λ x. not (eqb (key x) n)) xs ≡ xs
keeps_all key n [] above = refl
keeps_all key n (x ∷ xs) above =
    let here : n < key x = above.0 in
    let no : eqb (key x) n ≡ false = ne_eqb _ _ (λ e. omega arith) in
    rw no (ap (λ t. x ∷ t) (keeps_all key n xs above.1))

takes_none : {X : Type 0} (key : X → ℕ) (n : ℕ) (xs : List X)
    → AllByRecursion (λ m. n < m) (map key xs) → filter (λ x. eqb (key x) n) xs ≡ []
takes_none key n [] above = refl
takes_none key n (x ∷ xs) above =
    let here : n < key x = above.0 in
    let no : eqb (key x) n ≡ false = ne_eqb _ _ (λ e. omega arith) in
    rw no (takes_none key n xs above.1)

taken_out : {X : Type 0} (key : X → ℕ) (xs : List X) (i n : ℕ) → AreAscending (map key xs)
    → slice_get (map key xs) i ≡ Some n
    → take i xs ++ drop (suc i) xs ≡ filter (λ x. not (eqb (key x) n)) xs
taken_out key [] i n up at = absurd (cc)
taken_out key (x ∷ xs) zero n up at =
    let same : key x ≡ n = same_Some _ _ at in
    let yes : eqb (key x) n ≡ true = eq-eqb _ _ same in
    rw yes (sym (keeps_all key n xs
    (subst (λ (k : ℕ). AllByRecursion (λ m. k < m) (map key xs)) same up.0)))
taken_out key (x ∷ xs) (suc i) n up at =
    let above : key x < n = at_all (λ m. key x < m) (map key xs) i n up.0 at in
    let no : eqb (key x) n ≡ false = ne_eqb _ _ (λ e. omega arith) in
    rw no (ap (λ t. x ∷ t) (taken_out key xs i n up.1 at))

the_one : {X : Type 0} (key : X → ℕ) (xs : List X) (i n : ℕ) (d : X) → AreAscending (map key xs)
    → slice_get (map key xs) i ≡ Some n
    → filter (λ x. eqb (key x) n) xs ≡ get_or xs i d ∷ []
the_one key [] i n d up at = absurd (cc)
the_one key (x ∷ xs) zero n d up at =
    let same : key x ≡ n = same_Some _ _ at in
    let yes : eqb (key x) n ≡ true = eq-eqb _ _ same in
    rw yes (ap (λ t. x ∷ t)
    (takes_none key n xs (subst (λ (k : ℕ). AllByRecursion (λ m. k < m) (map key xs)) same up.0)))
the_one key (x ∷ xs) (suc i) n d up at =
    let above : key x < n = at_all (λ m. key x < m) (map key xs) i n up.0 at in
    let no : eqb (key x) n ≡ false = ne_eqb _ _ (λ e. omega arith) in
    rw no (the_one key xs i n d up.1 at)

-- An item is taken out at its place, and what f makes of it stands last.
pub gave_way : {X : Type 0} (key : X → ℕ) (f : X → X) (xs : List X) (i n : ℕ) (x : X)
    → AreAscending (map key xs) → slice_get (map key xs) i ≡ Some n
    → x ≡ get_or xs i x
    → remove xs i ++ f x ∷ [] ≡ filter (λ y. not (eqb (key y) n)) xs ++ map f
    (filter (λ y. eqb (key y) n) xs)
gave_way key f xs i n x up at is =
    let one : filter (λ y. eqb (key y) n) xs ≡ x ∷ [] =
    the_one key xs i n x up at ∙ ap (λ y. y ∷ []) (sym is) in
    rw one (ap (λ t. t ++ f x ∷ []) (taken_out key xs i n up at))

-- to rename twice is to rename once
rename_twice : (old next n : ℕ) → old < next
    → rename old next (rename old next n) ≡ rename old next n
rename_twice old next n less =
    let apart : eqb next old ≡ false = ne_eqb _ _ (λ e. omega arith) in
    ⊎_elim (λ yes. rw yes (rw apart refl)) (λ no. rw no (rw no refl)) (cases_Bool (eqb n old))

parent_twice : (old next : ℕ) (parent : Option (ℕ × ℕ)) → old < next
    → rename_parent old next (rename_parent old next parent) ≡ rename_parent old next parent
parent_twice old next None less = refl
parent_twice old next (Some (p, edge)) less =
    ap (λ (k : ℕ). Some (k, edge)) (rename_twice old next p less)

uses_twice : (old next : ℕ) (uses : List ℕ) → old < next
    → map (rename old next) (map (rename old next) uses) ≡ map (rename old next) uses
uses_twice old next [] less = refl
uses_twice old next (u ∷ uses) less =
    let head : rename old next (rename old next u) ≡ rename old next u =
    rename_twice old next u less in
    let tail : map (rename old next) (map (rename old next) uses) ≡ map (rename old next) uses =
    uses_twice old next uses less in
    ap (λ (k : ℕ). k ∷ map (rename old next) (map (rename old next) uses)) head
    ∙ ap (λ ks. rename old next u ∷ ks) tail

abbrev naming : Entry → Option (ℕ × ℕ) → List ℕ → Entry
naming e parent uses = record e { parent = parent; uses = uses }

renamed_twice : (old next : ℕ) (e : Entry) → old < next
    → renamed old next (renamed old next e) ≡ renamed old next e
renamed_twice old next e less =
    ap (λ (p : Option (ℕ × ℕ)). naming e p (map (rename old next) (map (rename old next) e.uses)))
    (parent_twice old next e.parent less)
    ∙ ap (λ (us : List ℕ). naming e (rename_parent old next e.parent) us)
    (uses_twice old next e.uses less)

-- an entry that does not name the old one stays
uses_none : (old next : ℕ) (uses : List ℕ) → ((k : ℕ) → IsIn k uses → eqb k old ≡ false)
    → map (rename old next) uses ≡ uses
uses_none old next [] none = refl
uses_none old next (u ∷ uses) none =
    let here : eqb u old ≡ false = none u (inl refl) in
    rw here (ap (λ ks. u ∷ ks) (uses_none old next uses (λ k there. none k (inr there))))

parent_none : (old next : ℕ) (parent : Option (ℕ × ℕ))
    → ((p edge : ℕ) → parent ≡ Some (p, edge) → eqb p old ≡ false)
    → rename_parent old next parent ≡ parent
parent_none old next None none = refl
parent_none old next (Some (p, edge)) none = let here : eqb p old ≡ false = none p edge refl in
    rw here refl

renamed_none : (old next : ℕ) (e : Entry)
    → ((p edge : ℕ) → e.parent ≡ Some (p, edge) → eqb p old ≡ false)
    → ((k : ℕ) → IsIn k e.uses → eqb k old ≡ false) → renamed old next e ≡ e
renamed_none old next e parents users =
    ap (λ (p : Option (ℕ × ℕ)). naming e p (map (rename old next) e.uses))
    (parent_none old next e.parent parents)
    ∙ ap (λ (us : List ℕ). naming e e.parent us) (uses_none old next e.uses users)

-- one more of those that are renamed
in_push_other : (ns : List ℕ) (m n : ℕ) → is_in n ns ≡ false
    → is_in n (ns ++ m ∷ []) ≡ (eqb m n || false)
in_push_other [] m n absent = refl
in_push_other (k ∷ ns) m n absent = ⊎_elim
    (λ yes. absurd (both_ways (eqb k n || is_in n ns) absent (or_left (eqb k n) (is_in n ns) yes)))
    (λ no. rw no (in_push_other ns m n (rw no at absent)))
    (cases_Bool (eqb k n))

among_one : (ns : List ℕ) (m old next : ℕ) (x : Entry) → old < next
    → cond (eqb (renamed_among ns old next x).number m)
    (renamed old next (renamed_among ns old next x)) (renamed_among ns old next x) ≡ renamed_among
    (ns ++ m ∷ []) old next x
among_one ns m old next x less = ⊎_elim
    (λ yes.
    let more : is_in x.number (ns ++ m ∷ []) ≡ true = in_push x.number ns m yes in
    rw (yes, more)
    (cond_both (eqb x.number m) (renamed old next (renamed old next x)) (renamed old next x)
    (λ y. y ≡ renamed old next x)
    (λ _. renamed_twice old next x less) (λ _. refl)))
    (λ no.
    let by_last : is_in x.number (ns ++ m ∷ []) ≡ (eqb m x.number || false) =
    in_push_other ns m x.number no in
    rw (no, by_last)
    (⊎_elim (λ same. let one : eqb x.number m ≡ true = eq-eqb x.number m same in
    let other : eqb m x.number ≡ true = eq-eqb m x.number (sym same) in rw (one, other) refl)
    (λ apart. let one : eqb x.number m ≡ false = ne_eqb x.number m apart in
    let other : eqb m x.number ≡ false = ne_eqb m x.number (λ e. apart (sym e)) in
    rw (one, other) refl)
    (cases_eq x.number m)))
    (cases_Bool (is_in x.number ns))

pub among_more : (ns : List ℕ) (m old next : ℕ) (xs : List Entry) → old < next
    → at_number m (renamed old next) (map (renamed_among ns old next) xs) ≡ map
    (renamed_among (ns ++ m ∷ []) old next) xs
among_more ns m old next [] less = refl
among_more ns m old next (x ∷ xs) less =
    ap (λ (y : Entry). y ∷ at_number m (renamed old next) (map (renamed_among ns old next) xs))
    (among_one ns m old next x less)
    ∙ ap (λ ys. renamed_among (ns ++ m ∷ []) old next x ∷ ys) (among_more ns m old next xs less)

pub among_none : (old next : ℕ) (xs : List Entry) → map (renamed_among [] old next) xs ≡ xs
among_none old next [] = refl
among_none old next (x ∷ xs) = ap (λ ys. x ∷ ys) (among_none old next xs)

-- no entry has the number
pub absent_same : (n : ℕ) (f : Entry → Entry) (xs : List Entry) → is_in n (numbers xs) ≡ false
    → at_number n f xs ≡ xs
absent_same n f [] absent = refl
absent_same n f (x ∷ xs) absent = ⊎_elim
    (λ yes. absurd (both_ways (eqb x.number n || is_in n (numbers xs)) absent
    (or_left (eqb x.number n) (is_in n (numbers xs)) yes)))
    (λ no. rw no (ap (λ ys. x ∷ ys) (absent_same n f xs (rw no at absent))))
    (cases_Bool (eqb x.number n))

none_later : (ls : List Link) (n m : ℕ) → AllByRecursion (λ j. n < j) (link_numbers ls)
    → is_named_by ls n m ≡ true → ⊥
none_later [] n m above named = absurd (cc)
none_later (l ∷ ls) n m above named =
    let here : n < l.number = above.0 in
    ⊎_elim (λ yes. let same : l.number ≡ n =
    eqb-true l.number n (and_parts (eqb l.number n) (is_in m l.namers) yes).0 in omega arith)
    (λ later. none_later ls n m above.1 later)
    (or_cases (eqb l.number n && is_in m l.namers) (is_named_by ls n m) named)

-- who is named is in the link of what is named
named_in : (ls : List Link) (i n m : ℕ) (d : Link) → AreAscending (link_numbers ls)
    → slice_get (link_numbers ls) i ≡ Some n → is_named_by ls n m ≡ true
    → is_in m (get_or ls i d).namers ≡ true
named_in [] i n m d up at named = absurd (cc)
named_in (l ∷ ls) zero n m d up at named = ⊎_elim
    (λ here. (and_parts (eqb l.number n) (is_in m l.namers) here).1)
    (λ later. absurd (none_later ls n m
    (subst (λ (k : ℕ). AllByRecursion (λ j. k < j) (link_numbers ls)) (same_Some _ _ at) up.0)
    later))
    (or_cases (eqb l.number n && is_in m l.namers) (is_named_by ls n m) named)
named_in (l ∷ ls) (suc i) n m d up at named = ⊎_elim
    (λ here. absurd (
    let above : l.number < n = at_all (λ j. l.number < j) (link_numbers ls) i n up.0 at in
    let same : l.number ≡ n =
    eqb-true l.number n (and_parts (eqb l.number n) (is_in m l.namers) here).0 in omega arith))
    (λ later. named_in ls i n m d up.1 at later)
    (or_cases (eqb l.number n && is_in m l.namers) (is_named_by ls n m) named)

map_agree : (f g : Entry → Entry) (xs : List Entry) → ((e : Entry) → IsIn e xs → f e ≡ g e)
    → map f xs ≡ map g xs
map_agree f g [] same = refl
map_agree f g (x ∷ xs) same =
    ap (λ (y : Entry). y ∷ map f xs) (same x (inl refl))
    ∙ ap (λ ys. g x ∷ ys) (map_agree f g xs (λ e there. same e (inr there)))

map_same : (f : Entry → Entry) (xs : List Entry) → ((e : Entry) → IsIn e xs → f e ≡ e)
    → map f xs ≡ xs
map_same f [] same = refl
map_same f (x ∷ xs) same =
    ap (λ (y : Entry). y ∷ map f xs) (same x (inl refl))
    ∙ ap (λ ys. x ∷ ys) (map_same f xs (λ e there. same e (inr there)))

-- what is not listed does not name the old one
names_not : (ls : List Link) (i old k m : ℕ) (d : Link) → AreAscending (link_numbers ls)
    → slice_get (link_numbers ls) i ≡ Some old → is_in m (get_or ls i d).namers ≡ false
    → is_named_by ls k m ≡ true → eqb k old ≡ false
names_not ls i old k m d up at absent named = ⊎_elim
    (λ yes. absurd (both_ways (is_in m (get_or ls i d).namers) absent
    (named_in ls i old m d up at
    (subst (λ (n : ℕ). is_named_by ls n m ≡ true) (eqb-true k old yes) named))))
    (λ no. no) (cases_Bool (eqb k old))

-- Those that are listed to name the old one are all that do.
pub renamed_all : (xs : List Entry) (ls : List Link) (i next old : ℕ) (es : List Elem) (d : Link)
    → IsTree xs ls → slice_get (link_numbers ls) i ≡ Some old
    → map (renamed_among (get_or ls i d).namers old next)
    (others old xs ++ map (replacing next es) (those old xs)) ≡ replaced_entries next xs old es
renamed_all xs ls i next old es d tree at =
    let ns = (get_or ls i d).namers in
    let g : Entry → Entry = renamed_among ns old next in
    let up : AreAscending (link_numbers ls) =
    subst (λ ks. AreAscending ks) (sym tree.same) tree.ascend in
    map-append g (others old xs) (map (replacing next es) (those old xs))
    ∙ ap (λ ys. ys ++ map g (map (replacing next es) (those old xs)))
    (map_agree g (renamed old next) (others old xs) (λ e there.
    let was = in_filter (λ x. not (eqb x.number old)) xs e there in
    let tied = tree.tied e was.0 in
    ⊎_elim (λ yes. rw yes refl)
    (λ no. rw no (sym (renamed_none old next e
    (λ p edge is. names_not ls i old p e.number d up at no (tied.child p edge is))
    (λ k used. names_not ls i old k e.number d up at no (tied.user k used)))))
    (cases_Bool (is_in e.number ns))))
    ∙ ap (λ ys. map (renamed old next) (others old xs) ++ ys)
    (map_same g (map (replacing next es) (those old xs)) (λ e there.
    let from = in_map (replacing next es) (those old xs) e there in
    let was = in_filter (λ x. eqb x.number old) xs from.0 from.1 in
    let same : e ≡ replacing next es from.0 = from.2 in
    let is_old : from.0.number ≡ old = eqb-true from.0.number old was.1 in
    let tied : IsTied ls old from.0.parent from.0.uses =
    subst (λ (n : ℕ). IsTied ls n from.0.parent from.0.uses) is_old (tree.tied from.0 was.0) in
    cond_both (is_in e.number ns) (renamed old next e) e (λ y. y ≡ e)
    (λ _. renamed_none old next e
    (λ p edge is. other_parent ls old from.0.parent from.0.uses p edge tied
    (ap (λ (y : Entry). y.parent) (sym same) ∙ is))
    (λ k used. absurd (subst (λ (y : Entry). IsIn k y.uses) same used)))
    (λ _. refl)))

pub renamed_by : (xs : List Entry) (ls : List Link) (i next old : ℕ) (es : List Elem) (l : Link)
    → IsTree xs ls → slice_get (link_numbers ls) i ≡ Some old → l ≡ get_or ls i l
    → map (renamed_among l.namers old next)
    (others old xs ++ map (replacing next es) (those old xs)) ≡ replaced_entries next xs old es
renamed_by xs ls i next old es l tree at is =
    ap (λ (k : Link). map (renamed_among k.namers old next)
    (others old xs ++ map (replacing next es) (those old xs))) is
    ∙ renamed_all xs ls i next old es l tree at

pub among_number : (ns : List ℕ) (old next : ℕ) (e : Entry)
    → (renamed_among ns old next e).number ≡ e.number
among_number ns old next e =
    cond_both (is_in e.number ns) (renamed old next e) e (λ y. y.number ≡ e.number) (λ _. refl)
    (λ _. refl)
