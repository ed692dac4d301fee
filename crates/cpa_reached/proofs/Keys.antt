-- What stands in an ascending list at the place of a number, and what a write there does
-- (`written`, `taken_back`).
use Rattle.std.proofs.Common.{◌≡◌, ℕ, zero, suc, ◌<◌, ◌≤◌, true, false, eqb}
use Rattle.std.proofs.Common.{List, [], ◌∷◌, ◌++◌, length, get_or, map, Some, slice_get, cond}
use Rattle.std.proofs.Common.{refl, sym, ap, ◌∙◌, subst, inl, inr, ⊎_elim, arith}
use Rattle.std.proofs.Math.ListN.{set}
use Rattle.std.specs.List.{AllByRecursion}
use Rattle.std.proofs.lemmas.Bool.{eq-eqb, ne_eqb, eqb-true, or_cases}
use Rattle.std.proofs.lemmas.Option.{same_Some}
use Rattle.cpa_iface.specs.declared.entries.Entry.{Entry}
use Rattle.cpa_reached.specs.declared.links.Link.{Link}
use Rattle.cpa_model.specs.Ascending.{AreAscending}
use Rattle.cpa_reached.specs.Members.{IsIn, is_in}
use Rattle.cpa_reached.specs.Calls.{at_number, gains}
use Rattle.cpa_reached.specs.Entries.{numbers}
use Rattle.cpa_reached.specs.lemmas.MemberLaws.{in_all, entry_in}
use Rattle.cpa_reached.specs.Kept.{at_key, link_numbers, depth_of}

pub at_all : (P : ℕ → Type 0) (ns : List ℕ) (i n : ℕ) → AllByRecursion P ns
    → slice_get ns i ≡ Some n → P n
at_all P [] i n all at = absurd (cc)
at_all P (m ∷ ns) zero n all at = subst P (same_Some _ _ at) all.0
at_all P (m ∷ ns) (suc i) n all at = at_all P ns i n all.1 at

pub get_all : (P : ℕ → Type 0) (xs : List Entry) (j : ℕ) (d : Entry) → AllByRecursion P (numbers xs)
    → j < length xs → P (get_or xs j d).number
get_all P [] j d all less = absurd (omega arith)
get_all P (x ∷ xs) zero d all less = all.0
get_all P (x ∷ xs) (suc j) d all less = get_all P xs j d all.1 (omega arith)

-- numbers do not fall from place to place
pub places_rise : (xs : List Entry) → AreAscending (numbers xs) → (i j : ℕ) (d : Entry) → i ≤ j
    → j < length xs → (get_or xs i d).number ≤ (get_or xs j d).number
places_rise [] up i j d le less = absurd (omega arith)
places_rise (x ∷ xs) up zero zero d le less = omega arith
places_rise (x ∷ xs) up zero (suc j) d le less =
    let above : x.number < (get_or xs j d).number =
    get_all (λ m. x.number < m) xs j d up.0 (omega arith) in omega arith
places_rise (x ∷ xs) up (suc i) zero d le less = absurd (omega arith)
places_rise (x ∷ xs) up (suc i) (suc j) d le less =
    places_rise xs up.1 i j d (omega arith) (omega arith)

-- the place that parts lower numbers from the others is that of the number
pub found_at : (xs : List Entry) (n p : ℕ) → AreAscending (numbers xs)
    → ((k : ℕ) (d : Entry) → k < p → (get_or xs k d).number < n)
    → ((k : ℕ) (d : Entry) → p ≤ k → k < length xs → n ≤ (get_or xs k d).number)
    → is_in n (numbers xs) ≡ true → slice_get (numbers xs) p ≡ Some n
found_at [] n p up before from there = absurd (cc)
found_at (x ∷ xs) n zero up before from there =
    let low : n ≤ x.number = from zero x (omega arith) (omega arith) in
    ⊎_elim (λ same. ap (λ (k : ℕ). Some k) (eqb-true x.number n same))
    (λ later. absurd (let above : x.number < n =
    in_all (λ m. x.number < m) (numbers xs) n up.0 later in omega arith))
    (or_cases (eqb x.number n) (is_in n (numbers xs)) there)
found_at (x ∷ xs) n (suc p) up before from there =
    let low : x.number < n = before zero x (omega arith) in
    ⊎_elim (λ same. absurd (let e : x.number ≡ n = eqb-true x.number n same in omega arith))
    (λ later. found_at xs n p up.1 (λ k d less. before (suc k) d (omega arith))
    (λ k d le less. from (suc k) d (omega arith) (omega arith)) later)
    (or_cases (eqb x.number n) (is_in n (numbers xs)) there)

pub at_within : (xs : List Entry) (n p : ℕ) → slice_get (numbers xs) p ≡ Some n → p < length xs
at_within [] n p at = absurd (cc)
at_within (x ∷ xs) n zero at = omega arith
at_within (x ∷ xs) n (suc p) at = let less : p < length xs = at_within xs n p at in omega arith

-- the number at a place that is there
pub number_at : (xs : List Entry) (p : ℕ) (d : Entry) → p < length xs
    → slice_get (numbers xs) p ≡ Some (get_or xs p d).number
number_at [] p d less = absurd (omega arith)
number_at (x ∷ xs) zero d less = refl
number_at (x ∷ xs) (suc p) d less = number_at xs p d (omega arith)

-- a number has one entry
pub one_at : (xs : List Entry) (p n : ℕ) (d e : Entry) → AreAscending (numbers xs)
    → slice_get (numbers xs) p ≡ Some n → IsIn e xs → e.number ≡ n → get_or xs p d ≡ e
one_at [] p n d e up at there is = absurd there
one_at (x ∷ xs) zero n d e up at (inl same) is = same
one_at (x ∷ xs) zero n d e up at (inr later) is =
    absurd (
    let above : x.number < e.number =
    in_all (λ m. x.number < m) (numbers xs) e.number up.0 (entry_in e xs later) in
    let here : x.number ≡ n = same_Some _ _ at in omega arith)
one_at (x ∷ xs) (suc p) n d e up at (inl same) is =
    absurd (
    let above : x.number < n = at_all (λ m. x.number < m) (numbers xs) p n up.0 at in
    let here : x.number ≡ e.number = ap (λ (y : Entry). y.number) same in omega arith)
one_at (x ∷ xs) (suc p) n d e up at (inr later) is = one_at xs p n d e up.1 at later is

-- what is kept of the entry at its place is what is kept of its number
pub depth_there : (ls : List Link) (p n : ℕ) (d : Link) → AreAscending (link_numbers ls)
    → slice_get (link_numbers ls) p ≡ Some n → (get_or ls p d).depth ≡ depth_of n ls
depth_there [] p n d up at = absurd (cc)
depth_there (l ∷ ls) zero n d up at = let yes : eqb l.number n ≡ true =
    eq-eqb _ _ (same_Some _ _ at) in rw yes refl
depth_there (l ∷ ls) (suc p) n d up at =
    let above : l.number < n = at_all (λ m. l.number < m) (link_numbers ls) p n up.0 at in
    let no : eqb l.number n ≡ false = ne_eqb _ _ (λ e. omega arith) in
    rw no (depth_there ls p n d up.1 at)

-- where all numbers are greater, none is changed
pub untouched : {X : Type 0} (key : X → ℕ) (n : ℕ) (f : X → X) (xs : List X)
    → AllByRecursion (λ m. n < m) (map key xs) → at_key key n f xs ≡ xs
untouched key n f [] above = refl
untouched key n f (x ∷ xs) above =
    let here : n < key x = above.0 in
    let no : eqb (key x) n ≡ false = ne_eqb _ _ (λ e. omega arith) in
    rw no (ap (λ t. x ∷ t) (untouched key n f xs above.1))

-- A write at the place of a number changes the item of that number, and no other.
pub written : {X : Type 0} (key : X → ℕ) (xs : List X) (i n : ℕ) (f : X → X) (d x : X)
    → AreAscending (map key xs) → slice_get (map key xs) i ≡ Some n → x ≡ get_or xs i d
    → set xs i (f x) ≡ at_key key n f xs
written key [] i n f d x up at is = absurd (cc)
written key (y ∷ ys) zero n f d x up at is =
    let same : key y ≡ n = same_Some _ _ at in
    let yes : eqb (key y) n ≡ true = eq-eqb _ _ same in
    let rest : at_key key n f ys ≡ ys =
    untouched key n f ys (subst (λ (k : ℕ). AllByRecursion (λ m. k < m) (map key ys)) same up.0)
    in
    rw (yes, is) (ap (λ t. f y ∷ t) (sym rest))
written key (y ∷ ys) (suc i) n f d x up at is =
    let above : key y < n = at_all (λ m. key y < m) (map key ys) i n up.0 at in
    let no : eqb (key y) n ≡ false = ne_eqb _ _ (λ e. omega arith) in
    rw no (ap (λ t. y ∷ t) (written key ys i n f d x up.1 at is))

-- Where an entry has just gained a use, and its last use goes, the entries are as before.
pub taken_back : (xs : List Entry) (n by i : ℕ) (d there : Entry) (rest : List ℕ)
    → AreAscending (numbers xs) → slice_get (numbers xs) i ≡ Some n
    → there ≡ get_or (at_number n (gains by) xs) i d
    → ((ns : List ℕ) (k : ℕ) → there.uses ≡ ns ++ k ∷ [] → rest ≡ ns)
    → set (at_number n (gains by) xs) i (record there { uses = rest }) ≡ xs
taken_back [] n by i d there rest up at is goes = absurd (cc)
taken_back (y ∷ ys) n by zero d there rest up at is goes =
    let same : y.number ≡ n = same_Some _ _ at in
    let yes : eqb y.number n ≡ true = eq-eqb _ _ same in
    let later : at_number n (gains by) ys ≡ ys =
    untouched (λ (e : Entry). e.number) n (gains by) ys
    (subst (λ (k : ℕ). AllByRecursion (λ m. k < m) (numbers ys)) same up.0) in
    let here : there ≡ gains by y = is ∙ ap (λ b. cond b (gains by y) y) yes in
    let were : rest ≡ y.uses = goes y.uses by (ap (λ (e : Entry). e.uses) here) in
    ap (λ (e : Entry). record e { uses = rest } ∷ at_number n (gains by) ys) here
    ∙ (ap (λ (us : List ℕ). record y { uses = us } ∷ at_number n (gains by) ys) were
    ∙ ap (λ (t : List Entry). y ∷ t) later)
taken_back (y ∷ ys) n by (suc i) d there rest up at is goes =
    let above : y.number < n = at_all (λ m. y.number < m) (numbers ys) i n up.0 at in
    let no : eqb y.number n ≡ false = ne_eqb _ _ (λ e. omega arith) in
    rw no (ap (λ t. y ∷ t) (taken_back ys n by i d there rest up.1 at is goes))
