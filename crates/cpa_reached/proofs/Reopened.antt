-- Which entries wait again: they are listed by what goes (`listed_again`), they are those that are
-- opened (`told`, `opened_left`), and with them the waiting numbers are found (`waits_exactly`).
use Rattle.std.proofs.Common.{◌≡◌, ℕ, zero, suc, ◌+◌, ◌<◌, Bool, true, false, eqb, cond, not}
use Rattle.std.proofs.Common.{◌&&◌, ◌||◌, List, [], ◌∷◌, ◌++◌, map, take, length, get_or, refl}
use Rattle.std.proofs.Common.{sym, ap, ◌∙◌, subst, inl, inr, ⊎_elim, arith}
use Rattle.std.specs.List.{AllByRecursion, filter, list_any}
use Rattle.std.specs.Cmp.{both_ways as alike}
use Rattle.std.proofs.lemmas.Bool.{eq-eqb, eqb-true, or_cases, cond_both, cases_Bool}
use Rattle.std.proofs.lemmas.Bool.{and_parts, and_from, not-true}
use Rattle.std.proofs.lemmas.List.{take_more}
use Rattle.cpa_iface.specs.declared.entries.Entry.{Entry}
use Rattle.cpa_model.specs.Ascending.{AreAscending}
use Rattle.cpa_reached.specs.declared.links.Link.{Link}
use Rattle.cpa_reached.specs.Members.{IsIn, is_in}
use Rattle.cpa_reached.specs.Calls.{at_number}
use Rattle.cpa_reached.specs.Entries.{IsLive, numbers, waiting_numbers}
use Rattle.cpa_reached.specs.Kept.{IsTree, is_named_by, opened_among, waits_after, waits_again}
use Rattle.cpa_reached.specs.lemmas.MemberLaws.{or_left, or_right, entry_in, in_live, in_filter}
use Rattle.cpa_reached.specs.lemmas.MemberLaws.{filter_in}
use Rattle.cpa_reached.specs.lemmas.MemberLaws.{ascend_kept, by_number, live_filtered, map_in}
use Rattle.cpa_reached.specs.Removal.{is_opened, left, opened, without}
use Rattle.cpa_reached.proofs.Choosing.{ascending_same, filter_member, member_filter, in_front}
use Rattle.cpa_reached.proofs.Choosing.{in_back, in_either}
use Rattle.cpa_reached.proofs.Pruned.{waits_left}

-- ---- who may wait again

some_use : (gone uses : List ℕ) → list_any (λ n. is_in n gone) uses ≡ true → (k : ℕ) × IsIn k uses
    × (is_in k gone ≡ true)
some_use gone [] some = absurd (cc)
some_use gone (n ∷ uses) some =
    ⊎_elim (λ here. (n, inl refl, here))
    (λ later. let r = some_use gone uses later in (r.0, inr r.1, r.2))
    (or_cases (is_in n gone) (list_any (λ k. is_in k gone) uses) some)

pub listed_again : (xs : List Entry) (ls : List Link) (gone : List ℕ) (pivot : ℕ) (found : List ℕ)
    → IsTree xs ls → is_in pivot found ≡ true
    → ((n m : ℕ) → is_in n gone ≡ true → is_named_by ls n m ≡ true → is_in m found ≡ true)
    → (e : Entry) → IsIn e xs → waits_again gone pivot e ≡ true → is_in e.number found ≡ true
listed_again xs ls gone pivot found tree at_pivot all e there passes =
    let again = (and_parts (not (is_in e.number gone)) (is_opened gone pivot e) passes).1 in
    ⊎_elim
    (λ same. subst (λ (k : ℕ). is_in k found ≡ true) (sym (eqb-true e.number pivot same)) at_pivot)
    (λ some.
    let u = some_use gone e.uses some in
    all u.0 e.number u.2 ((tree.tied e there).user u.0 u.1))
    (or_cases (eqb e.number pivot) (list_any (λ n. is_in n gone) e.uses) again)

-- ---- those that wait again are those that are opened

any_same : (gone others uses : List ℕ) → ((n : ℕ) → is_in n gone ≡ is_in n others)
    → list_any (λ n. is_in n gone) uses ≡ list_any (λ n. is_in n others) uses
any_same gone others [] same = refl
any_same gone others (n ∷ uses) same =
    ap (λ (b : Bool). b || list_any (λ k. is_in k gone) uses) (same n)
    ∙ ap (λ (b : Bool). is_in n others || b) (any_same gone others uses same)

opened_same : (gone others : List ℕ) (pivot : ℕ) (e : Entry)
    → ((n : ℕ) → is_in n gone ≡ is_in n others)
    → is_opened gone pivot e ≡ is_opened others pivot e
opened_same gone others pivot e same =
    ap (λ (b : Bool). eqb e.number pivot || b) (any_same gone others e.uses same)

again_same : (gone others : List ℕ) (pivot : ℕ) (xs : List Entry)
    → ((n : ℕ) → is_in n gone ≡ is_in n others)
    → numbers (filter (waits_again gone pivot) xs)
    ≡ numbers (filter (is_opened others pivot) (without others xs))
again_same gone others pivot [] same = refl
again_same gone others pivot (x ∷ xs) same =
    let rest = again_same gone others pivot xs same in
    ⊎_elim
    (λ (h : is_in x.number others ≡ true).
    let g : is_in x.number gone ≡ true = same x.number ∙ h in rw (g, h) rest)
    (λ (h : is_in x.number others ≡ false).
    let g : is_in x.number gone ≡ false = same x.number ∙ h in
    let o = opened_same gone others pivot x same in
    ⊎_elim
    (λ (y : is_opened others pivot x ≡ true).
    let z : is_opened gone pivot x ≡ true = o ∙ y in
    rw (g, h, y, z) (ap (λ (ns : List ℕ). x.number ∷ ns) rest))
    (λ (y : is_opened others pivot x ≡ false).
    let z : is_opened gone pivot x ≡ false = o ∙ y in rw (g, h, y, z) rest)
    (cases_Bool (is_opened others pivot x)))
    (cases_Bool (is_in x.number others))

-- So it is told, by whatever list of what goes.
pub told : (pivot : ℕ) (xs : List Entry) (mine gone found : List ℕ)
    → ((n : ℕ) → is_in n mine ≡ is_in n gone)
    → found ≡ numbers (filter (waits_again mine pivot) xs)
    → found ≡ numbers (filter (is_opened gone pivot) (without gone xs))
told pivot xs mine gone found same is = is ∙ again_same mine gone pivot xs same

-- ---- what becomes of the entries

map_members : (f g : Entry → Entry) (zs : List Entry) → ((z : Entry) → IsIn z zs → f z ≡ g z)
    → map f zs ≡ map g zs
map_members f g [] each = refl
map_members f g (z ∷ zs) each =
    ap (λ (y : Entry). y ∷ map f zs) (each z (inl refl))
    ∙ ap (λ (ys : List Entry). g z ∷ ys) (map_members f g zs (λ y there. each y (inr there)))

pub opened_left : (gone : List ℕ) (pivot : ℕ) (xs : List Entry) (found : List ℕ)
    → AreAscending (numbers xs) → found ≡ numbers (filter (waits_again gone pivot) xs)
    → map (opened_among found) (without gone xs) ≡ map (left gone pivot) (without gone xs)
opened_left gone pivot xs found up is =
    map_members (opened_among found) (left gone pivot) (without gone xs)
    (λ e there.
    let was = in_filter (λ y. not (is_in y.number gone)) xs e there in
    let kept : is_in e.number gone ≡ false = not-true (is_in e.number gone) was.1 in
    let here : waits_again gone pivot e ≡ is_opened gone pivot e =
    ap (λ (b : Bool). not b && is_opened gone pivot e) kept in
    ap (λ (b : Bool). cond b (opened e) e)
    (ap (is_in e.number) is ∙ by_number (waits_again gone pivot) xs up e was.0 ∙ here))

-- so those that are opened are kept
pub again_kept : (gone : List ℕ) (pivot : ℕ) (xs : List Entry) (found : List ℕ)
    → found ≡ numbers (filter (waits_again gone pivot) xs)
    → AllByRecursion (IsLive (without gone xs)) found
again_kept gone pivot xs found is =
    subst (AllByRecursion (IsLive (without gone xs)))
    (sym (is ∙ again_same gone gone pivot xs (λ n. refl)))
    (live_filtered (is_opened gone pivot) (without gone xs))

-- ---- one entry after the other

any_push : (n : ℕ) (ns : List ℕ) (m : ℕ) → is_in n (ns ++ m ∷ []) ≡ (is_in n ns || eqb m n)
any_push n [] m = by (eqb m n)
  where
    by : (b : Bool) → (b || false) ≡ b
    by true = refl
    by false = refl
any_push n (k ∷ ns) m =
    ⊎_elim (λ yes. rw yes refl) (λ other. rw other (any_push n ns m)) (cases_Bool (eqb k n))

eqb_sym : (a b : ℕ) → eqb a b ≡ eqb b a
eqb_sym a b =
    alike (eqb a b) (eqb b a) (λ h. eq-eqb b a (sym (eqb-true a b h)))
    (λ h. eq-eqb a b (sym (eqb-true b a h)))

pub in_more : (ns : List ℕ) (m n : ℕ) → is_in n (ns ++ m ∷ []) ≡ (is_in n ns || eqb n m)
in_more ns m n = any_push n ns m ∙ ap (λ (b : Bool). is_in n ns || b) (eqb_sym m n)

pub opened_number : (ns : List ℕ) (e : Entry) → (opened_among ns e).number ≡ e.number
opened_number ns e =
    cond_both (is_in e.number ns) (opened e) e (λ (y : Entry). y.number ≡ e.number)
    (λ _. refl) (λ _. refl)

pub opened_elems : (ns : List ℕ) (e : Entry) → (opened_among ns e).elems ≡ e.elems
opened_elems ns e =
    cond_both (is_in e.number ns) (opened e) e (λ (y : Entry). y.elems ≡ e.elems)
    (λ _. refl) (λ _. refl)

one_opened : (ns : List ℕ) (n : ℕ) (e : Entry)
    → cond (eqb (opened_among ns e).number n) (opened (opened_among ns e)) (opened_among ns e)
    ≡ opened_among (ns ++ n ∷ []) e
one_opened ns n e =
    ap (λ (k : ℕ). cond (eqb k n) (opened (opened_among ns e)) (opened_among ns e))
    (opened_number ns e)
    ∙ by (is_in e.number ns) (eqb e.number n)
    ∙ ap (λ (b : Bool). cond b (opened e) e) (sym (in_more ns n e.number))
  where
    by : (b c : Bool) → cond c (opened (cond b (opened e) e)) (cond b (opened e) e)
        ≡ cond (b || c) (opened e) e
    by true true = refl
    by true false = refl
    by false true = refl
    by false false = refl

all_opened : (ns : List ℕ) (n : ℕ) (xs : List Entry)
    → at_number n opened (map (opened_among ns) xs) ≡ map (opened_among (ns ++ n ∷ [])) xs
all_opened ns n [] = refl
all_opened ns n (x ∷ xs) =
    ap (λ (y : Entry). y ∷ at_number n opened (map (opened_among ns) xs)) (one_opened ns n x)
    ∙ ap (λ (ys : List Entry). opened_among (ns ++ n ∷ []) x ∷ ys) (all_opened ns n xs)

pub opens_more : (found : List ℕ) (i : ℕ) (xs old new : List Entry) → i < length found
    → old ≡ map (opened_among (take i found)) xs
    → new ≡ at_number (get_or found i 0) opened old
    → new ≡ map (opened_among (take (i + 1) found)) xs
opens_more found i xs old new less so_far more =
    let n = get_or found i 0 in
    more ∙ ap (at_number n opened) so_far ∙ all_opened (take i found) n xs
    ∙ ap (λ (ns : List ℕ). map (opened_among ns) xs) (sym (take_more found i 0 less))

pub none_opened : (xs : List Entry) → map (opened_among []) xs ≡ xs
none_opened [] = refl
none_opened (x ∷ xs) = ap (λ (ys : List Entry). x ∷ ys) (none_opened xs)

numbers_opened : (ns : List ℕ) (xs : List Entry) → numbers (map (opened_among ns) xs) ≡ numbers xs
numbers_opened ns [] = refl
numbers_opened ns (x ∷ xs) =
    ap (λ (k : ℕ). k ∷ numbers (map (opened_among ns) xs)) (opened_number ns x)
    ∙ ap (λ (ks : List ℕ). x.number ∷ ks) (numbers_opened ns xs)

pub still_ascending : (ns : List ℕ) (xs ys : List Entry) → ys ≡ map (opened_among ns) xs
    → AreAscending (numbers xs) → AreAscending (numbers ys)
still_ascending ns xs ys is up =
    subst AreAscending (sym (ap numbers is ∙ numbers_opened ns xs)) up

item_of : (P : ℕ → Type 0) (ns : List ℕ) (i : ℕ) → AllByRecursion P ns → i < length ns
    → P (get_or ns i 0)
item_of P [] i all less = absurd (omega (arith, less))
item_of P (n ∷ ns) zero all less = all.0
item_of P (n ∷ ns) (suc i) all less = item_of P ns i all.1 (omega (arith, less))

pub still_live : (ns : List ℕ) (xs ys : List Entry) (found : List ℕ) (i : ℕ)
    → ys ≡ map (opened_among ns) xs → AllByRecursion (IsLive xs) found → i < length found
    → IsLive ys (get_or found i 0)
still_live ns xs ys found i is all less =
    let live = item_of (IsLive xs) found i all less in
    subst (λ (zs : List Entry). IsLive zs (get_or found i 0)) (sym is)
    (record {
      entry = opened_among ns live.entry;
      is_in = map_in (opened_among ns) xs live.entry live.is_in;
      is = opened_number ns live.entry ∙ live.is;
    })

pub live_item : (xs : List Entry) (ns : List ℕ) (i : ℕ) → AllByRecursion (IsLive xs) ns
    → i < length ns → IsLive xs (get_or ns i 0)
live_item xs ns i all less = item_of (IsLive xs) ns i all less

-- ---- the waiting numbers

left_waits : (gone : List ℕ) (pivot : ℕ) (e : Entry) → (left gone pivot e).waiting
    ≡ (is_opened gone pivot e || e.waiting)
left_waits gone pivot e = by (is_opened gone pivot e)
  where
    by : (b : Bool) → (cond b (opened e) e).waiting ≡ (b || e.waiting)
    by true = refl
    by false = refl

in_numbers : (t : Entry → Bool) (xs : List Entry) (e : Entry) (k : ℕ) → IsIn e xs → e.number ≡ k
    → t e ≡ true → is_in k (numbers (filter t xs)) ≡ true
in_numbers t xs e k there is passes =
    subst (λ (j : ℕ). is_in j (numbers (filter t xs)) ≡ true) is
    (entry_in e (filter t xs) (filter_in t xs e there passes))

abbrev stays : List ℕ → ℕ → Bool
stays gone n = not (is_in n gone)

waits_then : (gone : List ℕ) (pivot : ℕ) (xs : List Entry) (k : ℕ)
    → is_in k (filter (stays gone) (waiting_numbers xs)
    ++ numbers (filter (waits_again gone pivot) xs)) ≡ true
    → is_in k (numbers (filter (waits_after gone pivot) xs)) ≡ true
waits_then gone pivot xs k there =
    ⊎_elim
    (λ h.
    let f = filter_member (stays gone) (waiting_numbers xs) k h in
    let live = in_live (filter (λ e. e.waiting) xs) k f.0 in
    let was = in_filter (λ e. e.waiting) xs live.entry live.is_in in
    let e = live.entry in
    in_numbers (waits_after gone pivot) xs e k was.0 live.is
    (and_from (stays gone e.number) (left gone pivot e).waiting
    (subst (λ (j : ℕ). stays gone j ≡ true) (sym live.is) f.1)
    (left_waits gone pivot e ∙ or_right (is_opened gone pivot e) e.waiting was.1)))
    (λ h.
    let live = in_live (filter (waits_again gone pivot) xs) k h in
    let was = in_filter (waits_again gone pivot) xs live.entry live.is_in in
    let e = live.entry in
    let parts = and_parts (stays gone e.number) (is_opened gone pivot e) was.1 in
    in_numbers (waits_after gone pivot) xs e k was.0 live.is
    (and_from (stays gone e.number) (left gone pivot e).waiting parts.0
    (left_waits gone pivot e ∙ or_left (is_opened gone pivot e) e.waiting parts.1)))
    (in_either k (filter (stays gone) (waiting_numbers xs))
    (numbers (filter (waits_again gone pivot) xs)) there)

then_waits : (gone : List ℕ) (pivot : ℕ) (xs : List Entry) (k : ℕ)
    → is_in k (numbers (filter (waits_after gone pivot) xs)) ≡ true
    → is_in k (filter (stays gone) (waiting_numbers xs)
    ++ numbers (filter (waits_again gone pivot) xs)) ≡ true
then_waits gone pivot xs k there =
    let live = in_live (filter (waits_after gone pivot) xs) k there in
    let was = in_filter (waits_after gone pivot) xs live.entry live.is_in in
    let e = live.entry in
    let parts = and_parts (stays gone e.number) (left gone pivot e).waiting was.1 in
    let ws = filter (stays gone) (waiting_numbers xs) in
    let again = numbers (filter (waits_again gone pivot) xs) in
    ⊎_elim
    (λ o. in_back k ws again
    (in_numbers (waits_again gone pivot) xs e k was.0 live.is
    (and_from (stays gone e.number) (is_opened gone pivot e) parts.0 o)))
    (λ w. in_front k ws again
    (member_filter (stays gone) (waiting_numbers xs) k
    (in_numbers (λ y. y.waiting) xs e k was.0 live.is w)
    (subst (λ (j : ℕ). stays gone j ≡ true) live.is parts.0)))
    (or_cases (is_opened gone pivot e) e.waiting (sym (left_waits gone pivot e) ∙ parts.1))

pub waits_exactly : (gone : List ℕ) (pivot : ℕ) (xs : List Entry) (ws found after : List ℕ)
    → AreAscending (numbers xs) → ws ≡ waiting_numbers xs
    → found ≡ numbers (filter (waits_again gone pivot) xs) → AreAscending after
    → ((n : ℕ) → is_in n after ≡ is_in n (filter (λ m. not (is_in m gone)) ws ++ found))
    → after ≡ waiting_numbers (map (left gone pivot) (without gone xs))
waits_exactly gone pivot xs ws found after up is_ws is_found up_after same =
    let both : filter (stays gone) ws ++ found
    ≡ filter (stays gone) (waiting_numbers xs) ++ numbers (filter (waits_again gone pivot) xs) =
    ap (λ (ns : List ℕ). filter (stays gone) ns ++ found) is_ws
    ∙ ap (λ (ns : List ℕ). filter (stays gone) (waiting_numbers xs) ++ ns) is_found in
    ascending_same after (numbers (filter (waits_after gone pivot) xs)) up_after
    (ascend_kept (waits_after gone pivot) xs up)
    (λ k h. waits_then gone pivot xs k (sym (ap (is_in k) both) ∙ sym (same k) ∙ h))
    (λ k h. same k ∙ ap (is_in k) both ∙ then_waits gone pivot xs k h)
    ∙ waits_left gone pivot xs
