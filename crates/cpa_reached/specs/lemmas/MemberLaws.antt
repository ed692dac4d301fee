-- Members of lists and entries by their numbers: that a number has one entry (`one_entry`), and
-- what a change of each entry, a filter and a push leave. Lemmas for the crates above.
use Rattle.std.specs.Prelude.{◌≡◌, ℕ, ◌<◌, Bool, true, false}
use Rattle.std.specs.Prelude.{List, [], ◌∷◌, ◌++◌, map, refl, ◌⊎◌}
use Rattle.std.proofs.Common.{eqb, sym, ap, ◌∙◌, subst, inl, inr, ⊎_elim, arith}
use Rattle.std.specs.List.{AllByRecursion, filter}
use Rattle.std.proofs.lemmas.Bool.{cases_Bool, eq-eqb, ne_eqb, eqb-true, or_cases, cond_both}
use Rattle.cpa_iface.specs.declared.entries.Entry.{Entry}
use Rattle.cpa_model.specs.Ascending.{AreAscending}
pub use Rattle.cpa_reached_opening.specs.lemmas.MemberLaws.{or_left, or_right, member_in, in_member}
use Rattle.cpa_reached.specs.Members.{IsIn, is_in}
use Rattle.cpa_reached.specs.Entries.{numbers, IsLive}

-- what holds of all numbers of a list holds of one of them
pub in_all : (P : ℕ → Type 0) (ns : List ℕ) (n : ℕ) → AllByRecursion P ns → is_in n ns ≡ true → P n
in_all P [] n all there = absurd (cc)
in_all P (m ∷ ns) n all there =
    ⊎_elim (λ same. subst P (eqb-true m n same) all.0) (λ later. in_all P ns n all.1 later)
    (or_cases (eqb m n) (is_in n ns) there)

-- an item of the list
pub entry_in : (e : Entry) (xs : List Entry) → IsIn e xs → is_in e.number (numbers xs) ≡ true
entry_in e [] there = absurd there
entry_in e (x ∷ xs) (inl same) =
    or_left (eqb x.number e.number) (is_in e.number (numbers xs))
    (eq-eqb _ _ (ap (λ (y : Entry). y.number) same))
entry_in e (x ∷ xs) (inr later) =
    or_right (eqb x.number e.number) (is_in e.number (numbers xs)) (entry_in e xs later)

pub live_in : (xs : List Entry) (n : ℕ) → IsLive xs n → is_in n (numbers xs) ≡ true
live_in xs n live = subst (λ (k : ℕ). is_in k (numbers xs) ≡ true) live.is
    (entry_in live.entry xs live.is_in)

pub in_live : (xs : List Entry) (n : ℕ) → is_in n (numbers xs) ≡ true → IsLive xs n
in_live [] n there = absurd (cc)
in_live (x ∷ xs) n there =
    ⊎_elim (λ same. record { entry = x; is_in = inl refl; is = eqb-true x.number n same })
    (λ later. let l = in_live xs n later in
    record { entry = l.entry; is_in = inr l.is_in; is = l.is })
    (or_cases (eqb x.number n) (is_in n (numbers xs)) there)

pub one_entry : (xs : List Entry) (d e : Entry) → AreAscending (numbers xs) → IsIn d xs → IsIn e xs
    → d.number ≡ e.number → d ≡ e
one_entry [] d e up in_d in_e same = absurd in_d
one_entry (x ∷ xs) d e up (inl is_d) (inl is_e) same = sym is_d ∙ is_e
one_entry (x ∷ xs) d e up (inl is_d) (inr in_e) same =
    absurd (
    let above : x.number < e.number =
    in_all (λ m. x.number < m) (numbers xs) e.number up.0 (entry_in e xs in_e) in
    let here : x.number ≡ d.number = ap (λ (y : Entry). y.number) is_d in omega arith)
one_entry (x ∷ xs) d e up (inr in_d) (inl is_e) same =
    absurd (
    let above : x.number < d.number =
    in_all (λ m. x.number < m) (numbers xs) d.number up.0 (entry_in d xs in_d) in
    let here : x.number ≡ e.number = ap (λ (y : Entry). y.number) is_e in omega arith)
one_entry (x ∷ xs) d e up (inr in_d) (inr in_e) same = one_entry xs d e up.1 in_d in_e same

-- numbers of a list
pub in_push : (n : ℕ) (ns : List ℕ) (m : ℕ) → is_in n ns ≡ true → is_in n (ns ++ m ∷ []) ≡ true
in_push n [] m there = absurd (cc)
in_push n (k ∷ ns) m there =
    ⊎_elim (λ same. or_left (eqb k n) (is_in n (ns ++ m ∷ [])) same)
    (λ later. or_right (eqb k n) (is_in n (ns ++ m ∷ [])) (in_push n ns m later))
    (or_cases (eqb k n) (is_in n ns) there)

pub in_last : (ns : List ℕ) (m : ℕ) → is_in m (ns ++ m ∷ []) ≡ true
in_last [] m = or_left (eqb m m) false (eq-eqb m m refl)
in_last (k ∷ ns) m = or_right (eqb k m) (is_in m (ns ++ m ∷ [])) (in_last ns m)

-- a number that is above all is none of them
pub above_absent : (n : ℕ) (ns : List ℕ) → AllByRecursion (λ m. m < n) ns → is_in n ns ≡ false
above_absent n [] low = refl
above_absent n (m ∷ ns) low =
    let less : m < n = low.0 in
    let no : eqb m n ≡ false = ne_eqb _ _ (λ e. omega arith) in
    rw no (above_absent n ns low.1)

-- a change of each entry that leaves its number
pub numbers_map : (g : Entry → Entry) (xs : List Entry) → ((e : Entry) → (g e).number ≡ e.number)
    → numbers (map g xs) ≡ numbers xs
numbers_map g [] same = refl
numbers_map g (x ∷ xs) same = let head : (g x).number ≡ x.number = same x in
    let tail : numbers (map g xs) ≡ numbers xs = numbers_map g xs same in cc

pub in_map : (g : Entry → Entry) (xs : List Entry) (y : Entry) → IsIn y (map g xs) → (e : Entry)
    × IsIn e xs × (y ≡ g e)
in_map g [] y there = absurd there
in_map g (x ∷ xs) y (inl same) = (x, inl refl, sym same)
in_map g (x ∷ xs) y (inr later) = let r = in_map g xs y later in (r.0, inr r.1, r.2)

pub map_in : (g : Entry → Entry) (xs : List Entry) (e : Entry) → IsIn e xs → IsIn (g e) (map g xs)
map_in g [] e there = absurd there
map_in g (x ∷ xs) e (inl same) = inl (ap g same)
map_in g (x ∷ xs) e (inr later) = inr (map_in g xs e later)

pub in_append : (xs ys : List Entry) (e : Entry) → IsIn e (xs ++ ys) → IsIn e xs ⊎ IsIn e ys
in_append [] ys e there = inr there
in_append (x ∷ xs) ys e (inl same) = inl (inl same)
in_append (x ∷ xs) ys e (inr later) =
    ⊎_elim (λ h. inl (inr h)) (λ h. inr h) (in_append xs ys e later)

pub append_front : (xs ys : List Entry) (e : Entry) → IsIn e xs → IsIn e (xs ++ ys)
append_front [] ys e there = absurd there
append_front (x ∷ xs) ys e (inl same) = inl same
append_front (x ∷ xs) ys e (inr later) = inr (append_front xs ys e later)

pub append_back : (xs ys : List Entry) (e : Entry) → IsIn e ys → IsIn e (xs ++ ys)
append_back [] ys e there = there
append_back (x ∷ xs) ys e there = inr (append_back xs ys e there)

pub in_filter : (keep : Entry → Bool) (xs : List Entry) (e : Entry) → IsIn e (filter keep xs)
    → IsIn e xs × (keep e ≡ true)
in_filter keep [] e there = absurd there
in_filter keep (x ∷ xs) e there =
    cond_both (keep x) (x ∷ filter keep xs) (filter keep xs)
    (λ t. IsIn e t → IsIn e (x ∷ xs) × (keep e ≡ true))
    (λ yes. ⊎_elim (λ same. (inl same, subst (λ (y : Entry). keep y ≡ true) same yes))
    (λ later. let r = in_filter keep xs e later in (inr r.0, r.1)))
    (λ no later. let r = in_filter keep xs e later in (inr r.0, r.1))
    there

pub filter_in : (keep : Entry → Bool) (xs : List Entry) (e : Entry) → IsIn e xs → keep e ≡ true
    → IsIn e (filter keep xs)
filter_in keep [] e there kept = absurd there
filter_in keep (x ∷ xs) e (inl same) kept =
    rw (subst (λ (y : Entry). keep y ≡ true) (sym same) kept) (inl same)
filter_in keep (x ∷ xs) e (inr later) kept =
    cond_both (keep x) (x ∷ filter keep xs) (filter keep xs) (λ t. IsIn e t)
    (λ yes. inr (filter_in keep xs e later kept)) (λ no. filter_in keep xs e later kept)

-- numbers of a list with one more
pub numbers_append : (xs ys : List Entry) → numbers (xs ++ ys) ≡ numbers xs ++ numbers ys
numbers_append [] ys = refl
numbers_append (x ∷ xs) ys = ap (λ ns. x.number ∷ ns) (numbers_append xs ys)

pub all_push : (P : ℕ → Type 0) (ns : List ℕ) (n : ℕ) → AllByRecursion P ns → P n
    → AllByRecursion P (ns ++ n ∷ [])
all_push P [] n all p = (p, tt)
all_push P (m ∷ ns) n all p = (all.0, all_push P ns n all.1 p)

pub all_weaker : (P Q : ℕ → Type 0) (ns : List ℕ) → ((n : ℕ) → P n → Q n) → AllByRecursion P ns
    → AllByRecursion Q ns
all_weaker P Q [] f all = tt
all_weaker P Q (n ∷ ns) f all = (f n all.0, all_weaker P Q ns f all.1)

-- numbers that are kept
pub all_kept : (P : ℕ → Type 0) (keep : Entry → Bool) (xs : List Entry)
    → AllByRecursion P (numbers xs) → AllByRecursion P (numbers (filter keep xs))
all_kept P keep [] all = tt
all_kept P keep (x ∷ xs) all =
    cond_both (keep x) (x ∷ filter keep xs) (filter keep xs) (λ t. AllByRecursion P (numbers t))
    (λ _. (all.0, all_kept P keep xs all.1)) (λ _. all_kept P keep xs all.1)

pub ascend_kept : (keep : Entry → Bool) (xs : List Entry) → AreAscending (numbers xs)
    → AreAscending (numbers (filter keep xs))
ascend_kept keep [] up = tt
ascend_kept keep (x ∷ xs) up =
    cond_both (keep x) (x ∷ filter keep xs) (filter keep xs) (λ t. AreAscending (numbers t))
    (λ _. (all_kept (λ m. x.number < m) keep xs up.0, ascend_kept keep xs up.1))
    (λ _. ascend_kept keep xs up.1)

-- a number is gathered exactly where its entry passes the test
pub by_number : (t : Entry → Bool) (xs : List Entry) → AreAscending (numbers xs) → (e : Entry)
    → IsIn e xs
    → is_in e.number (numbers (filter t xs)) ≡ t e
by_number t xs up e there =
    ⊎_elim
    (λ (yes : t e ≡ true). entry_in e (filter t xs) (filter_in t xs e there yes) ∙ sym yes)
    (λ (other : t e ≡ false).
    ⊎_elim
    (λ (found : is_in e.number (numbers (filter t xs)) ≡ true).
    let live = in_live (filter t xs) e.number found in
    let was = in_filter t xs live.entry live.is_in in
    let same = one_entry xs live.entry e up was.0 there live.is in
    absurd (let wrong : t e ≡ true = subst (λ (y : Entry). t y ≡ true) same was.1 in
    cc (wrong, other)))
    (λ (none : is_in e.number (numbers (filter t xs)) ≡ false). none ∙ sym other)
    (cases_Bool (is_in e.number (numbers (filter t xs)))))
    (cases_Bool (t e))

-- the entries that pass a test are there
pub live_filtered : (t : Entry → Bool) (xs : List Entry)
    → AllByRecursion (IsLive xs) (numbers (filter t xs))
live_filtered t xs = each (filter t xs) (λ e there. (in_filter t xs e there).0)
  where
    each : (ys : List Entry) → ((e : Entry) → IsIn e ys → IsIn e xs)
        → AllByRecursion (IsLive xs) (numbers ys)
    each [] there = tt
    each (y ∷ ys) there = (
      record { entry = y; is_in = there y (inl refl); is = refl },
      each ys (λ e in_e. there e (inr in_e)),
    )
