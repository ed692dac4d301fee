-- How the numbers under a key change with the entries, so that the table of keys stays that of the
-- entries: `indexed_more`, `indexed_at`, `indexed_replaced`.
use Rattle.std.proofs.Common.{◌≡◌, ℕ, ◌<◌, Bool, true, false, List, [], ◌∷◌, ◌++◌}
use Rattle.std.proofs.Common.{map, refl, sym, ap, ◌∙◌, append-nil, inl, inr, ⊎_elim, arith}
use Rattle.std.specs.Prelude.{if◌then◌else◌, ◌==◌}
use Rattle.std.proofs.lemmas.Bool.{cases_Bool, cond_both, ne_eqb}
use Rattle.std.proofs.lemmas.Bool.Decides.{Decides-eqb}
use Rattle.cpa_model.specs.declared.facts.Elem.{Elem}
use Rattle.cpa_model.specs.Ascending.{AreAscending}
use Rattle.cpa_iface.specs.declared.entries.Entry.{Entry}
use Rattle.cpa_reached_key.specs.Rows.{same_row, picked}
use Rattle.cpa_reached.specs.Members.{IsIn}
use Rattle.cpa_reached.specs.Entries.{numbers, IsLive}
use Rattle.cpa_reached.specs.Calls.{at_number, gains, others, renamed, replacing}
use Rattle.cpa_reached.specs.Calls.{replaced_entries}
use Rattle.cpa_reached.specs.Indexes.{KeyRows, numbers_at, IsIndex}
use Rattle.cpa_reached.specs.Keyed.{keyed}
use Rattle.cpa_reached.specs.Removal.{without}
use Rattle.cpa_reached.specs.Tables.{but}
use Rattle.cpa_reached.specs.lemmas.MemberLaws.{numbers_map, one_entry, live_in}
use Rattle.cpa_reached.proofs.Replacing.{only_one}

-- the numbers under a key, one entry more in front
abbrev joined : Bool → ℕ → List ℕ → List ℕ
joined b n ns = if b then n ∷ ns else ns

-- and one more behind
abbrev behind : Bool → List ℕ → ℕ → List ℕ
behind b ns n = ns ++ (if b then n ∷ [] else [])

keyed_front : (places : List ℕ) (row : List Elem) (x : Entry) (xs : List Entry)
    → keyed places row (x ∷ xs)
    ≡ joined (same_row (picked places x.elems) row) x.number (keyed places row xs)
keyed_front places row x xs =
    ⊎_elim (λ h. rw h refl) (λ h. rw h refl) (cases_Bool (same_row (picked places x.elems) row))

-- an entry more, the last one
keyed_more : (places : List ℕ) (row : List Elem) (xs : List Entry) (e : Entry)
    → keyed places row (xs ++ e ∷ [])
    ≡ behind (same_row (picked places e.elems) row) (keyed places row xs) e.number
keyed_more places row [] e =
    ⊎_elim (λ h. rw h refl) (λ h. rw h refl) (cases_Bool (same_row (picked places e.elems) row))
keyed_more places row (x ∷ xs) e = ⊎_elim
    (λ h. rw h (ap (λ ns. x.number ∷ ns) (keyed_more places row xs e)))
    (λ h. rw h (keyed_more places row xs e))
    (cases_Bool (same_row (picked places x.elems) row))

pub indexed_more : (places : List ℕ) (xs : List Entry) (e : Entry) (es fs : KeyRows)
    (key : List Elem) (n : ℕ) → IsIndex places xs es → key ≡ picked places e.elems
    → n ≡ e.number
    → ((row : List Elem) → numbers_at row fs ≡ behind (same_row key row) (numbers_at row es) n)
    → IsIndex places (xs ++ e ∷ []) fs
indexed_more places xs e es fs key n is same number enters = record {
  under = λ row. enters row
      ∙ (ap (λ ns. behind (same_row key row) ns n) (is.under row)
      ∙ (ap (λ k. behind (same_row k row) (keyed places row xs) n) same
      ∙ (ap (λ m. behind (same_row (picked places e.elems) row) (keyed places row xs) m) number
      ∙ sym (keyed_more places row xs e))));
}

pub indexed_same : (places : List ℕ) (xs : List Entry) (es fs : KeyRows) → IsIndex places xs es
    → ((row : List Elem) → numbers_at row fs ≡ numbers_at row es) → IsIndex places xs fs
indexed_same places xs es fs is same = record { under = λ row. same row ∙ is.under row }

pub none_left_out : (xs : List Entry) → without [] xs ≡ xs
none_left_out [] = refl
none_left_out (x ∷ xs) = ap (λ (l : List Entry). x ∷ l) (none_left_out xs)

-- entries that keep their numbers and elements
keyed_map : (places : List ℕ) (row : List Elem) (f : Entry → Entry)
    → ((e : Entry) → (f e).number ≡ e.number) → ((e : Entry) → (f e).elems ≡ e.elems)
    → (xs : List Entry) → keyed places row (map f xs) ≡ keyed places row xs
keyed_map places row f number elems [] = refl
keyed_map places row f number elems (x ∷ xs) =
    let later = keyed_map places row f number elems xs in
    keyed_front places row (f x) (map f xs)
    ∙ (ap (λ es. joined (same_row (picked places es) row) (f x).number
    (keyed places row (map f xs))) (elems x)
    ∙ (ap (λ n. joined (same_row (picked places x.elems) row) n (keyed places row (map f xs)))
    (number x)
    ∙ (ap (λ ns. joined (same_row (picked places x.elems) row) x.number ns) later
    ∙ sym (keyed_front places row x xs))))

pub indexed_map : (places : List ℕ) (xs : List Entry) (es : KeyRows) (f : Entry → Entry)
    → ((e : Entry) → (f e).number ≡ e.number) → ((e : Entry) → (f e).elems ≡ e.elems)
    → IsIndex places xs es → IsIndex places (map f xs) es
indexed_map places xs es f number elems is = record {
  under = λ row. is.under row ∙ sym (keyed_map places row f number elems xs);
}

-- one entry changes, and keeps its number and its elements
pub indexed_at : (places : List ℕ) (xs : List Entry) (es : KeyRows) (n : ℕ) (f : Entry → Entry)
    → ((e : Entry) → (f e).number ≡ e.number) → ((e : Entry) → (f e).elems ≡ e.elems)
    → IsIndex places xs es → IsIndex places (at_number n f xs) es
indexed_at places xs es n f number elems is =
    indexed_map places xs es (λ e. if e.number == n then f e else e)
    (λ e. cond_both (e.number == n) (f e) e (λ y. y.number ≡ e.number) (λ _. number e) (λ _. refl))
    (λ e. cond_both (e.number == n) (f e) e (λ y. y.elems ≡ e.elems) (λ _. elems e) (λ _. refl)) is

-- a use more changes no number
pub gained_numbers : (n by : ℕ) (xs : List Entry)
    → numbers (at_number n (gains by) xs) ≡ numbers xs
gained_numbers n by xs =
    numbers_map (λ e. if e.number == n then gains by e else e) xs
    (λ e. cond_both (e.number == n) (gains by e) e (λ y. y.number ≡ e.number) (λ _. refl)
    (λ _. refl))

abbrev dropped : Bool → ℕ → List ℕ → List ℕ
dropped b n ns = if b then but n ns else ns

drop_same : (b : Bool) (m n : ℕ) (ns : List ℕ) → (m == n) ≡ true
    → dropped b n ns ≡ dropped b n (joined b m ns)
drop_same true m n ns is = rw is refl
drop_same false m n ns is = refl

drop_other : (b s : Bool) (m n : ℕ) (ns : List ℕ) → (m == n) ≡ false
    → joined s m (dropped b n ns) ≡ dropped b n (joined s m ns)
drop_other true true m n ns is = rw is refl
drop_other true false m n ns is = refl
drop_other false true m n ns is = refl
drop_other false false m n ns is = refl

but_behind : (n m : ℕ) (ns : List ℕ) → (m == n) ≡ false
    → but n (ns ++ m ∷ []) ≡ but n ns ++ m ∷ []
but_behind n m [] is = rw is refl
but_behind n m (k ∷ ns) is = ⊎_elim
    (λ h. rw h (but_behind n m ns is))
    (λ h. rw h (ap (λ ks. k ∷ ks) (but_behind n m ns is)))
    (cases_Bool (k == n))

drop_behind : (b s : Bool) (m n : ℕ) (ns : List ℕ) → (m == n) ≡ false
    → dropped b n (behind s ns m) ≡ behind s (dropped b n ns) m
drop_behind true true m n ns is = but_behind n m ns is
drop_behind true false m n ns is =
    ap (λ ks. but n ks) (append-nil ns) ∙ sym (append-nil (but n ns))
drop_behind false true m n ns is = refl
drop_behind false false m n ns is = refl

-- each entry of the number has the key
abbrev HaveKey : List ℕ → ℕ → List Elem → List Entry → Type 0
HaveKey places n key xs =
    (e : Entry) → IsIn e xs → e.number ≡ n → picked places e.elems ≡ key

-- an entry less
pub keyed_but : (places : List ℕ) (row key : List Elem) (n : ℕ) (xs : List Entry)
    → HaveKey places n key xs
    → keyed places row (others n xs) ≡ dropped (same_row key row) n (keyed places row xs)
keyed_but places row key n [] all =
    ⊎_elim (λ h. rw h refl) (λ h. rw h refl) (cases_Bool (same_row key row))
keyed_but places row key n (x ∷ xs) all =
    let later = keyed_but places row key n xs (λ e there. all e (inr there)) in
    let b = same_row key row in
    ⊎_elim
    (λ is.
    let same : picked places x.elems ≡ key = all x (inl refl) ((Decides-eqb x.number n).0 is) in
    let first : keyed places row (others n (x ∷ xs)) ≡ keyed places row (others n xs) =
    rw is refl in
    first ∙ (later ∙ (drop_same b x.number n (keyed places row xs) is
    ∙ ap (λ ns. dropped b n ns) (sym (keyed_front places row x xs
    ∙ ap (λ k. joined (same_row k row) x.number (keyed places row xs)) same)))))
    (λ apart.
    let first : keyed places row (others n (x ∷ xs)) ≡ keyed places row (x ∷ others n xs) =
    rw apart refl in
    first ∙ (keyed_front places row x (others n xs)
    ∙ (ap (λ ns. joined (same_row (picked places x.elems) row) x.number ns) later
    ∙ (drop_other b (same_row (picked places x.elems) row) x.number n (keyed places row xs) apart
    ∙ ap (λ ns. dropped b n ns) (sym (keyed_front places row x xs))))))
    (cases_Bool (x.number == n))

-- one number entered, and another one left
indexed_swap : (places : List ℕ) (xs : List Entry) (e : Entry) (old : ℕ) (key : List Elem)
    (es fs gs : KeyRows) → IsIndex places xs es → HaveKey places old key xs
    → (e.number == old) ≡ false
    → ((row : List Elem) → numbers_at row fs
    ≡ behind (same_row (picked places e.elems) row) (numbers_at row es) e.number)
    → ((row : List Elem) → numbers_at row gs ≡ dropped (same_row key row) old (numbers_at row fs))
    → IsIndex places (others old xs ++ e ∷ []) gs
indexed_swap places xs e old key es fs gs is have apart enters leaves = record {
  under = λ row.
      let b = same_row key row in
      let s = same_row (picked places e.elems) row in
      leaves row
      ∙ (ap (λ ns. dropped b old ns)
      (enters row ∙ ap (λ ns. behind s ns e.number) (is.under row))
      ∙ (drop_behind b s e.number old (keyed places row xs) apart
      ∙ (ap (λ ns. behind s ns e.number) (sym (keyed_but places row key old xs have))
      ∙ sym (keyed_more places row (others old xs) e))));
}

-- So the table is that of the entries after `replace`.
pub indexed_replaced : (places : List ℕ) (xs : List Entry) (old next : ℕ) (elems : List Elem)
    (row key : List Elem) (entry : Entry) (es fs gs : KeyRows) → AreAscending (numbers xs)
    → old < next → IsIn entry xs → entry.number ≡ old → row ≡ picked places entry.elems
    → key ≡ picked places elems → IsIndex places xs es
    → ((r : List Elem) → numbers_at r fs ≡ behind (same_row key r) (numbers_at r es) next)
    → ((r : List Elem) → numbers_at r gs ≡ dropped (same_row row r) old (numbers_at r fs))
    → IsIndex places (replaced_entries next xs old elems) gs
indexed_replaced places xs old next elems row key entry es fs gs up less there is old_row new_row
    index enters leaves =
    let live : IsLive xs old = record { entry = entry; is_in = there; is = is } in
    let o = only_one old xs up (live_in xs old live) in
    let e = replacing next elems o.entry in
    let apart : (next == old) ≡ false = ne_eqb _ _ (λ same. omega arith) in
    let have : HaveKey places old row xs = λ f in_f number.
    ap (λ (g : Entry). picked places g.elems)
    (one_entry xs f entry up in_f there (number ∙ sym is)) ∙ sym old_row in
    let swapped : IsIndex places (others old xs ++ e ∷ []) gs =
    indexed_swap places xs e old row es fs gs index have apart
    (λ r. enters r ∙ ap (λ k. behind (same_row k r) (numbers_at r es) next) new_row) leaves in
    record {
      under = λ r. swapped.under r
          ∙ (keyed_more places r (others old xs) e
          ∙ (ap (λ ns. behind (same_row (picked places elems) r) ns next)
          (sym (keyed_map places r (renamed old next) (λ x. refl) (λ x. refl) (others old xs)))
          ∙ (sym (keyed_more places r (map (renamed old next) (others old xs)) e)
          ∙ ap (λ ys. keyed places r (map (renamed old next) (others old xs)
          ++ map (replacing next elems) ys)) (sym o.only))));
    }
