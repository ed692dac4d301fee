-- Entries that go leave the table of keys, one after the other (`leaves_more`).
use Rattle.std.proofs.Common.{◌≡◌, ℕ, zero, suc, ◌+◌, ◌<◌, ◌≤◌, Bool, true, false, eqb, not}
use Rattle.std.proofs.Common.{◌||◌, List, [], ◌∷◌, ◌++◌, take, length, get_or, refl, sym, ap, ◌∙◌}
use Rattle.std.proofs.Common.{subst, ⊎_elim, arith}
use Rattle.std.specs.Prelude.{if◌then◌else◌}
use Rattle.std.proofs.lemmas.Bool.{cases_Bool}
use Rattle.std.proofs.lemmas.List.{take_more, take_all}
use Rattle.cpa_model.specs.declared.facts.Elem.{Elem}
use Rattle.cpa_iface.specs.declared.entries.Entry.{Entry}
use Rattle.cpa_reached_key.specs.declared.keys.Key.{Key}
use Rattle.cpa_reached_key.specs.Rows.{same_row, picked}
use Rattle.cpa_reached.specs.Calls.{others}
use Rattle.cpa_reached.specs.Indexes.{AreKeysOf, IsIndex, KeyRows, numbers_at}
use Rattle.cpa_reached.specs.Keyed.{keyed}
use Rattle.cpa_reached.specs.Members.{IsIn, is_in}
use Rattle.cpa_reached.specs.lemmas.MemberLaws.{in_filter}
use Rattle.cpa_reached.specs.Removal.{without}
use Rattle.cpa_reached.specs.Tables.{but}
use Rattle.cpa_reached.proofs.Keying.{keyed_but, none_left_out}
use Rattle.cpa_reached.proofs.Reopened.{in_more}

-- a key more
pub keys_more : (places : List ℕ) (xs : List Entry) (ns : List ℕ) (ks : List Key) (n : ℕ) (k : Key)
    → ((e : Entry) → IsIn e xs → e.number ≡ n → picked places e.elems ≡ k.elems)
    → AreKeysOf places xs ns ks → AreKeysOf places xs (ns ++ n ∷ []) (ks ++ k ∷ [])
keys_more places xs [] [] n k is all = (is, tt)
keys_more places xs [] (j ∷ ks) n k is all = absurd all
keys_more places xs (m ∷ ns) [] n k is all = absurd all
keys_more places xs (m ∷ ns) (j ∷ ks) n k is all =
    (all.0, keys_more places xs ns ks n k is all.1)

pub keys_long : (places : List ℕ) (xs : List Entry) (ns : List ℕ) (ks : List Key)
    → AreKeysOf places xs ns ks → length ks ≡ length ns
keys_long places xs [] [] all = refl
keys_long places xs [] (k ∷ ks) all = absurd all
keys_long places xs (n ∷ ns) [] all = absurd all
keys_long places xs (n ∷ ns) (k ∷ ks) all =
    ap (λ (c : ℕ). suc c) (keys_long places xs ns ks all.1)

key_at : (places : List ℕ) (xs : List Entry) (ns : List ℕ) (ks : List Key) (i : ℕ) (d : Key)
    → AreKeysOf places xs ns ks → i < length ns
    → (e : Entry) → IsIn e xs → e.number ≡ get_or ns i 0
    → picked places e.elems ≡ (get_or ks i d).elems
key_at places xs [] ks i d all less e there is = absurd (omega (arith, less))
key_at places xs (n ∷ ns) [] i d all less e there is = absurd all
key_at places xs (n ∷ ns) (k ∷ ks) zero d all less e there is = all.0 e there is
key_at places xs (n ∷ ns) (k ∷ ks) (suc i) d all less e there is =
    key_at places xs ns ks i d all.1 (omega (arith, less)) e there is

-- what is left without one more
but_one : (ns : List ℕ) (n : ℕ) (xs : List Entry)
    → others n (without ns xs) ≡ without (ns ++ n ∷ []) xs
but_one ns n [] = refl
but_one ns n (x ∷ xs) =
    let rest = but_one ns n xs in
    let more = in_more ns n x.number in
    ⊎_elim
    (λ (h : is_in x.number ns ≡ true).
    let m : is_in x.number (ns ++ n ∷ []) ≡ true =
    more ∙ ap (λ (b : Bool). b || eqb x.number n) h in rw (h, m) rest)
    (λ (h : is_in x.number ns ≡ false).
    let m : is_in x.number (ns ++ n ∷ []) ≡ eqb x.number n =
    more ∙ ap (λ (b : Bool). b || eqb x.number n) h in
    ⊎_elim
    (λ (y : eqb x.number n ≡ true). let z = m ∙ y in rw (h, z, y) rest)
    (λ (y : eqb x.number n ≡ false). let z = m ∙ y in
    rw (h, z, y) (ap (λ (l : List Entry). x ∷ l) rest))
    (cases_Bool (eqb x.number n)))
    (cases_Bool (is_in x.number ns))

pub leaves_more : (places : List ℕ) (xs : List Entry) (gone : List ℕ) (ks : List Key) (i : ℕ)
    (k : Key) (es fs : KeyRows) → i < length gone → k ≡ get_or ks i k
    → ((row : List Elem) → numbers_at row fs
    ≡ (if same_row k.elems row then but (get_or gone i 0) (numbers_at row es)
    else numbers_at row es))
    → AreKeysOf places xs gone ks → IsIndex places (without (take i gone) xs) es
    → IsIndex places (without (take (i + 1) gone) xs) fs
leaves_more places xs gone ks i k es fs less at leaves keys index =
    let n = get_or gone i 0 in
    let ys = without (take i gone) xs in
    let have : (e : Entry) → IsIn e ys → e.number ≡ n → picked places e.elems ≡ k.elems =
    λ e there is.
    let was = in_filter (λ y. not (is_in y.number (take i gone))) xs e there in
    key_at places xs gone ks i k keys less e was.0 is ∙ ap (λ (j : Key). j.elems) (sym at) in
    let left : others n ys ≡ without (take (i + 1) gone) xs =
    but_one (take i gone) n xs
    ∙ ap (λ (ns : List ℕ). without ns xs) (sym (take_more gone i 0 less)) in
    record {
      under = λ row. leaves row
          ∙ ap (λ (ns : List ℕ). if same_row k.elems row then but n ns else ns) (index.under row)
          ∙ sym (keyed_but places row k.elems n ys have)
          ∙ ap (keyed places row) left;
    }

pub leaves_none : (places : List ℕ) (xs : List Entry) (es : KeyRows) → IsIndex places xs es
    → IsIndex places (without [] xs) es
leaves_none places xs es index =
    subst (λ (ys : List Entry). IsIndex places ys es) (sym (none_left_out xs)) index

pub leaves_all : (places : List ℕ) (xs : List Entry) (gone : List ℕ) (i : ℕ) (es : KeyRows)
    → length gone ≤ i → IsIndex places (without (take i gone) xs) es
    → IsIndex places (without gone xs) es
leaves_all places xs gone i es over index =
    subst (λ (ns : List ℕ). IsIndex places (without ns xs) es) (take_all i gone over) index
