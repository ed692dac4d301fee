-- Precisions that entries get one after the other, by number.
use Rattle.std.proofs.Common.{◌≡◌, ℕ, zero, suc, ◌+◌, ◌<◌, Bool, true, false, cond, eqb}
use Rattle.std.proofs.Common.{get_or}
use Rattle.std.proofs.Common.{List, [], ◌∷◌, ◌++◌, take, map, length, refl, sym, ap, ◌∙◌}
use Rattle.std.proofs.Common.{⊎_elim, arith}
use Rattle.std.specs.Prelude.{◌||◌}
use Rattle.std.specs.List.{AllByRecursion}
use Rattle.std.proofs.lemmas.Bool.{cases_Bool, cond_both, eq-eqb, eqb-true}
use Rattle.std.proofs.lemmas.List.{take_more}
use Rattle.cpa_iface.specs.declared.entries.Entry.{Entry}
use Rattle.cpa_iface.specs.declared.precisions.Precision.{Precision}
use Rattle.cpa_reached.specs.Calls.{at_number, with_precisions}
use Rattle.cpa_reached.specs.Entries.{IsLive}
use Rattle.cpa_reached.specs.lemmas.MemberLaws.{map_in}
use Rattle.cpa_reached.specs.Members.{is_in}
use Rattle.cpa_engine_rounds.specs.Opening.{with_newest}

eqb_sym : (a b : ℕ) → eqb a b ≡ eqb b a
eqb_sym a b =
    ⊎_elim
    (λ (yes : eqb a b ≡ true). yes ∙ sym (eq-eqb b a (sym (eqb-true a b yes))))
    (λ (other : eqb a b ≡ false).
    ⊎_elim
    (λ (y : eqb b a ≡ true).
    absurd (let z = eq-eqb a b (sym (eqb-true b a y)) in cc (z, other)))
    (λ (z : eqb b a ≡ false). other ∙ sym z)
    (cases_Bool (eqb b a)))
    (cases_Bool (eqb a b))

any_push : (n : ℕ) (ns : List ℕ) (m : ℕ) → is_in n (ns ++ m ∷ []) ≡ (is_in n ns || eqb m n)
any_push n [] m = by (eqb m n)
  where
    by : (b : Bool) → (b || false) ≡ b
    by true = refl
    by false = refl
any_push n (k ∷ ns) m =
    ⊎_elim (λ yes. rw yes refl) (λ other. rw other (any_push n ns m)) (cases_Bool (eqb k n))

with_newest_number : (found : List ℕ) (newest : List Precision) (e : Entry)
    → (with_newest found newest e).number ≡ e.number
with_newest_number found newest e =
    cond_both (is_in e.number found) (with_precisions newest e) e
    (λ (y : Entry). y.number ≡ e.number) (λ _. refl) (λ _. refl)

one_renewed : (found : List ℕ) (n : ℕ) (newest : List Precision) (e : Entry)
    → cond (eqb (with_newest found newest e).number n)
    (with_precisions newest (with_newest found newest e)) (with_newest found newest e)
    ≡ with_newest (found ++ n ∷ []) newest e
one_renewed found n newest e =
    ap (λ (k : ℕ). cond (eqb k n) (with_precisions newest (with_newest found newest e))
    (with_newest found newest e)) (with_newest_number found newest e)
    ∙ by (is_in e.number found) (eqb e.number n) refl refl
    ∙ ap (λ (b : Bool). cond (is_in e.number found || b) (with_precisions newest e) e)
    (eqb_sym e.number n)
    ∙ ap (λ (b : Bool). cond b (with_precisions newest e) e) (sym (any_push e.number found n))
  where
    by : (b c : Bool) → is_in e.number found ≡ b → eqb e.number n ≡ c
        → cond c (with_precisions newest (cond b (with_precisions newest e) e))
        (cond b (with_precisions newest e) e)
        ≡ cond (b || c) (with_precisions newest e) e
    by true true is_b is_c = refl
    by true false is_b is_c = refl
    by false true is_b is_c = refl
    by false false is_b is_c = refl

all_renewed : (found : List ℕ) (n : ℕ) (newest : List Precision) (xs : List Entry)
    → at_number n (with_precisions newest) (map (with_newest found newest) xs)
    ≡ map (with_newest (found ++ n ∷ []) newest) xs
all_renewed found n newest [] = refl
all_renewed found n newest (x ∷ xs) =
    ap (λ (y : Entry). y ∷ at_number n (with_precisions newest) (map (with_newest found newest) xs))
    (one_renewed found n newest x)
    ∙ ap (λ (ys : List Entry). with_newest (found ++ n ∷ []) newest x ∷ ys)
    (all_renewed found n newest xs)

pub renews_more : (found : List ℕ) (i : ℕ) (newest ps : List Precision) (xs old new : List Entry)
    → i < length found → ps ≡ newest
    → old ≡ map (with_newest (take i found) newest) xs
    → new ≡ at_number (get_or found i 0) (with_precisions ps) old
    → new ≡ map (with_newest (take (i + 1) found) newest) xs
renews_more found i newest ps xs old new less is so_far more =
    let n = get_or found i 0 in
    more
    ∙ ap (λ (qs : List Precision). at_number n (with_precisions qs) old) is
    ∙ ap (λ (ys : List Entry). at_number n (with_precisions newest) ys) so_far
    ∙ all_renewed (take i found) n newest xs
    ∙ ap (λ (ns : List ℕ). map (with_newest ns newest) xs)
    (sym (take_more found i 0 less))

pub none_renewed : (newest : List Precision) (xs : List Entry)
    → map (with_newest [] newest) xs ≡ xs
none_renewed newest [] = refl
none_renewed newest (x ∷ xs) = ap (λ (ys : List Entry). x ∷ ys) (none_renewed newest xs)

pub still_live : (found : List ℕ) (newest : List Precision) (xs : List Entry) (n : ℕ)
    → IsLive xs n → IsLive (map (with_newest found newest) xs) n
still_live found newest xs n live = record {
  entry = with_newest found newest live.entry;
  is_in = map_in (with_newest found newest) xs live.entry live.is_in;
  is = with_newest_number found newest live.entry ∙ live.is;
}

pub item_of : {X : Type 0} (P : X → Type 0) (xs : List X) (i : ℕ) (d : X) → AllByRecursion P xs
    → i < length xs → P (get_or xs i d)
item_of P [] i d all less = absurd (omega (arith, less))
item_of P (y ∷ xs) zero d all less = all.0
item_of P (y ∷ xs) (suc i) d all less = item_of P xs i d all.1 (omega (arith, less))
