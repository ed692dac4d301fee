-- What a table of spots shows after a number more (`entered`), and that it is then the table of one
-- entry more (`tabled_more`).
use Rattle.std.proofs.Common.{◌≡◌, ℕ, suc, ◌+◌, ◌<◌, Bool, cond, List, [], ◌∷◌, ◌++◌, take}
use Rattle.std.proofs.Common.{Option, Some, length, get_or, refl, sym, ap, subst, ◌∙◌, arith}
use Rattle.std.proofs.Common.{append-nil, zero-add, ⊎_elim, true}
use Rattle.std.specs.Prelude.{Vec, if◌then◌else◌}
use Rattle.std.specs.Map.{lookup}
use Rattle.std.specs.declared.alloc.Global.{Global}
use Rattle.std.proofs.lemmas.Bool.{cases_Bool}
use Rattle.std.proofs.lemmas.List.{length-take-le, take_more}
use Rattle.cpa_recheck_obligations.specs.declared.spots.Spot.{Spot}
use Rattle.cpa_recheck_obligations.specs.Spots.{same_spot}
use Rattle.cpa_recheck_obligations.specs.lemmas.SpotLaws.{same_spot-means}
use Rattle.cpa_recheck_obligations.specs.Obligations.{is_at, places_from, under}
use Rattle.cpa_recheck_obligations.specs.Tables.{SpotRows, items_of, numbers_at, IsTableOf}

abbrev pub at : Spot → SpotRows → Option (Vec ℕ Global)
at key es = lookup (λ own. same_spot key own) es

-- the second table has w at the spot, and is else the first
abbrev pub PutsAt : SpotRows → SpotRows → Spot → Vec ℕ Global → Type 0
PutsAt es fs spot w = (q : Spot) → at q fs ≡ cond (same_spot spot q) (Some w) (at q es)

shown : (es fs : SpotRows) (spot : Spot) (w : Vec ℕ Global) → PutsAt es fs spot w
    → (key : Spot)
    → numbers_at key fs ≡ (if same_spot spot key then w.items else numbers_at key es)
shown es fs spot w puts key = ⊎_elim
    (λ one. ap items_of (puts key) ∙ rw one refl)
    (λ none. ap items_of (puts key) ∙ rw none refl)
    (cases_Bool (same_spot spot key))

there : (spot key : Spot) (es : SpotRows) → same_spot spot key ≡ true
    → numbers_at spot es ≡ numbers_at key es
there spot key es same = ap (λ r. numbers_at r es) (same_spot-means spot key same)

-- one number more
pub entered : (es fs : SpotRows) (spot : Spot) (w : Vec ℕ Global) (n : ℕ) → PutsAt es fs spot w
    → w.items ≡ numbers_at spot es ++ n ∷ [] → (key : Spot)
    → numbers_at key fs
    ≡ numbers_at key es ++ (if same_spot spot key then n ∷ [] else [])
entered es fs spot w n puts is key = ⊎_elim
    (λ one. shown es fs spot w puts key
    ∙ (rw one (is ∙ ap (λ ns. ns ++ n ∷ []) (there spot key es one))))
    (λ none. shown es fs spot w puts key ∙ (rw none (sym (append-nil (numbers_at key es)))))
    (cases_Bool (same_spot spot key))

-- ---- one entry more

module _ {A : Type 0} (test : A → Bool) where
  places_more : (k : ℕ) (xs : List A) (x : A)
      → places_from test k (xs ++ x ∷ [])
      ≡ places_from test k xs ++ (if test x then (k + length xs) ∷ [] else [])
  places_more k [] x =
      let same : k ≡ k + 0 = omega arith in
      ⊎_elim (λ h. rw h (ap (λ n. n ∷ []) same)) (λ h. rw h refl) (cases_Bool (test x))
  places_more k (y ∷ xs) x =
      let same : (k + 1) + length xs ≡ k + suc (length xs) = omega arith in
      let later = places_more (k + 1) xs x
      ∙ ap (λ n. places_from test (k + 1) xs ++ (if test x then n ∷ [] else [])) same in
      ⊎_elim (λ h. rw h (ap (λ ns. k ∷ ns) later)) (λ h. rw h later) (cases_Bool (test y))

pub tabled_more : (spots : List (Option Spot)) (found : Option Spot) (n : ℕ) (es fs : SpotRows)
    → IsTableOf spots es → n ≡ length spots
    → ((key : Spot) → numbers_at key fs
    ≡ numbers_at key es ++ (if is_at key found then n ∷ [] else []))
    → IsTableOf (spots ++ found ∷ []) fs
tabled_more spots found n es fs is count more = record {
  under = λ key.
      more key
      ∙ (ap (λ ns. ns ++ (if is_at key found then n ∷ [] else [])) (is.under key)
      ∙ (ap (λ m. under spots key ++ (if is_at key found then m ∷ [] else []))
      (count ∙ sym (zero-add (length spots)))
      ∙ sym (places_more (is_at key) 0 spots found)));
}

-- the entry at a place more
pub tabled_next : (spots : List (Option Spot)) (i : ℕ) (found : Option Spot) (es fs : SpotRows)
    → i < length spots → found ≡ get_or spots i found → IsTableOf (take i spots) es
    → ((key : Spot) → numbers_at key fs
    ≡ numbers_at key es ++ (if is_at key found then i ∷ [] else []))
    → IsTableOf (take (i + 1) spots) fs
tabled_next spots i found es fs less is table more =
    subst (λ l. IsTableOf l fs)
    (ap (λ (o : Option Spot). take i spots ++ o ∷ []) is ∙ sym (take_more spots i found less))
    (tabled_more (take i spots) found i es fs table
    (sym (length-take-le i spots (omega (arith, less)))) more)
