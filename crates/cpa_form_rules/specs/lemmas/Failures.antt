-- That some fact of an element fails is that some denial is true.
use Rattle.std.proofs.Common.{◌≡◌, ℕ, zero, suc, ℤ, Bool, true, false, List, [], ◌∷◌, map, Some}
use Rattle.std.proofs.Common.{slice_get, refl, subst, arith, inl, inr}
use Rattle.std.specs.List.{AllByRecursion, flat_map}
use Rattle.cpa_ints.specs.declared.integers.IntType.{IntType}
use Rattle.cpa_ints.specs.Integers.{IsInRange}
use Rattle.cpa_expr.specs.declared.tree.Expr.{Expr}
use Rattle.cpa_expr.specs.Cells.{AreValues}
use Rattle.cpa_facts.specs.declared.fact.Fact.{Fact}
use Rattle.cpa_facts.specs.declared.fact.Fact.TheVariants.{At, Stack, Equals, Within, Truth}
use Rattle.cpa_expr.specs.Values.{HasTruth}
use Rattle.cpa_form_renaming.specs.declared.places.Place.{Place}
use Rattle.cpa_form_renaming.specs.Places.{Shows}
use Rattle.cpa_form_rules.specs.Runs.{SomeFails}
use Rattle.cpa_form_rules.specs.Tests.{tests_of, denied, denials_of}
use Rattle.cpa_form_rules.specs.lemmas.Lists.{all_parts, all_both}
use Rattle.cpa_form_rules.specs.lemmas.Models.{Wanted}
use Rattle.cpa_form_rules.specs.lemmas.Copies.{Stand, types_at}
use Rattle.cpa_form_rules.specs.lemmas.FactTests.{fact_back, fact_forth, Denies}
use Rattle.cpa_form_rules.specs.lemmas.Chains.{HasTold, SomeTold, told_true, true_told}

-- ---- the values that places show lie in the range of their types

pub range_at : (ts : List IntType) (vs : List ℤ) → AreValues ts vs → (n : ℕ) (t : IntType) (v : ℤ)
    → slice_get ts n ≡ Some t → slice_get vs n ≡ Some v → IsInRange t v
range_at [] vs h n t v is are = absurd (cc)
range_at (s ∷ ts) [] h n t v is are = absurd h
range_at (s ∷ ts) (w ∷ vs) h zero t v is are =
    let one : s ≡ t = cc in let other : w ≡ v = cc in
    subst (λ u. IsInRange u v) one (subst (IsInRange s) other h.0)
range_at (s ∷ ts) (w ∷ vs) h (suc n) t v is are = range_at ts vs h.1 n t v is are

pub shows_tail : {A : Type 0} (p : Place) (places : List Place) (xs : List A) (y : A) (ys : List A)
    → Shows (p ∷ places) xs (y ∷ ys) → Shows places xs ys
shows_tail p places xs y ys shows = record {
  long = let is = shows.long in omega (arith, is);
  at = λ cell below. shows.at (suc cell) (omega (arith, below));
}

pub shown_values : (cells : List IntType) (old : List ℤ) (places : List Place) (store : List ℤ)
    → AreValues cells old → Stand cells places → Shows places old store
    → AreValues (types_at places) store
shown_values cells old [] [] fit stand shows = tt
shown_values cells old [] (v ∷ store) fit stand shows =
    let is = shows.long in absurd (omega (arith, is))
shown_values cells old (p ∷ places) [] fit stand shows =
    let is = shows.long in absurd (omega (arith, is))
shown_values cells old (p ∷ places) (v ∷ store) fit stand shows = (
  range_at cells old fit p.number p.ty v stand.0 (shows.at 0 (omega arith)),
  shown_values cells old places store fit stand.1 (shows_tail p places old v store shows),
)

-- ---- denials

pub all_flat : {A : Type 0} (P : A → Type 0) (lists : List (List A))
    → AllByRecursion P (flat_map (λ xs. xs) lists) → AllByRecursion (AllByRecursion P) lists
all_flat P [] h = tt
all_flat P (xs ∷ lists) h =
    let parts = all_parts P xs (flat_map (λ ys. ys) lists) h in
    (parts.0, all_flat P lists parts.1)

pub flat_all : {A : Type 0} (P : A → Type 0) (lists : List (List A))
    → AllByRecursion (AllByRecursion P) lists → AllByRecursion P (flat_map (λ xs. xs) lists)
flat_all P [] h = tt
flat_all P (xs ∷ lists) h = all_both P xs (flat_map (λ ys. ys) lists) h.0 (flat_all P lists h.1)

module _ (store : List ℤ) where
  denial_true : (one : Expr × Bool) → Denies store one → (Wanted store one → ⊥)
      → HasTruth store (denied one).0 true
  denial_true one denies fails = by denies.told refl
    where
      by : (b : Bool) → denies.told ≡ b → HasTruth store (denied one).0 true
      by true e = told_true store (denied one).0 denies.told denies.value e
      by false e = absurd (fails (denies.false_holds e))

  true_denial : (one : Expr × Bool) → Denies store one → HasTruth store (denied one).0 true
      → Wanted store one → ⊥
  true_denial one denies h =
      denies.true_fails (true_told store (denied one).0 denies.told denies.value h)

  abbrev pub AllDenied : List (Expr × Bool) → Type 0
  AllDenied = AllByRecursion (Denies store)

  pub denials_told : (tests : List (Expr × Bool)) → AllDenied tests
      → AllByRecursion (HasTold store) (map denied tests)
  denials_told [] h = tt
  denials_told (one ∷ tests) h =
      (record { told = h.0.told; value = h.0.value }, denials_told tests h.1)

  module _ (places : List Place) where
    pub fails_told : (facts : List Fact) → AllDenied (tests_of places facts)
        → SomeFails store facts → SomeTold store (denials_of places facts)
    fails_told [] denied fails = absurd fails
    fails_told (At point ∷ facts) h (inl fails) = absurd (fails tt)
    fails_told (At point ∷ facts) h (inr fails) = fails_told facts h fails
    fails_told (Stack sites ∷ facts) h (inl fails) = absurd (fails tt)
    fails_told (Stack sites ∷ facts) h (inr fails) = fails_told facts h fails
    fails_told (Equals cell value ∷ facts) h (inl fails) =
        inl (denial_true _ h.0 (λ w. fails (fact_back places store (Equals cell value) (w, tt))))
    fails_told (Equals cell value ∷ facts) h (inr fails) = inr (fails_told facts h.1 fails)
    fails_told (Within cell lo hi ∷ facts) h (inl fails) =
        inl (denial_true _ h.0 (λ w. fails (fact_back places store (Within cell lo hi) (w, tt))))
    fails_told (Within cell lo hi ∷ facts) h (inr fails) = inr (fails_told facts h.1 fails)
    fails_told (Truth expr holds ∷ facts) h (inl fails) =
        inl (denial_true (expr, holds) h.0 fails)
    fails_told (Truth expr holds ∷ facts) h (inr fails) = inr (fails_told facts h.1 fails)

    pub told_fails : (facts : List Fact) → AllDenied (tests_of places facts)
        → SomeTold store (denials_of places facts) → SomeFails store facts
    told_fails [] h told = absurd told
    told_fails (At point ∷ facts) h told = inr (told_fails facts h told)
    told_fails (Stack sites ∷ facts) h told = inr (told_fails facts h told)
    told_fails (Equals cell value ∷ facts) h (inl told) =
        inl (λ holds. true_denial _ h.0 told (fact_forth places store (Equals cell value) holds).0)
    told_fails (Equals cell value ∷ facts) h (inr told) = inr (told_fails facts h.1 told)
    told_fails (Within cell lo hi ∷ facts) h (inl told) =
        inl (λ holds. true_denial _ h.0 told (fact_forth places store (Within cell lo hi) holds).0)
    told_fails (Within cell lo hi ∷ facts) h (inr told) = inr (told_fails facts h.1 told)
    told_fails (Truth expr holds ∷ facts) h (inl told) =
        inl (λ is. true_denial (expr, holds) h.0 told is)
    told_fails (Truth expr holds ∷ facts) h (inr told) = inr (told_fails facts h.1 told)
