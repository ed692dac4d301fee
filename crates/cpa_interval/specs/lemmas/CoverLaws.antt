-- A covered element holds of the states of the other alone, and each element covers itself.
use Rattle.std.proofs.Common.{◌≡◌, ◌==◌, ℤ, ◌≤ℤ◌, ◌&&◌, ◌||◌, Bool, true, false, List, [], ◌∷◌}
use Rattle.std.proofs.Common.{refl, ap, ◌∙◌, subst, arith}
use Rattle.std.specs.Prelude.{int_le, slice_get, IsTrue, IsSomeAnd, Option, None, Some}
use Rattle.std.specs.List.{AllByRecursion, list_all}
use Rattle.std.proofs.lemmas.Int.{ints}
use Rattle.std.proofs.lemmas.Bool.{and_parts, or_left, or_right}
use Rattle.std.proofs.lemmas.Bool.Decides.{Decides-eqb}
use Rattle.cpa_facts.specs.declared.fact.Fact.{Fact}
use Rattle.cpa_facts.specs.declared.fact.Fact.TheVariants.{At, Stack, Equals, Within, Truth}
use Rattle.cpa_model.specs.declared.facts.Elem.{Elem}
use Rattle.cpa_model.specs.declared.states.State.{State}
use Rattle.cpa_model.specs.Facts.{FactHolds, IsWithin}
use Rattle.cpa_model.specs.Standing.{same_fact}
use Rattle.cpa_model.specs.lemmas.StandingLaws.{same_fact-means, same_fact-self}
use Rattle.cpa_interval_bounds.specs.lemmas.Sets.{le_true, from_le}
use Rattle.cpa_interval.specs.Covers.{says, has_covered, covers}

-- a value within bounds lies within wider ones
wider : (o : Option ℤ) (lo hi low high : ℤ) → lo ≤ℤ low → high ≤ℤ hi
    → IsSomeAnd o (λ v. (low ≤ℤ v) × (v ≤ℤ high)) → IsSomeAnd o (λ v. (lo ≤ℤ v) × (v ≤ℤ hi))
wider None lo hi low high below above h = absurd h
wider (Some v) lo hi low high below above h =
    let first = h.0 in let second = h.1 in (omega (arith, ints), omega (arith, ints))

-- a fact that is the same holds, too
same_holds : (s : State) (f g : Fact) → same_fact g f ≡ true → FactHolds s g → FactHolds s f
same_holds s f g h holds = subst (FactHolds s) (same_fact-means g f h) holds

says_holds : (s : State) (f g : Fact) → says f g ≡ true → FactHolds s g → FactHolds s f
says_holds s (Within c lo hi) (Within own low high) h holds =
    let p = and_parts ((own == c) && int_le lo low) (int_le high hi) h in
    let q = and_parts (own == c) (int_le lo low) p.0 in
    let same : own ≡ c = (Decides-eqb own c).0 q.0 in
    wider (slice_get s.store.values c) lo hi low high (from_le lo low q.1) (from_le high hi p.1)
    (subst (λ k. IsSomeAnd (slice_get s.store.values k) (λ v. (low ≤ℤ v) × (v ≤ℤ high))) same holds)
says_holds s (Within c lo hi) (At p) h holds = absurd (cc)
says_holds s (Within c lo hi) (Stack sites) h holds = absurd (cc)
says_holds s (Within c lo hi) (Equals d v) h holds = absurd (cc)
says_holds s (Within c lo hi) (Truth e x) h holds = absurd (cc)
says_holds s (At p) g h holds = same_holds s (At p) g h holds
says_holds s (Stack sites) g h holds = same_holds s (Stack sites) g h holds
says_holds s (Equals d v) g h holds = same_holds s (Equals d v) g h holds
says_holds s (Truth e x) g h holds = same_holds s (Truth e x) g h holds

one_holds : (s : State) (own : List Fact) (f : Fact) → has_covered own f ≡ true
    → AllByRecursion (FactHolds s) own → FactHolds s f
one_holds s [] f h all = absurd (cc)
one_holds s (g ∷ own) f h all = by (says f g) refl h (λ rest. one_holds s own f rest all.1) where
  by : (b : Bool) → says f g ≡ b → (b || has_covered own f) ≡ true
      → (has_covered own f ≡ true → FactHolds s f) → FactHolds s f
  by true is h later = says_holds s f g is all.0
  by false is h later = later h

others_hold : (s : State) (own others : List Fact) → list_all (has_covered own) others ≡ true
    → AllByRecursion (FactHolds s) own → AllByRecursion (FactHolds s) others
others_hold s own [] h all = tt
others_hold s own (f ∷ others) h all =
    let p = and_parts (has_covered own f) (list_all (has_covered own) others) h in
    (one_holds s own f p.0 all, others_hold s own others p.1 all)

pub covers-within : (e f : Elem) → IsTrue (covers e f) → IsWithin e f
covers-within e f h s all = others_hold s e.facts f.facts h all

same_bound : (n : ℤ) → int_le n n ≡ true
same_bound n = le_true n n (omega (arith, ints))

says-self : (f : Fact) → says f f ≡ true
says-self (Within c lo hi) =
    ap (λ b. (b && int_le lo lo) && int_le hi hi) ((Decides-eqb c c).1 refl)
    ∙ (ap (λ b. b && int_le hi hi) (same_bound lo) ∙ same_bound hi)
says-self (At p) = same_fact-self (At p)
says-self (Stack sites) = same_fact-self (Stack sites)
says-self (Equals d v) = same_fact-self (Equals d v)
says-self (Truth e x) = same_fact-self (Truth e x)

one_more : (g : Fact) (own others : List Fact) → list_all (has_covered own) others ≡ true
    → list_all (has_covered (g ∷ own)) others ≡ true
one_more g own [] h = refl
one_more g own (f ∷ others) h =
    let p = and_parts (has_covered own f) (list_all (has_covered own) others) h in
    ap (λ b. b && list_all (has_covered (g ∷ own)) others)
    (or_right (says f g) (has_covered own f) p.0)
    ∙ one_more g own others p.1

all_own : (own : List Fact) → list_all (has_covered own) own ≡ true
all_own [] = refl
all_own (g ∷ own) =
    ap (λ b. b && list_all (has_covered (g ∷ own)) own)
    (or_left (says g g) (has_covered own g) (says-self g))
    ∙ one_more g own own (all_own own)

pub covers-same : (e : Elem) → IsTrue (covers e e)
covers-same e = all_own e.facts
