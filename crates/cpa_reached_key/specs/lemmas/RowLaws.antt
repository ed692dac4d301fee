-- That rows are the same exactly where they are equal, and what a key owes for it. Lemmas for the
-- crates above.
use Rattle.std.specs.Prelude.{◌≡◌, true, ◌&&◌, List, [], ◌∷◌, refl}
use Rattle.std.proofs.Common.{ap, sym, ◌∙◌}
use Rattle.std.specs.Bool.{Decides}
use Rattle.std.specs.Cmp.{IsPartialEquivalence, IsEquivalence, decided, partial_equiv_from_equiv}
use Rattle.std.specs.Hash.{Alike, same_Alike}
use Rattle.std.proofs.lemmas.Bool.{and_parts}
use Rattle.cpa_facts.specs.declared.fact.Fact.{Fact}
use Rattle.cpa_model.specs.declared.facts.Elem.{Elem}
use Rattle.cpa_model.specs.Standing.{same_fact}
use Rattle.cpa_model.specs.lemmas.StandingLaws.{same_fact-means, same_fact-self}
use Rattle.cpa_reached_key.specs.Rows.{same_facts, same_elem, same_row}
use Rattle.cpa_reached_key.specs.Writes.{row_writes}

same_facts-means : (fs gs : List Fact) → same_facts fs gs ≡ true → fs ≡ gs
same_facts-means [] [] h = refl
same_facts-means [] (g ∷ gs) h = cc
same_facts-means (f ∷ fs) [] h = cc
same_facts-means (f ∷ fs) (g ∷ gs) h =
    let p = and_parts (same_fact f g) (same_facts fs gs) h in
    let a = same_fact-means f g p.0 in let b = same_facts-means fs gs p.1 in cc

same_facts-self : (fs : List Fact) → same_facts fs fs ≡ true
same_facts-self [] = refl
same_facts-self (f ∷ fs) = ap (λ b. b && same_facts fs fs) (same_fact-self f) ∙ same_facts-self fs

pub same_elem-means : (e f : Elem) → same_elem e f ≡ true → e ≡ f
same_elem-means e f h =
    ap (λ (fs : List Fact). record { facts = fs }) (same_facts-means e.facts f.facts h)

pub same_elem-self : (e : Elem) → same_elem e e ≡ true
same_elem-self e = same_facts-self e.facts

pub same_row-means : (es fs : List Elem) → same_row es fs ≡ true → es ≡ fs
same_row-means [] [] h = refl
same_row-means [] (g ∷ gs) h = cc
same_row-means (f ∷ fs) [] h = cc
same_row-means (f ∷ fs) (g ∷ gs) h =
    let p = and_parts (same_elem f g) (same_row fs gs) h in
    let a = same_elem-means f g p.0 in let b = same_row-means fs gs p.1 in cc

pub same_row-self : (es : List Elem) → same_row es es ≡ true
same_row-self [] = refl
same_row-self (e ∷ es) =
    ap (λ b. b && same_row es es) (same_elem-self e) ∙ same_row-self es

pub same_row-decides : (es fs : List Elem) → Decides (same_row es fs) (es ≡ fs)
same_row-decides es fs =
    (same_row-means es fs, λ is. ap (λ r. same_row es r) (sym is) ∙ same_row-self es)

pub same_row-equiv : IsEquivalence same_row
same_row-equiv = decided same_row same_row-decides

pub same_row-per : IsPartialEquivalence same_row
same_row-per = partial_equiv_from_equiv same_row-equiv

pub row_writes-alike : Alike same_row row_writes
row_writes-alike = same_Alike row_writes same_row-decides
