-- That spots are the same exactly where they are equal, and what a key of a table owes for it.
-- Lemmas for `Spot` and the tables below.
use Rattle.std.proofs.Common.{◌≡◌, ℕ, ◌&&◌, true, List, Option, Some, None, refl, sym, ap, ◌∙◌}
use Rattle.std.specs.Bool.{Decides}
use Rattle.std.specs.Cmp.{IsPartialEquivalence, IsEquivalence, decided, partial_equiv_from_equiv}
use Rattle.std.specs.Hash.{Alike, same_Alike}
use Rattle.std.proofs.lemmas.Bool.{and_parts}
use Rattle.std.proofs.lemmas.Bool.Decides.{Decides-eqb}
use Rattle.cpa_facts.specs.declared.fact.Fact.TheVariants.{Stack}
use Rattle.cpa_model.specs.Standing.{same_sites}
use Rattle.cpa_model.specs.lemmas.StandingLaws.{same_fact-means, same_fact-self}
use Rattle.cpa_recheck_obligations.specs.declared.spots.Spot.{Spot}
use Rattle.cpa_recheck_obligations.specs.Spots.{same_point, same_stack, same_spot, spot_of_parts}
use Rattle.cpa_recheck_obligations.specs.Writes.{spot_writes}

pub same_sites-means : (s t : List ℕ) → same_sites s t ≡ true → s ≡ t
same_sites-means s t h = let e = same_fact-means (Stack s) (Stack t) h in cc

same_point-means : (a b : Option ℕ) → same_point a b ≡ true → a ≡ b
same_point-means None None h = refl
same_point-means (Some p) (Some q) h = ap Some ((Decides-eqb p q).0 h)
same_point-means None (Some q) h = absurd (cc)
same_point-means (Some p) None h = absurd (cc)

same_point-self : (a : Option ℕ) → same_point a a ≡ true
same_point-self None = refl
same_point-self (Some p) = (Decides-eqb p p).1 refl

same_stack-means : (a b : Option (List ℕ)) → same_stack a b ≡ true → a ≡ b
same_stack-means None None h = refl
same_stack-means (Some s) (Some t) h = ap Some (same_sites-means s t h)
same_stack-means None (Some t) h = absurd (cc)
same_stack-means (Some s) None h = absurd (cc)

same_stack-self : (a : Option (List ℕ)) → same_stack a a ≡ true
same_stack-self None = refl
same_stack-self (Some s) = same_fact-self (Stack s)

-- spots that pass the test are equal, and each passes it with itself
pub same_spot-means : (a b : Spot) → same_spot a b ≡ true → a ≡ b
same_spot-means a b h =
    let parts = and_parts (same_point a.point b.point) (same_stack a.stack b.stack) h in
    let point = same_point-means a.point b.point parts.0 in
    let stack = same_stack-means a.stack b.stack parts.1 in
    ap (λ p. spot_of_parts p a.stack) point ∙ ap (λ s. spot_of_parts b.point s) stack

pub same_spot-self : (a : Spot) → same_spot a a ≡ true
same_spot-self a =
    ap (λ b. b && same_stack a.stack a.stack) (same_point-self a.point) ∙ same_stack-self a.stack

pub same_spot-decides : (a b : Spot) → Decides (same_spot a b) (a ≡ b)
same_spot-decides a b =
    (same_spot-means a b, λ is. ap (λ s. same_spot a s) (sym is) ∙ same_spot-self a)

pub same_spot-equiv : IsEquivalence same_spot
same_spot-equiv = decided same_spot same_spot-decides

pub same_spot-per : IsPartialEquivalence same_spot
same_spot-per = partial_equiv_from_equiv same_spot-equiv

pub spot_writes-alike : Alike same_spot spot_writes
spot_writes-alike = same_Alike spot_writes same_spot-decides
