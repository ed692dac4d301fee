-- A gate that is found is the gate: gates that the derived equality takes for one are equal, and
-- the variable found has the gate's value.
use Rattle.std.proofs.Common.{◌≡◌, ℕ, ◌<◌, Bool, true, List, [], ◌∷◌}
use Rattle.std.proofs.Common.{Some, refl, ap, subst, ◌∙◌, ◌&&◌, nat_eq, arith}
use Rattle.std.proofs.lemmas.Bool.{and_parts, cond_both, eqb-true}
use Rattle.cpa_blast_gates.specs.declared.gate.Gate.{Gate}
use Rattle.cpa_blast_gates.specs.declared.gate.Gate.TheVariants.{Input, And, Xor, Majority, Choice}
use Rattle.cpa_blast_gates.specs.Gates.{gate_value}
use Rattle.cpa_blast_gates.specs.Nets.{vars, Holds, same_gate, place_of}

two : (a b c d : ℕ) → nat_eq a c && nat_eq b d ≡ true → (a ≡ c) × (b ≡ d)
two a b c d h =
    let p = and_parts (nat_eq a c) (nat_eq b d) h in
    (eqb-true a c p.0, eqb-true b d p.1)

three : (a b c x y z : ℕ) → nat_eq a x && (nat_eq b y && nat_eq c z) ≡ true
    → (a ≡ x) × (b ≡ y) × (c ≡ z)
three a b c x y z h =
    let p = and_parts (nat_eq a x) (nat_eq b y && nat_eq c z) h in
    let q = two b c y z p.1 in
    (eqb-true a x p.0, q.0, q.1)

pub same_exact : (g h : Gate) → same_gate g h ≡ true → g ≡ h
same_exact Input Input e = refl
same_exact (And a b) (And c d) e = let f = two a b c d e in cc
same_exact (Xor a b) (Xor c d) e = let f = two a b c d e in cc
same_exact (Majority a b c) (Majority x y z) e = let f = three a b c x y z e in cc
same_exact (Choice a b c) (Choice x y z) e = let f = three a b c x y z e in cc
same_exact _ _ e = absurd (cc)

-- the place that is found, and what its variable is
pub record IsPlace (net : List Gate) (g : Gate) (v : ℕ) : Type 0 where
  pub below : v < vars net
  pub is : (m : ℕ → Bool) → Holds m net → m v ≡ gate_value m v g

place_here : (net : List Gate) (h g : Gate) (v : ℕ) → same_gate h g ≡ true
    → Some (vars net) ≡ Some v → IsPlace (h ∷ net) g v
place_here net h g v same at =
    let is_v : vars net ≡ v = cc in
    subst (λ w. IsPlace (h ∷ net) g w) is_v (record {
      below = omega arith;
      is = λ m holds. holds.1 ∙ ap (gate_value m (vars net)) (same_exact h g same);
    })

place_behind : (net : List Gate) (h g : Gate) (v : ℕ) → IsPlace net g v → IsPlace (h ∷ net) g v
place_behind net h g v rest =
    let below = rest.below in
    record { below = omega arith; is = λ m holds. rest.is m holds.0 }

pub place_found : (net : List Gate) (g : Gate) (v : ℕ) → place_of net g ≡ Some v
    → IsPlace net g v
place_found [] g v e = absurd (cc)
place_found (h ∷ net) g v e =
    cond_both (same_gate h g) (Some (vars net)) (place_of net g)
    (λ o. o ≡ Some v → IsPlace (h ∷ net) g v)
    (λ same. place_here net h g v same)
    (λ apart at. place_behind net h g v (place_found net g v at)) e
