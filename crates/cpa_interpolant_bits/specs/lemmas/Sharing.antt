-- A node that is found is the node: nodes that the derived equality takes for one are equal, and
-- what a step makes of the node found is what it makes of the node.
use Rattle.std.proofs.Common.{◌≡◌, ℕ, ◌<◌, true, List, [], ◌∷◌, length}
use Rattle.std.proofs.Common.{Some, sym, ap, subst, ◌∙◌, ◌&&◌, nat_eq, arith}
use Rattle.std.proofs.lemmas.Bool.{and_parts, cond_both, eqb-true}
use Rattle.cpa_interpolant_bits.specs.declared.nodes.Node.{Node}
use Rattle.cpa_interpolant_bits.specs.declared.nodes.Node.TheVariants.{Literal, Both, Either}
use Rattle.cpa_interpolant_bits.specs.Nodes.{ReadsBelow, IsScoped, same_node, place_of}
use Rattle.cpa_interpolant_bits.specs.lemmas.Rows.{row_at, newest, older_same}

two : (a b c d : ℕ) → nat_eq a c && nat_eq b d ≡ true → (a ≡ c) × (b ≡ d)
two a b c d h =
    let p = and_parts (nat_eq a c) (nat_eq b d) h in
    (eqb-true a c p.0, eqb-true b d p.1)

pub same_exact : (x y : Node) → same_node x y ≡ true → x ≡ y
same_exact (Literal a) (Literal b) e = ap Literal (eqb-true a b e)
same_exact (Both a b) (Both c d) e = let f = two a b c d e in cc
same_exact (Either a b) (Either c d) e = let f = two a b c d e in cc
same_exact _ _ e = absurd (cc)

-- the step reads what is before the node alone
abbrev pub Congruent : {A : Type 0} → ((ℕ → A) → Node → A) → Type 0
Congruent {A} step =
    (f g : ℕ → A) (node : Node) (n : ℕ) → ReadsBelow n node
    → ((k : ℕ) → k < n → f k ≡ g k) → step f node ≡ step g node

-- the number that is found, and what the step makes there
pub record IsPlace {A : Type 0} (none : A) (step : (ℕ → A) → Node → A) (nodes : List Node)
    (node : Node) (number : ℕ) : Type 0 where
  pub below : number < length nodes
  pub reads : ReadsBelow number node
  pub is : row_at none step nodes number ≡ step (row_at none step nodes) node

module _ {A : Type 0} (none : A) (step : (ℕ → A) → Node → A) (congruent : Congruent step) where
  here : (first node : Node) (older : List Node) (number : ℕ) → IsScoped (first ∷ older)
      → same_node first node ≡ true → Some (length older) ≡ Some number
      → IsPlace none step (first ∷ older) node number
  here first node older number is same at =
      let is_number : length older ≡ number = cc in
      let equal = same_exact first node same in
      subst (IsPlace none step (first ∷ older) node) is_number (record {
        below = omega arith;
        reads = subst (ReadsBelow (length older)) equal is.1;
        is = newest none step first older ∙ congruent (row_at none step older)
            (row_at none step (first ∷ older)) first (length older) is.1
            (λ k h. sym (older_same none step first older k h))
            ∙ ap (step (row_at none step (first ∷ older))) equal;
      })

  behind : (first node : Node) (older : List Node) (number : ℕ)
      → IsPlace none step older node number → IsPlace none step (first ∷ older) node number
  behind first node older number rest =
      let below = rest.below in
      record {
        below = omega arith;
        reads = rest.reads;
        is = older_same none step first older number below ∙ rest.is
            ∙ congruent (row_at none step older) (row_at none step (first ∷ older)) node number
            rest.reads (λ k h. sym (older_same none step first older k (omega arith)));
      }

  pub place_found : (nodes : List Node) (node : Node) (number : ℕ) → IsScoped nodes
      → place_of nodes node ≡ Some number → IsPlace none step nodes node number
  place_found [] node number is e = absurd (cc)
  place_found (first ∷ older) node number is e =
      cond_both (same_node first node) (Some (length older)) (place_of older node)
      (λ o. o ≡ Some number → IsPlace none step (first ∷ older) node number)
      (λ same. here first node older number is same)
      (λ apart at. behind first node older number (place_found older node number is.0 at)) e
