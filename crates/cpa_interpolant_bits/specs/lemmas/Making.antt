-- What the operators make has their truth, and names only what was named.
use Rattle.std.proofs.Common.{◌≡◌, ℕ, ◌/◌, ◌<◌, ◌&&◌, ◌||◌, Bool, true, false, List, [], ◌∷◌}
use Rattle.std.proofs.Common.{◌++◌, length, Option, None, Some, refl, sym, ap, subst, ◌∙◌, arith}
use Rattle.std.specs.Prelude.{◌==◌}
use Rattle.std.proofs.lemmas.Bool.{cond_both, eqb-true}
use Rattle.cpa_cnf.specs.Models.{value_of_literal}
use Rattle.cpa_interpolant_bits.specs.declared.bits.Bit.{Bit}
use Rattle.cpa_interpolant_bits.specs.declared.nodes.Node.{Node}
use Rattle.cpa_interpolant_bits.specs.declared.nodes.Node.TheVariants.{Literal, Both, Either}
use Rattle.cpa_interpolant_bits.specs.declared.nodes.Condition.{Condition}
use Rattle.cpa_interpolant_bits.specs.declared.nodes.Condition.TheVariants.{Known, Open}
use Rattle.cpa_interpolant_bits.specs.Nodes.{node_truth, truth_at, truth_in, bit_named}
use Rattle.cpa_interpolant_bits.specs.Nodes.{ReadsBelow, IsScoped, IsInside, place_of, Made, made}
use Rattle.cpa_interpolant_bits.specs.Nodes.{shared_at, shared, literal_made, both_nodes}
use Rattle.cpa_interpolant_bits.specs.Nodes.{either_nodes, both_made, either_made}
use Rattle.cpa_interpolant_bits.specs.Meanings.{Grows, IsMade, IsOfBits, AreOfBits}
use Rattle.cpa_interpolant_bits.specs.lemmas.Rows.{newest, all_older_same}
use Rattle.cpa_interpolant_bits.specs.lemmas.Sharing.{place_found}
use Rattle.cpa_interpolant_bits.specs.lemmas.Nodes.{truth_congruent}

nothing_more : (nodes : List Node) → Grows nodes nodes
nothing_more nodes = record { more = []; is = refl }

-- ---- one node

module _ (nodes : List Node) (node : Node) (scoped : IsScoped nodes)
    (reads : ReadsBelow (length nodes) node) where
  case_made : (o : Option ℕ) → place_of nodes node ≡ o
      → IsMade nodes (shared_at nodes node o)
      (λ values. node_truth values (truth_at values nodes) node)
  case_made None e = record {
    grows = record { more = node ∷ []; is = refl };
    scoped = (scoped, reads);
    inside = omega arith;
    truth = λ values. newest false (node_truth values) node nodes;
  }
  case_made (Some number) e = record {
    grows = nothing_more nodes;
    scoped = scoped;
    inside = (place_found false (node_truth []) (truth_congruent []) nodes node number scoped
        e).below;
    truth = λ values. (place_found false (node_truth values) (truth_congruent values) nodes node
        number scoped e).is;
  }

  pub shared_made : IsMade nodes (shared nodes node)
      (λ values. node_truth values (truth_at values nodes) node)
  unfolding shared
  shared_made = case_made (place_of nodes node) refl

pub literal_is : (nodes : List Node) (l : ℕ) → IsScoped nodes
    → IsMade nodes (literal_made nodes l) (λ values. value_of_literal values l)
literal_is nodes l scoped = shared_made nodes (Literal l) scoped tt

-- a truth that is told in other words
told : (nodes : List Node) (m : Made) (f g : List Bool → Bool) → IsMade nodes m f
    → ((values : List Bool) → f values ≡ g values) → IsMade nodes m g
told nodes m f g is same = record {
  grows = is.grows;
  scoped = is.scoped;
  inside = is.inside;
  truth = λ values. is.truth values ∙ same values;
}

here : (nodes : List Node) (c : Condition) (f : List Bool → Bool) → IsScoped nodes
    → IsInside nodes c → ((values : List Bool) → truth_in values nodes c ≡ f values)
    → IsMade nodes (made nodes c) f
here nodes c f scoped inside truth = record {
  grows = nothing_more nodes;
  scoped = scoped;
  inside = inside;
  truth = truth;
}

-- ---- two conditions

and_same : (x : Bool) → x ≡ (x && x)
and_same true = refl
and_same false = refl

or_same : (x : Bool) → x ≡ (x || x)
or_same true = refl
or_same false = refl

and_true : (x : Bool) → x ≡ (x && true)
and_true true = refl
and_true false = refl

and_false : (x : Bool) → false ≡ (x && false)
and_false true = refl
and_false false = refl

or_true : (x : Bool) → true ≡ (x || true)
or_true true = refl
or_true false = refl

or_false : (x : Bool) → x ≡ (x || false)
or_false true = refl
or_false false = refl

module _ (nodes : List Node) (scoped : IsScoped nodes) where
  both_open : (a b : ℕ) → a < length nodes → b < length nodes
      → IsMade nodes (both_nodes nodes a b)
      (λ values. truth_at values nodes a && truth_at values nodes b)
  both_open a b left right =
      cond_both (a == b) (made nodes (Open a)) (shared nodes (Both a b))
      (λ m. IsMade nodes m (λ values. truth_at values nodes a && truth_at values nodes b))
      (λ same. here nodes (Open a) _ scoped left
      (λ values. and_same (truth_at values nodes a)
      ∙ ap (λ n. truth_at values nodes a && truth_at values nodes n) (eqb-true a b same)))
      (λ apart. shared_made nodes (Both a b) scoped (left, right))

  either_open : (a b : ℕ) → a < length nodes → b < length nodes
      → IsMade nodes (either_nodes nodes a b)
      (λ values. truth_at values nodes a || truth_at values nodes b)
  either_open a b left right =
      cond_both (a == b) (made nodes (Open a)) (shared nodes (Either a b))
      (λ m. IsMade nodes m (λ values. truth_at values nodes a || truth_at values nodes b))
      (λ same. here nodes (Open a) _ scoped left
      (λ values. or_same (truth_at values nodes a)
      ∙ ap (λ n. truth_at values nodes a || truth_at values nodes n) (eqb-true a b same)))
      (λ apart. shared_made nodes (Either a b) scoped (left, right))

  pub both_is : (a b : Condition) → IsInside nodes a → IsInside nodes b
      → IsMade nodes (both_made nodes a b)
      (λ values. truth_in values nodes a && truth_in values nodes b)
  both_is (Known true) b left right = here nodes b _ scoped right (λ values. refl)
  both_is (Known false) b left right = here nodes (Known false) _ scoped tt (λ values. refl)
  both_is (Open a) (Known true) left right =
      here nodes (Open a) _ scoped left (λ values. and_true (truth_at values nodes a))
  both_is (Open a) (Known false) left right =
      here nodes (Known false) _ scoped tt (λ values. and_false (truth_at values nodes a))
  both_is (Open a) (Open b) left right = both_open a b left right

  pub either_is : (a b : Condition) → IsInside nodes a → IsInside nodes b
      → IsMade nodes (either_made nodes a b)
      (λ values. truth_in values nodes a || truth_in values nodes b)
  either_is (Known true) b left right = here nodes (Known true) _ scoped tt (λ values. refl)
  either_is (Known false) b left right = here nodes b _ scoped right (λ values. refl)
  either_is (Open a) (Known true) left right =
      here nodes (Known true) _ scoped tt (λ values. or_true (truth_at values nodes a))
  either_is (Open a) (Known false) left right =
      here nodes (Open a) _ scoped left (λ values. or_false (truth_at values nodes a))
  either_is (Open a) (Open b) left right = either_open a b left right

-- ---- what stays

within : (more old : List Node) (k : ℕ) → k < length old → k < length (more ++ old)
within [] old k h = h
within (node ∷ more) old k h = let rest = within more old k h in omega arith

pub still_inside : (old new : List Node) (c : Condition) → Grows old new → IsInside old c
    → IsInside new c
still_inside old new (Known b) grows inside = tt
still_inside old new (Open number) grows inside =
    subst (λ nodes. number < length nodes) (sym grows.is) (within grows.more old number inside)

pub still_true : (old new : List Node) (c : Condition) (values : List Bool) → Grows old new
    → IsInside old c → truth_in values new c ≡ truth_in values old c
still_true old new (Known b) values grows inside = refl
still_true old new (Open number) values grows inside =
    ap (λ nodes. truth_at values nodes number) grows.is
    ∙ all_older_same false (node_truth values) grows.more old number inside

-- ---- which variables are named

module _ (bits : List (Option Bit)) (nodes : List Node) (are : AreOfBits bits nodes) where
  case_of_bits : (node : Node) (o : Option ℕ) → IsOfBits bits node
      → AreOfBits bits (shared_at nodes node o).nodes
  case_of_bits node None is = (is, are)
  case_of_bits node (Some number) is = are

  shared_of_bits : (node : Node) → IsOfBits bits node → AreOfBits bits (shared nodes node).nodes
  unfolding shared
  shared_of_bits node is = case_of_bits node (place_of nodes node) is

  pub literal_of_bits : (l : ℕ) (bit : Bit) → bit_named bits (l / 2) ≡ Some bit
      → AreOfBits bits (literal_made nodes l).nodes
  literal_of_bits l bit is = shared_of_bits (Literal l) (bit, is)

  pub both_of_bits : (a b : Condition) → AreOfBits bits (both_made nodes a b).nodes
  both_of_bits (Known true) b = are
  both_of_bits (Known false) b = are
  both_of_bits (Open a) (Known true) = are
  both_of_bits (Open a) (Known false) = are
  both_of_bits (Open a) (Open b) =
      cond_both (a == b) (made nodes (Open a)) (shared nodes (Both a b))
      (λ (m : Made). AreOfBits bits m.nodes) (λ same. are)
      (λ apart. shared_of_bits (Both a b) tt)

  pub either_of_bits : (a b : Condition) → AreOfBits bits (either_made nodes a b).nodes
  either_of_bits (Known true) b = are
  either_of_bits (Known false) b = are
  either_of_bits (Open a) (Known true) = are
  either_of_bits (Open a) (Known false) = are
  either_of_bits (Open a) (Open b) =
      cond_both (a == b) (made nodes (Open a)) (shared nodes (Either a b))
      (λ (m : Made). AreOfBits bits m.nodes) (λ same. are)
      (λ apart. shared_of_bits (Either a b) tt)
