-- What a node asks depends on the nodes that it reads alone; the expression at a number is that of
-- the node there.
use Rattle.std.proofs.Common.{◌≡◌, ℕ, ◌<◌, ◌&&◌, ◌||◌, Bool, false, List, length, get_or}
use Rattle.std.proofs.Common.{reverse, Option, refl, sym, ap, subst, ◌∙◌, arith}
use Rattle.std.proofs.lemmas.List.{reverse-reverse, length-reverse}
use Rattle.cpa_expr.specs.declared.tree.Expr.TheVariants.{And, Or}
use Rattle.cpa_interpolant_bits.specs.declared.bits.Bit.{Bit}
use Rattle.cpa_interpolant_bits.specs.declared.nodes.Node.{Node}
use Rattle.cpa_interpolant_bits.specs.declared.nodes.Node.TheVariants.{Literal, Both, Either}
use Rattle.cpa_interpolant_bits.specs.Nodes.{node_truth, constant_of, node_expr}
use Rattle.cpa_interpolant_bits.specs.Nodes.{expr_at, ReadsBelow, IsScoped}
use Rattle.cpa_interpolant_bits.specs.lemmas.Rows.{scoped_at, at_number}
use Rattle.cpa_interpolant_bits.specs.lemmas.Sharing.{Congruent}

pub truth_congruent : (values : List Bool) → Congruent (node_truth values)
truth_congruent values f g (Literal l) n reads same = refl
truth_congruent values f g (Both a b) n reads same =
    ap (λ x. x && f b) (same a reads.0) ∙ ap (λ y. g a && y) (same b reads.1)
truth_congruent values f g (Either a b) n reads same =
    ap (λ x. x || f b) (same a reads.0) ∙ ap (λ y. g a || y) (same b reads.1)

pub expr_congruent : (bits : List (Option Bit)) → Congruent (node_expr bits)
expr_congruent bits f g (Literal l) n reads same = refl
expr_congruent bits f g (Both a b) n reads same =
    ap (λ x. And x (f b)) (same a reads.0) ∙ ap (λ y. And (g a) y) (same b reads.1)
expr_congruent bits f g (Either a b) n reads same =
    ap (λ x. Or x (f b)) (same a reads.0) ∙ ap (λ y. Or (g a) y) (same b reads.1)

-- ---- nodes in a slice, the oldest one first

module _ (nodes : List Node) (number : ℕ) (node : Node) (scoped : IsScoped (reverse nodes))
    (inside : number < length nodes) (is : node ≡ get_or nodes number node) where
  there : number < length (reverse nodes)
  there = let long = length-reverse nodes in omega arith

  as_numbered : get_or (reverse (reverse nodes)) number node ≡ node
  as_numbered = ap (λ xs. get_or xs number node) (reverse-reverse nodes) ∙ sym is

  pub node_reads : ReadsBelow number node
  node_reads =
      subst (ReadsBelow number) as_numbered (scoped_at node (reverse nodes) number scoped there)

  pub expr_of_node : (bits : List (Option Bit)) → expr_at bits (reverse nodes) number
      ≡ node_expr bits (expr_at bits (reverse nodes)) node
  expr_of_node bits =
      at_number node (constant_of false) (node_expr bits) (expr_congruent bits) (reverse nodes)
      number scoped there
      ∙ ap (node_expr bits (expr_at bits (reverse nodes))) as_numbered
