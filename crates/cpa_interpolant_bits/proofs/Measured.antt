-- The extents of expressions, node by node; and that the expression at a number is that of its
-- node.
use Rattle.std.proofs.Common.{◌≡◌, ℕ, ◌+◌, ◌<◌, ◌≤◌, max, Bool, true, false, List}
use Rattle.std.proofs.Common.{length, map, reverse, get_or, Option, None, not, ◌/◌, ◌%◌, sym, ap}
use Rattle.std.proofs.Common.{subst, ◌∙◌, arith}
use Rattle.std.specs.Prelude.{slice_index_or, ◌==◌}
use Rattle.std.proofs.lemmas.List.{get_or-map, get_or_past, length-map}
use Rattle.cpa_ints.specs.declared.integers.IntType.TheVariants as ty
use Rattle.cpa_expr.specs.declared.tree.Expr.{Expr}
use Rattle.cpa_expr.specs.declared.tree.Expr.TheVariants.{And, Or, Not}
use Rattle.cpa_expr.specs.Shape.{size, height}
use Rattle.cpa_expr.specs.Values.{truth}
use Rattle.cpa_expr.specs.Laws.{size_at_variants, height_at_variants}
use Rattle.cpa_interpolant_bits.specs.declared.bits.Bit.{Bit}
use Rattle.cpa_interpolant_bits.specs.declared.nodes.Node.{Node}
use Rattle.cpa_interpolant_bits.specs.declared.nodes.Node.TheVariants.{Literal, Both, Either}
use Rattle.cpa_interpolant_bits.specs.declared.extents.Extent.{Extent}
use Rattle.cpa_interpolant_bits.specs.Bits.{bit_read, bit_is}
use Rattle.cpa_interpolant_bits.specs.Nodes.{constant_of, node_expr, ReadsBelow}
use Rattle.cpa_interpolant_bits.specs.Nodes.{bit_named, literal_in, literal_read, expr_at, IsScoped}
use Rattle.cpa_interpolant_bits.specs.lemmas.Nodes.{node_reads, expr_of_node}
use Rattle.cpa_interpolant_bits.specs.Limits.{counted, extent_of, joined_extent}
use Rattle.cpa_interpolant_bits.specs.lemmas.Shapes.{read_size, read_height}

-- ---- expressions

abbrev pub extent_with : ℕ → ℕ → Extent
extent_with n h = record { size = n; height = h }

same_extent : (a b c d : ℕ) → a ≡ b → c ≡ d → extent_with a c ≡ extent_with b d
same_extent a b c d e f = ap (λ x. extent_with x c) e ∙ ap (extent_with b) f

extent : (e : Expr) (n h : ℕ) → size e ≡ n → height e ≡ h
    → extent_with (counted n) (counted h) ≡ extent_of e
extent e n h sized high =
    same_extent (counted n) (counted (size e)) (counted h) (counted (height e))
    (ap counted (sym sized)) (ap counted (sym high))

pub set_extent : (bit : Bit) (set : Bool) → set ≡ true
    → extent_with 9 6 ≡ extent_of (bit_is bit set)
set_extent bit set is =
    extent (bit_read bit) 9 6 (read_size bit) (read_height bit)
    ∙ ap (λ s. extent_of (bit_is bit s)) (sym is)

pub unset_extent : (bit : Bit) (set : Bool) → set ≡ false
    → extent_with 10 7 ≡ extent_of (bit_is bit set)
unset_extent bit set is =
    extent (Not (bit_read bit)) 10 7
    (size_at_variants.negation (bit_read bit) ∙ ap (λ n. 1 + n) (read_size bit))
    (height_at_variants.negation (bit_read bit) ∙ ap (λ n. 1 + n) (read_height bit))
    ∙ ap (λ s. extent_of (bit_is bit s)) (sym is)

pub leaf_extent : (b : Bool) → extent_with 1 1 ≡ extent_of (constant_of b)
leaf_extent b =
    extent (constant_of b) 1 1 (size_at_variants.constant ty.I32 (truth b))
    (height_at_variants.constant ty.I32 (truth b))

joined_sizes : (n a b : ℕ) → n ≡ 1 + a + b
    → counted n ≡ counted (counted (counted a + counted b) + 1)
joined_sizes n a b e = omega arith

joined_heights : (n a b : ℕ) → n ≡ 1 + max a b
    → counted n ≡ counted (max (counted a) (counted b) + 1)
joined_heights n a b e = omega arith

and_extent : (x y : Expr) → joined_extent (extent_of x) (extent_of y) ≡ extent_of (And x y)
and_extent x y =
    sym (same_extent _ _ _ _
    (joined_sizes (size (And x y)) (size x) (size y) (size_at_variants.conjunction x y))
    (joined_heights (height (And x y)) (height x) (height y) (height_at_variants.conjunction x y)))

or_extent : (x y : Expr) → joined_extent (extent_of x) (extent_of y) ≡ extent_of (Or x y)
or_extent x y =
    sym (same_extent _ _ _ _
    (joined_sizes (size (Or x y)) (size x) (size y) (size_at_variants.disjunction x y))
    (joined_heights (height (Or x y)) (height x) (height y) (height_at_variants.disjunction x y)))

-- ---- places in a row

-- an extent that is looked up, or the one that stands for none
pub found_extent : (es : List Extent) (found : List Expr) (number : ℕ) (e : Extent)
    → es ≡ map extent_of found → get_or es number e ≡ e → number < length es
    → e ≡ extent_of (slice_index_or found number (constant_of false))
found_extent es found number e are is inside =
    let long : length es ≡ length found = ap length are ∙ length-map found extent_of in
    sym is ∙ ap (λ xs. get_or xs number e) are
    ∙ get_or-map extent_of found number (constant_of false) e (omega arith)

pub missing_extent : (es : List Extent) (found : List Expr) (number : ℕ)
    → es ≡ map extent_of found → length es ≤ number
    → extent_with 1 1
    ≡ extent_of (slice_index_or found number (constant_of false))
missing_extent es found number are past =
    let long : length es ≡ length found = ap length are ∙ length-map found extent_of in
    leaf_extent false
    ∙ ap extent_of (sym (get_or_past found number (constant_of false) (omega arith)))

pub both_extent : (x y : Extent) (a b : Expr) → x ≡ extent_of a → y ≡ extent_of b
    → joined_extent x y ≡ extent_of (And a b)
both_extent x y a b e f =
    ap (λ z. joined_extent z y) e ∙ ap (joined_extent (extent_of a)) f ∙ and_extent a b

pub either_extent : (x y : Extent) (a b : Expr) → x ≡ extent_of a → y ≡ extent_of b
    → joined_extent x y ≡ extent_of (Or a b)
either_extent x y a b e f =
    ap (λ z. joined_extent z y) e ∙ ap (joined_extent (extent_of a)) f ∙ or_extent a b

pub no_bit_extent : (bits : List (Option Bit)) (l v : ℕ) → None ≡ bit_named bits v → v ≡ l / 2
    → extent_with 1 1 ≡ extent_of (literal_read bits l)
no_bit_extent bits l v none is =
    leaf_extent false
    ∙ ap (λ (o : Option Bit). extent_of (literal_in o (not (l % 2 == 1))))
    (none ∙ ap (bit_named bits) is)

-- ---- what is made of a node

module _ (nodes : List Node) (number : ℕ) (node : Node) (scoped : IsScoped (reverse nodes))
    (inside : number < length nodes) (is : node ≡ get_or nodes number node) where
  pub both_parts : (a b : ℕ) → node ≡ Both a b → (a < number) × (b < number)
  both_parts a b e =
      subst (ReadsBelow number) e (node_reads nodes number node scoped inside is)

  pub either_parts : (a b : ℕ) → node ≡ Either a b → (a < number) × (b < number)
  either_parts a b e =
      subst (ReadsBelow number) e (node_reads nodes number node scoped inside is)

  pub at_literal : (l : ℕ) → node ≡ Literal l → (bits : List (Option Bit))
      → expr_at bits (reverse nodes) number ≡ literal_read bits l
  at_literal l e bits =
      expr_of_node nodes number node scoped inside is bits
      ∙ ap (node_expr bits (expr_at bits (reverse nodes))) e

  pub at_both : (a b : ℕ) → node ≡ Both a b → (bits : List (Option Bit)) → (x y : Expr)
      → x ≡ expr_at bits (reverse nodes) a → y ≡ expr_at bits (reverse nodes) b
      → And x y ≡ expr_at bits (reverse nodes) number
  at_both a b e bits x y left right =
      ap (λ z. And z y) left ∙ ap (And (expr_at bits (reverse nodes) a)) right
      ∙ sym (expr_of_node nodes number node scoped inside is bits
      ∙ ap (node_expr bits (expr_at bits (reverse nodes))) e)

  pub at_either : (a b : ℕ) → node ≡ Either a b → (bits : List (Option Bit)) → (x y : Expr)
      → x ≡ expr_at bits (reverse nodes) a → y ≡ expr_at bits (reverse nodes) b
      → Or x y ≡ expr_at bits (reverse nodes) number
  at_either a b e bits x y left right =
      ap (λ z. Or z y) left ∙ ap (Or (expr_at bits (reverse nodes) a)) right
      ∙ sym (expr_of_node nodes number node scoped inside is bits
      ∙ ap (node_expr bits (expr_at bits (reverse nodes))) e)
