-- The expression of a condition has the condition's truth on every store that gives the values, is
-- an int, well typed, and reads only cells of which bits are there.
use Rattle.std.proofs.Common.{◌≡◌, ◌⊎◌, ℕ, zero, suc, ◌/◌, ◌%◌, ◌<◌, ◌&&◌, ◌||◌, Bool, true, false}
use Rattle.std.proofs.Common.{not, ℤ, pos, List, [], ◌∷◌, Option, None, Some, IsSomeAnd}
use Rattle.std.proofs.Common.{refl, sym, ap, subst, ◌∙◌, arith, inl, inr}
use Rattle.std.specs.Prelude.{◌==◌, slice_index_or, if◌then◌else◌}
use Rattle.std.specs.List.{AllByRecursion}
use Rattle.std.proofs.lemmas.Bool.{eqb-true}
use Rattle.std.proofs.lemmas.Int.{ints}
use Rattle.std.proofs.lemmas.Nat.{mod_below}
use Rattle.cpa_ints.specs.declared.integers.IntType.{IntType}
use Rattle.cpa_ints.specs.declared.integers.IntType.TheVariants as ty
use Rattle.cpa_ints.specs.Integers.{IsInRange}
use Rattle.cpa_cnf.specs.Models.{value_of_literal}
use Rattle.cpa_expr.specs.declared.tree.Expr.{Expr}
use Rattle.cpa_expr.specs.declared.tree.Expr.TheVariants.{And, Or}
use Rattle.cpa_expr.specs.Shape.{type_of, IsTyped}
use Rattle.cpa_expr.specs.Values.{truth, is_nonzero, logical_and, logical_or, value_of, HasTruth}
use Rattle.cpa_expr.specs.Cells.{may_read}
use Rattle.cpa_expr.specs.Laws.{value_at_variants, type_at_variants, typed_at_variants}
use Rattle.cpa_expr.specs.Laws.{reads_at_variants}
use Rattle.cpa_interpolant_bits.specs.declared.bits.Bit.{Bit}
use Rattle.cpa_interpolant_bits.specs.declared.nodes.Node.{Node}
use Rattle.cpa_interpolant_bits.specs.declared.nodes.Node.TheVariants.{Literal, Both, Either}
use Rattle.cpa_interpolant_bits.specs.declared.nodes.Condition.{Condition}
use Rattle.cpa_interpolant_bits.specs.declared.nodes.Condition.TheVariants.{Known, Open}
use Rattle.cpa_interpolant_bits.specs.Bits.{bit_in, IsBitOf, bit_is}
use Rattle.cpa_interpolant_bits.specs.Nodes.{node_truth, truth_in, constant_of, bit_named}
use Rattle.cpa_interpolant_bits.specs.Nodes.{literal_in, literal_read, node_expr, expr_in}
use Rattle.cpa_interpolant_bits.specs.Meanings.{IsOfBits, AreOfBits, Gives, HasCell}
use Rattle.cpa_interpolant_bits.specs.lemmas.Rows.{Keeps, rows_related}
use Rattle.cpa_interpolant_bits.specs.lemmas.Values.{wanted_truth, read_truth, truth_nonzero}
use Rattle.cpa_interpolant_bits.specs.lemmas.Shapes.{read_typed, read_cells}

-- ---- truths of two

and_some : (a b : ℤ) (x y : Bool) → is_nonzero a ≡ x → is_nonzero b ≡ y
    → IsSomeAnd (logical_and (Some a) (Some b)) (λ n. is_nonzero n ≡ (x && y))
and_some a b true y h k =
    let P : Bool → Type 0 = λ t. IsSomeAnd
    (if t then Some (truth (is_nonzero b)) else Some (pos 0)) (λ n. is_nonzero n ≡ y) in
    subst P (sym h) (truth_nonzero (is_nonzero b) ∙ k)
and_some a b false y h k =
    let P : Bool → Type 0 = λ t. IsSomeAnd
    (if t then Some (truth (is_nonzero b)) else Some (pos 0)) (λ n. is_nonzero n ≡ false) in
    subst P (sym h) refl

or_some : (a b : ℤ) (x y : Bool) → is_nonzero a ≡ x → is_nonzero b ≡ y
    → IsSomeAnd (logical_or (Some a) (Some b)) (λ n. is_nonzero n ≡ (x || y))
or_some a b true y h k =
    let P : Bool → Type 0 = λ t. IsSomeAnd
    (if t then Some (pos 1) else Some (truth (is_nonzero b))) (λ n. is_nonzero n ≡ true) in
    subst P (sym h) refl
or_some a b false y h k =
    let P : Bool → Type 0 = λ t. IsSomeAnd
    (if t then Some (pos 1) else Some (truth (is_nonzero b))) (λ n. is_nonzero n ≡ y) in
    subst P (sym h) (truth_nonzero (is_nonzero b) ∙ k)

and_options : (o p : Option ℤ) (x y : Bool) → IsSomeAnd o (λ a. is_nonzero a ≡ x)
    → IsSomeAnd p (λ a. is_nonzero a ≡ y)
    → IsSomeAnd (logical_and o p) (λ a. is_nonzero a ≡ (x && y))
and_options None p x y h k = absurd h
and_options (Some a) None x y h k = absurd k
and_options (Some a) (Some b) x y h k = and_some a b x y h k

or_options : (o p : Option ℤ) (x y : Bool) → IsSomeAnd o (λ a. is_nonzero a ≡ x)
    → IsSomeAnd p (λ a. is_nonzero a ≡ y)
    → IsSomeAnd (logical_or o p) (λ a. is_nonzero a ≡ (x || y))
or_options None p x y h k = absurd h
or_options (Some a) None x y h k = absurd k
or_options (Some a) (Some b) x y h k = or_some a b x y h k

module _ (store : List ℤ) where
  constant_truth : (b : Bool) → HasTruth store (constant_of b) b
  constant_truth b =
      let P : Option ℤ → Type 0 = λ o. IsSomeAnd o (λ a. is_nonzero a ≡ b) in
      subst P (sym (value_at_variants.constant ty.I32 (truth b) store)) (truth_nonzero b)

  and_truth : (e f : Expr) (x y : Bool) → HasTruth store e x → HasTruth store f y
      → HasTruth store (And e f) (x && y)
  and_truth e f x y h k =
      let P : Option ℤ → Type 0 = λ o. IsSomeAnd o (λ a. is_nonzero a ≡ (x && y)) in
      subst P (sym (value_at_variants.conjunction e f store))
      (and_options (value_of e store) (value_of f store) x y h k)

  or_truth : (e f : Expr) (x y : Bool) → HasTruth store e x → HasTruth store f y
      → HasTruth store (Or e f) (x || y)
  or_truth e f x y h k =
      let P : Option ℤ → Type 0 = λ o. IsSomeAnd o (λ a. is_nonzero a ≡ (x || y)) in
      subst P (sym (value_at_variants.disjunction e f store))
      (or_options (value_of e store) (value_of f store) x y h k)

-- ---- the truth of a condition

parity : (r : ℕ) → r < 2 → not (r == 1) ≡ (r == 0)
parity zero h = refl
parity (suc zero) h = refl
parity (suc (suc n)) h = absurd (omega arith)

module _ (bits : List (Option Bit)) (store : List ℤ) (values : List Bool)
    (gives : Gives bits store values) where
  literal_truth : (l : ℕ) (bit : Bit) → bit_named bits (l / 2) ≡ Some bit
      → HasTruth store (literal_read bits l) (value_of_literal values l)
  literal_truth l bit is =
      let given = gives (l / 2) bit is in
      let set = not (l % 2 == 1) in
      let sign : set ≡ (l % 2 == 0) = parity (l % 2) (mod_below l 2 (omega arith)) in
      let as_bit : wanted_truth (bit_in store bit) set ≡ value_of_literal values l =
      ap (λ b. wanted_truth b set) (sym given.0)
      ∙ ap (wanted_truth (slice_index_or values (l / 2) false)) sign in
      subst (λ o. HasTruth store (literal_in o set) (value_of_literal values l)) (sym is)
      (subst (HasTruth store (bit_is bit set)) as_bit (read_truth bit set store given.1 given.2))

  keeps_truth : (node : Node) → IsOfBits bits node
      → Keeps (λ b e. HasTruth store e b) (node_truth values) (node_expr bits) node
  keeps_truth (Literal l) is f g alike = literal_truth l is.0 is.1
  keeps_truth (Both a b) is f g alike =
      and_truth store (g a) (g b) (f a) (f b) (alike a) (alike b)
  keeps_truth (Either a b) is f g alike =
      or_truth store (g a) (g b) (f a) (f b) (alike a) (alike b)

  all_keep : (nodes : List Node) → AreOfBits bits nodes
      → AllByRecursion (Keeps (λ b e. HasTruth store e b) (node_truth values) (node_expr bits))
      nodes
  all_keep [] are = tt
  all_keep (node ∷ nodes) are = (keeps_truth node are.0, all_keep nodes are.1)

  pub condition_truth : (nodes : List Node) (c : Condition) → AreOfBits bits nodes
      → HasTruth store (expr_in bits nodes c) (truth_in values nodes c)
  condition_truth nodes (Known b) are = constant_truth store b
  condition_truth nodes (Open number) are =
      rows_related (λ b e. HasTruth store e b) false (constant_of false) (node_truth values)
      (node_expr bits) (constant_truth store false) nodes (all_keep nodes are) number

-- ---- what holds of every expression

module _ (bits : List (Option Bit)) (P : Expr → Type 0) (known : (b : Bool) → P (constant_of b))
    (literal : (l : ℕ) → P (literal_read bits l)) (both : (e f : Expr) → P e → P f → P (And e f))
    (either : (e f : Expr) → P e → P f → P (Or e f)) where
  each : (node : Node) → Keeps (λ e f. P f) (node_expr bits) (node_expr bits) node
  each (Literal l) f g are = literal l
  each (Both a b) f g are = both (g a) (g b) (are a) (are b)
  each (Either a b) f g are = either (g a) (g b) (are a) (are b)

  all_each : (nodes : List Node)
      → AllByRecursion (Keeps (λ e f. P f) (node_expr bits) (node_expr bits)) nodes
  all_each [] = tt
  all_each (node ∷ nodes) = (each node, all_each nodes)

  pub of_conditions : (nodes : List Node) (c : Condition) → P (expr_in bits nodes c)
  of_conditions nodes (Known b) = known b
  of_conditions nodes (Open number) =
      rows_related (λ e f. P f) (constant_of false) (constant_of false) (node_expr bits)
      (node_expr bits) (known false) nodes (all_each nodes) number

-- an int
literal_type : (o : Option Bit) (set : Bool) → type_of (literal_in o set) ≡ ty.I32
literal_type None set = type_at_variants.constant ty.I32 (truth false)
literal_type (Some bit) true = type_at_variants.comparison _ _ _ _
literal_type (Some bit) false = type_at_variants.negation _

pub condition_type : (bits : List (Option Bit)) (nodes : List Node) (c : Condition)
    → type_of (expr_in bits nodes c) ≡ ty.I32
condition_type bits =
    of_conditions bits (λ e. type_of e ≡ ty.I32)
    (λ b. type_at_variants.constant ty.I32 (truth b))
    (λ l. literal_type (bit_named bits (l / 2)) (not (l % 2 == 1)))
    (λ e f h k. type_at_variants.conjunction e f) (λ e f h k. type_at_variants.disjunction e f)

-- well typed
in_range : (b : Bool) → IsInRange ty.I32 (truth b)
in_range true = (omega (arith, ints), omega (arith, ints))
in_range false = (omega (arith, ints), omega (arith, ints))

constant_typed : (cells : List IntType) (b : Bool) → IsTyped cells (constant_of b)
constant_typed cells b = (typed_at_variants.constant cells ty.I32 (truth b)).1 (in_range b)

literal_typed : (cells : List IntType) (o : Option Bit) (set : Bool)
    → ((bit : Bit) → o ≡ Some bit → IsBitOf cells bit) → IsTyped cells (literal_in o set)
literal_typed cells None set are = constant_typed cells false
literal_typed cells (Some bit) set are = read_typed cells bit set (are bit refl)

pub condition_typed : (cells : List IntType) (bits : List (Option Bit)) (nodes : List Node)
    (c : Condition) → ((v : ℕ) (bit : Bit) → bit_named bits v ≡ Some bit → IsBitOf cells bit)
    → IsTyped cells (expr_in bits nodes c)
condition_typed cells bits nodes c are =
    of_conditions bits (IsTyped cells) (constant_typed cells)
    (λ l. literal_typed cells (bit_named bits (l / 2)) (not (l % 2 == 1)) (are (l / 2)))
    (λ e f h k. (typed_at_variants.conjunction cells e f).1 (h, k))
    (λ e f h k. (typed_at_variants.disjunction cells e f).1 (h, k)) nodes c

-- what is read
or_parts : (x y : Bool) → (x || y) ≡ true → (x ≡ true) ⊎ (y ≡ true)
or_parts true y h = inl refl
or_parts false y h = inr h

constant_unread : (b : Bool) (cell : ℕ) → may_read (constant_of b) cell ≡ true → ⊥
constant_unread b cell h =
    let none = reads_at_variants.constant ty.I32 (truth b) cell in
    let both : false ≡ true = sym none ∙ h in
    cc

literal_cells : (bits : List (Option Bit)) (v : ℕ) (o : Option Bit) (set : Bool) (cell : ℕ)
    → bit_named bits v ≡ o → may_read (literal_in o set) cell ≡ true → HasCell bits cell
literal_cells bits v None set cell is h = absurd (constant_unread false cell h)
literal_cells bits v (Some bit) set cell is h =
    (v, bit, is, eqb-true bit.cell cell (sym (read_cells bit set cell) ∙ h))

pub condition_cells : (bits : List (Option Bit)) (nodes : List Node) (c : Condition) (cell : ℕ)
    → may_read (expr_in bits nodes c) cell ≡ true → HasCell bits cell
condition_cells bits nodes c cell =
    of_conditions bits (λ e. may_read e cell ≡ true → HasCell bits cell)
    (λ b h. absurd (constant_unread b cell h))
    (λ l. literal_cells bits (l / 2) (bit_named bits (l / 2)) (not (l % 2 == 1)) cell refl)
    (λ e f h k is. elim (or_parts (may_read e cell) (may_read f cell)
    (sym (reads_at_variants.conjunction e f cell) ∙ is)) [ inl x ↦ h x | inr y ↦ k y ])
    (λ e f h k is. elim (or_parts (may_read e cell) (may_read f cell)
    (sym (reads_at_variants.disjunction e f cell) ∙ is)) [ inl x ↦ h x | inr y ↦ k y ])
    nodes c
