-- The circuit of an expression means the expression, by induction on it.
use Rattle.std.proofs.Common.{◌≡◌, ℕ, ◌<◌, ◌^◌, Bool, List, length, Option, sym, ap, subst, ◌∙◌, ℤ}
use Rattle.std.specs.Prelude.{IfSome}
use Rattle.cpa_ints.specs.declared.integers.IntType.{IntType}
use Rattle.cpa_ints.specs.Integers.{IsInRange}
use Rattle.cpa_blast_gates.specs.declared.gate.Gate.{Gate}
use Rattle.cpa_blast_gates.specs.Nets.{IsScoped, Built}
use Rattle.cpa_blast_gates.specs.Meanings.{Grows}
use Rattle.cpa_blast_gates.specs.Laws.{nets_grow}
use Rattle.cpa_expr.specs.declared.tree.Expr.{Expr, roll-Expr}
use Rattle.cpa_expr.specs.declared.tree.Expr.TheVariants.{Const, Read, Un, Bin, Cmp, Cast, And, Or}
use Rattle.cpa_expr.specs.declared.tree.Expr.TheVariants.{Not, Cond, rolls-Const, rolls-Read}
use Rattle.cpa_expr.specs.declared.tree.Expr.TheVariants.{rolls-Un, rolls-Bin, rolls-Cmp}
use Rattle.cpa_expr.specs.declared.tree.Expr.TheVariants.{rolls-Cast, rolls-And, rolls-Or}
use Rattle.cpa_expr.specs.declared.tree.Expr.TheVariants.{rolls-Not, rolls-Cond}
use Rattle.cpa_expr.specs.declared.tree.Expr.TheOpen.{Expr-F}
use Rattle.cpa_expr.specs.declared.tree.Expr.TheFolds.{map-Expr, fold-roll-Expr}
use Rattle.cpa_expr.specs.Shape.{type_of, IsTyped}
use Rattle.cpa_expr.specs.Values.{value_of}
use Rattle.cpa_expr.specs.Induction.{Cases, by_variants}
use Rattle.cpa_expr.specs.Laws.{value_at_variants, type_at_variants, typed_at_variants}
use Rattle.cpa_expr.specs.Laws.{values_lie_in_range}
use Rattle.cpa_blast_circuits.specs.declared.answer.Word.{Word}
use Rattle.cpa_blast_circuits.specs.declared.answer.Answer.{Answer}
use Rattle.cpa_blast_circuits.specs.Circuits.{Circuit, circuit_step, circuit}
use Rattle.cpa_blast_circuits.specs.Meanings.{types_of, AreLong, AreWordsOf, HasStore}
use Rattle.cpa_blast_circuits.specs.lemmas.Facts.{other_than_bool}
use Rattle.cpa_blast_circuits.specs.lemmas.Ready.{IsRanged, IsReady, MakesReady, still_ready}
use Rattle.cpa_blast_circuits.specs.lemmas.Unaries.{constant_ready, unary_ready, cast_ready}
use Rattle.cpa_blast_circuits.specs.lemmas.Unaries.{not_ready}
use Rattle.cpa_blast_circuits.specs.lemmas.Binaries.{BinariesAre, binary_ready, comparison_ready}
use Rattle.cpa_blast_circuits.specs.lemmas.Selections.{both_ready, either_ready, conditional_ready}
use Rattle.cpa_blast_circuits.specs.lemmas.CellWords.{store_values}
use Rattle.cpa_blast_circuits.specs.lemmas.ReadMeanings.{words_still_of}
use Rattle.cpa_blast_circuits.specs.lemmas.ReadReady.{read_ready}

-- the circuit at a node
at_node : (cells : List Word) (e : Expr) (x : Expr-F Expr) (s : List Gate) → roll-Expr x ≡ e
    → circuit cells e s ≡ circuit_step cells (map-Expr Expr Circuit (circuit cells) x) s
at_node cells e x s is =
    ap (λ d. circuit cells d s) (sym is)
    ∙ ap (λ (f : Circuit). f s) (fold-roll-Expr Circuit (circuit_step cells) x)

-- the same of an equal net, type and value
made_as : (P : (ℕ → Bool) → Type 0) (s : List Gate) (made other : Built Answer) (t u : IntType)
    (v w : Option ℤ) → made ≡ other → t ≡ u → v ≡ w → MakesReady P s other u w
    → MakesReady P s made t v
made_as P s made other t u v w e f g is =
    subst (λ b. MakesReady P s b t v) (sym e)
    (subst (λ x. MakesReady P s other x v) (sym f)
    (subst (MakesReady P s other u) (sym g) is))

ready_as : (P : (ℕ → Bool) → Type 0) (s : List Gate) (a : Answer) (t u : IntType) (v : Option ℤ)
    → t ≡ u → IsReady P s a t v → IsReady P s a u v
ready_as P s a t u v e is = subst (λ x. IsReady P s a x v) e is

-- what is made from a net that grew from another
behind : (P : (ℕ → Bool) → Type 0) (s net : List Gate) (made : Built Answer) (t : IntType)
    (v : Option ℤ) → Grows s net → MakesReady P net made t v → MakesReady P s made t v
behind P s net made t v grows here = record {
  grows = nets_grow.on s net made.net grows here.grows;
  ready = here.ready;
}

module _ (binaries : BinariesAre) (cells : List Word) (store : List ℤ)
    (long : AreLong cells) (few : length cells < 2 ^ 64) where
  abbrev P : (ℕ → Bool) → Type 0
  P m = HasStore m cells store

  abbrev Means : Expr → Type 0
  Means e = (s : List Gate) → IsTyped (types_of cells) e → IsScoped s → AreWordsOf s cells
      → MakesReady P s (circuit cells e s) (type_of e) (value_of e store)

  ranged : (e : Expr) → IsTyped (types_of cells) e → IsRanged P (type_of e) (value_of e store)
  ranged e typed m has =
      values_lie_in_range (types_of cells) e store typed (store_values m cells store has)

  ranged_as : (e : Expr) (t : IntType) → type_of e ≡ t → IsTyped (types_of cells) e
      → IsRanged P t (value_of e store)
  ranged_as e t same typed m has =
      subst (λ u. IfSome (value_of e store) (IsInRange u)) same (ranged e typed m has)

  cases : Cases Means
  cases = record {
    constant = λ t n s typed scoped below.
        made_as P s (circuit cells (Const t n) s) _ (type_of (Const t n)) t
        (value_of (Const t n) store) _
        (at_node cells (Const t n) (Expr-F.Const t n) s (rolls-Const t n))
        (type_at_variants.constant t n) (value_at_variants.constant t n store)
        (constant_ready P s t n scoped);
    read = λ t base len index is s typed scoped below.
        let parts = (typed_at_variants.read (types_of cells) t base len index).0 typed in
        let a = circuit cells index s in
        let made = is s parts.2 scoped below in
        let here = read_ready P cells store a.net a.value (type_of index) t
        (value_of index store) base len made.grows.scoped
        (words_still_of s a.net cells made.grows below) long parts.1 parts.0 few made.ready
        (ranged index parts.2) (λ m has. has) in
        made_as P s (circuit cells (Read t base len index) s) _ (type_of (Read t base len index)) t
        (value_of (Read t base len index) store) _
        (at_node cells (Read t base len index) (Expr-F.Read t base len index) s
        (rolls-Read t base len index))
        (type_at_variants.read t base len index)
        (value_at_variants.read t base len index store)
        (behind P s a.net _ t _ made.grows here);
    unary = λ o t arg is s typed scoped below.
        let parts = (typed_at_variants.unary (types_of cells) o t arg).0 typed in
        let a = circuit cells arg s in
        let made = is s parts.2 scoped below in
        let here = unary_ready P a.net a.value made.grows.scoped o t (value_of arg store)
        (other_than_bool t parts.0)
        (ready_as P a.net a.value (type_of arg) t (value_of arg store) parts.1 made.ready)
        (ranged_as arg t parts.1 parts.2) in
        made_as P s (circuit cells (Un o t arg) s) _ (type_of (Un o t arg)) t
        (value_of (Un o t arg) store) _
        (at_node cells (Un o t arg) (Expr-F.Un o t arg) s (rolls-Un o t arg))
        (type_at_variants.unary o t arg) (value_at_variants.unary o t arg store)
        (behind P s a.net _ t _ made.grows here);
    binary = λ o t left right is_left is_right s typed scoped below.
        let parts = (typed_at_variants.binary (types_of cells) o t left right).0 typed in
        let a = circuit cells left s in
        let b = circuit cells right a.net in
        let first = is_left s parts.3 scoped below in
        let second = is_right a.net parts.4 first.grows.scoped
        (words_still_of s a.net cells first.grows below) in
        let v = value_of left store in
        let w = value_of right store in
        let both = nets_grow.on s a.net b.net first.grows second.grows in
        let left_ready = ready_as P b.net a.value (type_of left) t v parts.1
        (still_ready P a.net b.net a.value (type_of left) v second.grows first.ready) in
        let means = binaries o t (type_of right) b.net a.value.bits b.value.bits
        (other_than_bool t parts.0) parts.2 (record {
          scoped = second.grows.scoped;
          left_below = left_ready.bits_below;
          right_below = second.ready.bits_below;
          left_long = left_ready.long;
          right_long = second.ready.long;
        }) in
        let here = binary_ready P b.net a.value b.value t (type_of right) v w second.grows.scoped
        left_ready second.ready (ranged_as left t parts.1 parts.3) (ranged right parts.4) o means in
        made_as P s (circuit cells (Bin o t left right) s) _ (type_of (Bin o t left right)) t
        (value_of (Bin o t left right) store) _
        (at_node cells (Bin o t left right) (Expr-F.Bin o t left right) s
        (rolls-Bin o t left right))
        (type_at_variants.binary o t left right)
        (value_at_variants.binary o t left right store)
        (behind P s b.net _ t _ both here);
    comparison = λ o t left right is_left is_right s typed scoped below.
        let parts = (typed_at_variants.comparison (types_of cells) o t left right).0 typed in
        let a = circuit cells left s in
        let b = circuit cells right a.net in
        let first = is_left s parts.2 scoped below in
        let second = is_right a.net parts.3 first.grows.scoped
        (words_still_of s a.net cells first.grows below) in
        let v = value_of left store in
        let w = value_of right store in
        let both = nets_grow.on s a.net b.net first.grows second.grows in
        let here = comparison_ready P b.net a.value b.value t v w o second.grows.scoped
        (ready_as P b.net a.value (type_of left) t v parts.0
        (still_ready P a.net b.net a.value (type_of left) v second.grows first.ready))
        (ready_as P b.net b.value (type_of right) t w parts.1 second.ready)
        (ranged_as left t parts.0 parts.2) (ranged_as right t parts.1 parts.3) in
        made_as P s (circuit cells (Cmp o t left right) s) _ (type_of (Cmp o t left right)) _
        (value_of (Cmp o t left right) store) _
        (at_node cells (Cmp o t left right) (Expr-F.Cmp o t left right) s
        (rolls-Cmp o t left right))
        (type_at_variants.comparison o t left right)
        (value_at_variants.comparison o t left right store)
        (behind P s b.net _ _ _ both here);
    cast = λ t arg is s typed scoped below.
        let inner = (typed_at_variants.cast (types_of cells) t arg).0 typed in
        let a = circuit cells arg s in
        let made = is s inner scoped below in
        let here = cast_ready P a.net a.value made.grows.scoped (type_of arg) t
        (value_of arg store) made.ready (ranged arg inner) in
        made_as P s (circuit cells (Cast t arg) s) _ (type_of (Cast t arg)) t
        (value_of (Cast t arg) store) _
        (at_node cells (Cast t arg) (Expr-F.Cast t arg) s (rolls-Cast t arg))
        (type_at_variants.cast t arg) (value_at_variants.cast t arg store)
        (behind P s a.net _ t _ made.grows here);
    conjunction = λ left right is_left is_right s typed scoped below.
        let parts = (typed_at_variants.conjunction (types_of cells) left right).0 typed in
        let a = circuit cells left s in
        let b = circuit cells right a.net in
        let first = is_left s parts.0 scoped below in
        let second = is_right a.net parts.1 first.grows.scoped
        (words_still_of s a.net cells first.grows below) in
        let v = value_of left store in
        let both = nets_grow.on s a.net b.net first.grows second.grows in
        let here = both_ready P b.net a.value b.value (type_of left) (type_of right) v
        (value_of right store) second.grows.scoped
        (still_ready P a.net b.net a.value (type_of left) v second.grows first.ready)
        second.ready (ranged left parts.0) (ranged right parts.1) in
        made_as P s (circuit cells (And left right) s) _ (type_of (And left right)) _
        (value_of (And left right) store) _
        (at_node cells (And left right) (Expr-F.And left right) s (rolls-And left right))
        (type_at_variants.conjunction left right)
        (value_at_variants.conjunction left right store)
        (behind P s b.net _ _ _ both here);
    disjunction = λ left right is_left is_right s typed scoped below.
        let parts = (typed_at_variants.disjunction (types_of cells) left right).0 typed in
        let a = circuit cells left s in
        let b = circuit cells right a.net in
        let first = is_left s parts.0 scoped below in
        let second = is_right a.net parts.1 first.grows.scoped
        (words_still_of s a.net cells first.grows below) in
        let v = value_of left store in
        let both = nets_grow.on s a.net b.net first.grows second.grows in
        let here = either_ready P b.net a.value b.value (type_of left) (type_of right) v
        (value_of right store) second.grows.scoped
        (still_ready P a.net b.net a.value (type_of left) v second.grows first.ready)
        second.ready (ranged left parts.0) (ranged right parts.1) in
        made_as P s (circuit cells (Or left right) s) _ (type_of (Or left right)) _
        (value_of (Or left right) store) _
        (at_node cells (Or left right) (Expr-F.Or left right) s (rolls-Or left right))
        (type_at_variants.disjunction left right)
        (value_at_variants.disjunction left right store)
        (behind P s b.net _ _ _ both here);
    negation = λ arg is s typed scoped below.
        let inner = (typed_at_variants.negation (types_of cells) arg).0 typed in
        let a = circuit cells arg s in
        let made = is s inner scoped below in
        let here = not_ready P a.net a.value made.grows.scoped (type_of arg)
        (value_of arg store) made.ready (ranged arg inner) in
        made_as P s (circuit cells (Not arg) s) _ (type_of (Not arg)) _
        (value_of (Not arg) store) _
        (at_node cells (Not arg) (Expr-F.Not arg) s (rolls-Not arg))
        (type_at_variants.negation arg) (value_at_variants.negation arg store)
        (behind P s a.net _ _ _ made.grows here);
    conditional = λ t test yes_end no_end is_test is_yes is_no s typed scoped below.
        let parts =
        (typed_at_variants.conditional (types_of cells) t test yes_end no_end).0 typed in
        let a = circuit cells test s in
        let b = circuit cells yes_end a.net in
        let c = circuit cells no_end b.net in
        let first = is_test s parts.2 scoped below in
        let below_a = words_still_of s a.net cells first.grows below in
        let second = is_yes a.net parts.3 first.grows.scoped below_a in
        let third = is_no b.net parts.4 second.grows.scoped
        (words_still_of a.net b.net cells second.grows below_a) in
        let v = value_of test store in
        let w = value_of yes_end store in
        let z = value_of no_end store in
        let from_a = nets_grow.on a.net b.net c.net second.grows third.grows in
        let here = conditional_ready P c.net a.value b.value c.value (type_of test) t v w z
        third.grows.scoped (still_ready P a.net c.net a.value (type_of test) v from_a first.ready)
        (ready_as P c.net b.value (type_of yes_end) t w parts.0
        (still_ready P b.net c.net b.value (type_of yes_end) w third.grows second.ready))
        (ready_as P c.net c.value (type_of no_end) t z parts.1 third.ready)
        (ranged test parts.2) in
        made_as P s (circuit cells (Cond t test yes_end no_end) s) _
        (type_of (Cond t test yes_end no_end)) t (value_of (Cond t test yes_end no_end) store) _
        (at_node cells (Cond t test yes_end no_end) (Expr-F.Cond t test yes_end no_end) s
        (rolls-Cond t test yes_end no_end))
        (type_at_variants.conditional t test yes_end no_end)
        (value_at_variants.conditional t test yes_end no_end store)
        (behind P s c.net _ t _ (nets_grow.on s a.net c.net first.grows from_a) here);
  }

  pub circuit_ready : (e : Expr) → Means e
  circuit_ready = by_variants Means cases
