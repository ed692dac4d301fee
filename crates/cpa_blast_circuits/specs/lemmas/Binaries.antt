-- Operators on two operands: words that stand for their value and literals that tell whether there
-- is one; and comparisons.
use Rattle.std.proofs.Common.{◌≡◌, ◌≢◌, ℕ, ◌*◌, ◌%◌, ◌<◌, ◌^◌, Bool, true, false, not, ◌&&◌, List}
use Rattle.std.proofs.Common.{length, Option, Some, refl, sym, ap, subst, ◌∙◌, arith, ℤ, pos, ◌+ℤ◌}
use Rattle.std.proofs.Common.{◌-ℤ◌, ◌*ℤ◌, bit_and, bit_or, bit_xor, int_lt}
use Rattle.std.specs.Prelude.{if◌then◌else◌}
use Rattle.std.specs.Ordering.{int_eq}
use Rattle.std.proofs.lemmas.List.{length-map}
use Rattle.cpa_ints.specs.declared.integers.IntType.{IntType}
use Rattle.cpa_ints.specs.declared.integers.IntType.TheVariants.{Bool as Boolean}
use Rattle.cpa_ints.specs.declared.integers.IntType.TheVariants as ty
use Rattle.cpa_ints.specs.Integers.{width, is_signed}
use Rattle.cpa_ints.specs.Wrapping.{wrapped}
use Rattle.cpa_ints.specs.Bits.{bits_of}
use Rattle.cpa_ints.specs.lemmas.Congruence.{Same-mul}
use Rattle.cpa_cnf.specs.Lines.{AreBelow}
use Rattle.cpa_blast_gates.specs.declared.gate.Gate.{Gate}
use Rattle.cpa_blast_gates.specs.Gates.{lit_value}
use Rattle.cpa_blast_gates.specs.Nets.{vars, IsScoped, Holds, Built, built, negated, and_in}
use Rattle.cpa_blast_gates.specs.Meanings.{Grows, Makes}
use Rattle.cpa_blast_gates.specs.Laws.{literals_have_values, nets_grow, gates_mean_their_operators}
use Rattle.cpa_blast_words.specs.declared.rows.Row.TheVariants as row
use Rattle.cpa_blast_words.specs.Truths.{values, number, walked_bits}
use Rattle.cpa_blast_words.specs.Words.{sum_word, difference_word, and_word, or_word, xor_word}
use Rattle.cpa_blast_words.specs.Words.{equal}
use Rattle.cpa_blast_words.specs.Words.{less, less_signed}
use Rattle.cpa_blast_words.specs.Types.{StandsFor}
use Rattle.cpa_blast_words.specs.Laws.{words_mean_their_operators, words_are_long, words_wrap}
use Rattle.cpa_blast_words.specs.Laws.{words_are_equal, words_compare}
use Rattle.cpa_blast_words.specs.lemmas.Columns.{still_below, opposite_below}
use Rattle.cpa_blast_words.specs.lemmas.WalkMeanings.{all_still_below}
use Rattle.cpa_blast_words.specs.lemmas.AtTypes.{near, stand}
use Rattle.cpa_blast_arithmetic.specs.Products.{product}
use Rattle.cpa_blast_arithmetic.specs.Laws.{products_are_products}
use Rattle.cpa_expr.specs.declared.tree.BinOp.{BinOp}
use Rattle.cpa_expr.specs.declared.tree.CmpOp.{CmpOp}
use Rattle.cpa_expr.specs.declared.tree.BinOp.TheVariants as bin
use Rattle.cpa_expr.specs.declared.tree.CmpOp.TheVariants as cmp
use Rattle.cpa_expr.specs.Shape.{is_shift}
use Rattle.cpa_expr.specs.Values.{bin_value, compares, comparison, truth, evaluated}
use Rattle.cpa_blast_circuits.specs.declared.answer.Answer.{Answer}
use Rattle.cpa_blast_words.specs.Values.{AreOperands, AreWords, MakesValue, TestsValue}
use Rattle.cpa_blast_circuits.specs.Answers.{answer_of, binary_word, binary_test, binary_in}
use Rattle.cpa_blast_circuits.specs.Answers.{less_at}
use Rattle.cpa_blast_circuits.specs.Answers.{compared, comparison_in, flag}
use Rattle.cpa_blast_circuits.specs.lemmas.Facts.{same_some, int_le_lt, flagged, flag_below}
use Rattle.cpa_blast_circuits.specs.lemmas.Ready.{IsRanged, IsReady, MakesReady, paired}

never_below : (s : List Gate) → 1 < 2 * vars s
never_below s = omega arith

-- ---- operators that have a value for all operands

total_value : (t : IntType) (f : ℤ → ℤ → ℤ) (s : List Gate) (xs ys : List ℕ)
    (made : Built (List ℕ)) → Grows s made.net → AreBelow (vars made.net) made.value
    → length made.value ≡ width t
    → ((m : ℕ → Bool) (a b : ℤ) → Holds m made.net
    → AreOperands t t (values m xs) (values m ys) a b
    → StandsFor t (values m made.value) (f a b))
    → MakesValue t t (λ a b. Some (f a b)) s xs ys made
total_value t f s xs ys made grows below long is = record {
  grows = grows;
  below = below;
  long = long;
  is = λ m a b c holds operands e.
      subst (StandsFor t (values m made.value)) (same_some (f a b) c e) (is m a b holds operands);
}

total_test : (t u : IntType) (f : ℤ → ℤ → ℤ) (s : List Gate) (xs ys : List ℕ) → IsScoped s
    → TestsValue t u (λ a b. Some (f a b)) s xs ys (built s 0)
total_test t u f s xs ys scoped = record {
  grows = nets_grow.stays s scoped;
  below = omega arith;
  is = λ m a b holds operands. literals_have_values.truth s m holds;
}

module _ (t : IntType) (s : List Gate) (xs ys : List ℕ) (other : t ≢ Boolean)
    (words : AreWords t t s xs ys) where
  alike : length xs ≡ length ys
  alike = words.left_long ∙ sym words.right_long

  sum_value : MakesValue t t (λ a b. Some (wrapped t (a +ℤ b))) s xs ys (sum_word s 1 xs ys)
  sum_value =
      let made = words_mean_their_operators.sum s xs ys words.scoped words.left_below
      words.right_below 1 (never_below s) in
      let w = sum_word s 1 xs ys in
      total_value t (λ a b. wrapped t (a +ℤ b)) s xs ys w made.grows made.below
      (words_are_long.sum 1 s xs ys alike ∙ words.left_long)
      (λ m a b holds ops. subst (λ bs. StandsFor t bs (wrapped t (a +ℤ b)))
      (sym (made.is m holds ∙ ap (λ c. walked_bits row.Sum c (values m xs) (values m ys))
      (literals_have_values.falsehood w.net m holds)))
      ((words_wrap).sum t (values m xs) (values m ys) a b other ops.left ops.right))

  difference_value : MakesValue t t (λ a b. Some (wrapped t (a -ℤ b))) s xs ys
      (difference_word s xs ys)
  difference_value =
      let made = words_mean_their_operators.difference s xs ys words.scoped words.left_below
      words.right_below in
      total_value t (λ a b. wrapped t (a -ℤ b)) s xs ys (difference_word s xs ys) made.grows
      made.below (words_are_long.difference s xs ys alike ∙ words.left_long)
      (λ m a b holds ops. subst (λ bs. StandsFor t bs (wrapped t (a -ℤ b)))
      (sym (made.is m holds))
      ((words_wrap).difference t (values m xs) (values m ys) a b other ops.left ops.right))

  product_value : MakesValue t t (λ a b. Some (wrapped t (a *ℤ b))) s xs ys (product s xs ys)
  product_value =
      let made = products_are_products s xs ys words.scoped words.left_below words.right_below
      alike in
      let w = product s xs ys in
      total_value t (λ a b. wrapped t (a *ℤ b)) s xs ys w made.grows made.below
      (made.long ∙ words.left_long)
      (λ m a b holds ops.
      let x = number (values m xs) in
      let y = number (values m ys) in
      stand t (a *ℤ b) (values m w.value) (x * y) other
      (length-map w.value (lit_value m) ∙ made.long ∙ words.left_long)
      (made.is m holds ∙ ap (λ k. (x * y) % 2 ^ k) words.left_long)
      (Same-mul (2 ^ width t) a (pos x) b (pos y) (near t (values m xs) a ops.left)
      (near t (values m ys) b ops.right)))

  and_value : MakesValue t t
      (λ a b. Some (wrapped t (pos (bit_and (bits_of t a) (bits_of t b))))) s xs ys
      (and_word s xs ys)
  and_value =
      let made = words_mean_their_operators.conjunction s xs ys words.scoped words.left_below
      words.right_below in
      let f = λ (a b : ℤ). wrapped t (pos (bit_and (bits_of t a) (bits_of t b))) in
      total_value t f s xs ys (and_word s xs ys) made.grows made.below
      (words_are_long.conjunction s xs ys alike ∙ words.left_long)
      (λ m a b holds ops. subst (λ bs. StandsFor t bs (f a b)) (sym (made.is m holds))
      ((words_wrap).conjunction (lit_value m 1) t (values m xs) (values m ys) a b other
      ops.left ops.right))

  or_value : MakesValue t t
      (λ a b. Some (wrapped t (pos (bit_or (bits_of t a) (bits_of t b))))) s xs ys
      (or_word s xs ys)
  or_value =
      let made = words_mean_their_operators.disjunction s xs ys words.scoped words.left_below
      words.right_below in
      let f = λ (a b : ℤ). wrapped t (pos (bit_or (bits_of t a) (bits_of t b))) in
      total_value t f s xs ys (or_word s xs ys) made.grows made.below
      (words_are_long.disjunction s xs ys alike ∙ words.left_long)
      (λ m a b holds ops. subst (λ bs. StandsFor t bs (f a b)) (sym (made.is m holds))
      ((words_wrap).disjunction (lit_value m 1) t (values m xs) (values m ys) a b other
      ops.left ops.right))

  xor_value : MakesValue t t
      (λ a b. Some (wrapped t (pos (bit_xor (bits_of t a) (bits_of t b))))) s xs ys
      (xor_word s xs ys)
  xor_value =
      let made = words_mean_their_operators.exclusion s xs ys words.scoped words.left_below
      words.right_below in
      let f = λ (a b : ℤ). wrapped t (pos (bit_xor (bits_of t a) (bits_of t b))) in
      total_value t f s xs ys (xor_word s xs ys) made.grows made.below
      (words_are_long.exclusion s xs ys alike ∙ words.left_long)
      (λ m a b holds ops. subst (λ bs. StandsFor t bs (f a b)) (sym (made.is m holds))
      ((words_wrap).exclusion (lit_value m 1) t (values m xs) (values m ys) a b other
      ops.left ops.right))

-- the word and the test of an operator
pub record IsBinary (o : BinOp) (t u : IntType) (s : List Gate) (xs ys : List ℕ) : Type 0 where
  pub value : MakesValue t u (bin_value o t) s xs ys (binary_word o t s xs ys)
  pub test : (net : List Gate) → AreWords t u net xs ys
      → TestsValue t u (bin_value o t) net xs ys (binary_test o t net ys)

-- every operator at the types of its operands
abbrev pub BinariesAre : Type 0
BinariesAre = (o : BinOp) (t u : IntType) (s : List Gate) (xs ys : List ℕ) → t ≢ Boolean
    → (is_shift o ≡ false → u ≡ t) → AreWords t u s xs ys → IsBinary o t u s xs ys

pub sum_is_binary : (t : IntType) (s : List Gate) (xs ys : List ℕ)
    → t ≢ Boolean → AreWords t t s xs ys → IsBinary bin.Add t t s xs ys
unfolding binary_word binary_test
sum_is_binary t s xs ys other words = record {
  value = sum_value t s xs ys other words;
  test = λ net in_net. total_test t t (λ a b. wrapped t (a +ℤ b)) net xs ys in_net.scoped;
}

pub difference_is_binary : (t : IntType) (s : List Gate) (xs ys : List ℕ)
    → t ≢ Boolean → AreWords t t s xs ys → IsBinary bin.Sub t t s xs ys
unfolding binary_word binary_test
difference_is_binary t s xs ys other words = record {
  value = difference_value t s xs ys other words;
  test = λ net in_net. total_test t t (λ a b. wrapped t (a -ℤ b)) net xs ys in_net.scoped;
}

pub product_is_binary : (t : IntType) (s : List Gate) (xs ys : List ℕ)
    → t ≢ Boolean → AreWords t t s xs ys → IsBinary bin.Mul t t s xs ys
unfolding binary_word binary_test
product_is_binary t s xs ys other words = record {
  value = product_value t s xs ys other words;
  test = λ net in_net. total_test t t (λ a b. wrapped t (a *ℤ b)) net xs ys in_net.scoped;
}

pub and_is_binary : (t : IntType) (s : List Gate) (xs ys : List ℕ)
    → t ≢ Boolean → AreWords t t s xs ys → IsBinary bin.BitAnd t t s xs ys
unfolding binary_word binary_test
and_is_binary t s xs ys other words = record {
  value = and_value t s xs ys other words;
  test = λ net in_net.
      total_test t t (λ a b. wrapped t (pos (bit_and (bits_of t a) (bits_of t b)))) net xs ys
      in_net.scoped;
}

pub or_is_binary : (t : IntType) (s : List Gate) (xs ys : List ℕ)
    → t ≢ Boolean → AreWords t t s xs ys → IsBinary bin.BitOr t t s xs ys
unfolding binary_word binary_test
or_is_binary t s xs ys other words = record {
  value = or_value t s xs ys other words;
  test = λ net in_net.
      total_test t t (λ a b. wrapped t (pos (bit_or (bits_of t a) (bits_of t b)))) net xs ys
      in_net.scoped;
}

pub xor_is_binary : (t : IntType) (s : List Gate) (xs ys : List ℕ)
    → t ≢ Boolean → AreWords t t s xs ys → IsBinary bin.BitXor t t s xs ys
unfolding binary_word binary_test
xor_is_binary t s xs ys other words = record {
  value = xor_value t s xs ys other words;
  test = λ net in_net.
      total_test t t (λ a b. wrapped t (pos (bit_xor (bits_of t a) (bits_of t b)))) net xs ys
      in_net.scoped;
}

-- ---- comparisons

-- a literal made from s is whether the numbers of two words compare so
record MakesTruth (t : IntType) (f : ℤ → ℤ → Bool) (s : List Gate) (xs ys : List ℕ)
    (made : Built ℕ) : Type 0
  where
    grows : Grows s made.net
    below : made.value < 2 * vars made.net
    is : (m : ℕ → Bool) (a b : ℤ) → Holds m made.net
        → AreOperands t t (values m xs) (values m ys) a b → lit_value m made.value ≡ f a b

opposite_truth : (t : IntType) (f : ℤ → ℤ → Bool) (s : List Gate) (xs ys : List ℕ) (made : Built ℕ)
    → MakesTruth t f s xs ys made → MakesTruth t (λ a b. not (f a b)) s xs ys (negated made)
opposite_truth t f s xs ys made truths = record {
  grows = truths.grows;
  below = opposite_below (vars made.net) made.value truths.below;
  is = λ m a b holds ops.
      literals_have_values.negative m made.value ∙ ap not (truths.is m a b holds ops);
}

truth_as : (t : IntType) (f g : ℤ → ℤ → Bool) (s : List Gate) (xs ys : List ℕ) (made : Built ℕ)
    → MakesTruth t f s xs ys made → ((a b : ℤ) → f a b ≡ g a b) → MakesTruth t g s xs ys made
truth_as t f g s xs ys made truths same = record {
  grows = truths.grows;
  below = truths.below;
  is = λ m a b holds ops. truths.is m a b holds ops ∙ same a b;
}

exchanged_truth : (t : IntType) (f : ℤ → ℤ → Bool) (s : List Gate) (xs ys : List ℕ)
    (made : Built ℕ) → MakesTruth t f s xs ys made → MakesTruth t (λ a b. f b a) s ys xs made
exchanged_truth t f s xs ys made truths = record {
  grows = truths.grows;
  below = truths.below;
  is = λ m a b holds ops. truths.is m b a holds (record {
    left_range = ops.right_range;
    right_range = ops.left_range;
    left = ops.right;
    right = ops.left;
  });
}

module _ (t : IntType) (s : List Gate) (scoped : IsScoped s) where
  equal_truth : (xs ys : List ℕ) → AreBelow (vars s) xs → AreBelow (vars s) ys
      → MakesTruth t int_eq s xs ys (equal s xs ys)
  equal_truth xs ys p q =
      let made = words_mean_their_operators.equal s xs ys scoped p q in
      record {
        grows = made.grows;
        below = made.below;
        is = λ m a b holds ops.
            made.is m holds
            ∙ words_are_equal t (values m xs) (values m ys) a b ops.left_range
            ops.right_range ops.left ops.right;
      }

  less_truth : (xs ys : List ℕ) → AreBelow (vars s) xs → AreBelow (vars s) ys
      → MakesTruth t int_lt s xs ys (less_at t s xs ys)
  unfolding less_at
  less_truth xs ys p q = by (is_signed t) refl
    where
      by : (b : Bool) → is_signed t ≡ b
          → MakesTruth t int_lt s xs ys (if b then less_signed s xs ys else less s xs ys)
      by true e =
          let made = words_mean_their_operators.less_signed s xs ys scoped p q in
          record {
            grows = made.grows;
            below = made.below;
            is = λ m a b holds ops.
                made.is m holds
                ∙ (words_compare).signed t (values m xs) (values m ys) a b e ops.left_range
                ops.right_range ops.left ops.right;
          }
      by false e =
          let made = words_mean_their_operators.less s xs ys scoped p q in
          record {
            grows = made.grows;
            below = made.below;
            is = λ m a b holds ops.
                made.is m holds
                ∙ (words_compare).natural t (values m xs) (values m ys) a b e ops.left_range
                ops.right_range ops.left ops.right;
          }

  compared_truth : (o : CmpOp) (xs ys : List ℕ) → AreBelow (vars s) xs → AreBelow (vars s) ys
      → MakesTruth t (compares o) s xs ys (compared o t s xs ys)
  unfolding compared
  compared_truth cmp.Eq xs ys p q = equal_truth xs ys p q
  compared_truth cmp.Ne xs ys p q =
      opposite_truth t int_eq s xs ys (equal s xs ys) (equal_truth xs ys p q)
  compared_truth cmp.Lt xs ys p q = less_truth xs ys p q
  compared_truth cmp.Le xs ys p q =
      truth_as t (λ a b. not (int_lt b a)) (compares cmp.Le) s xs ys (negated (less_at t s ys xs))
      (opposite_truth t (λ a b. int_lt b a) s xs ys (less_at t s ys xs)
      (exchanged_truth t int_lt s ys xs (less_at t s ys xs) (less_truth ys xs q p)))
      (λ a b. sym (int_le_lt a b))
  compared_truth cmp.Gt xs ys p q =
      exchanged_truth t int_lt s ys xs (less_at t s ys xs) (less_truth ys xs q p)
  compared_truth cmp.Ge xs ys p q =
      truth_as t (λ a b. not (int_lt a b)) (compares cmp.Ge) s xs ys (negated (less_at t s xs ys))
      (opposite_truth t int_lt s xs ys (less_at t s xs ys) (less_truth xs ys p q))
      (λ a b. sym (int_le_lt b a))

-- ---- the nodes

module _ (P : (ℕ → Bool) → Type 0) (net : List Gate) (a b : Answer) (t u : IntType)
    (v w : Option ℤ) (scoped : IsScoped net) (left : IsReady P net a t v)
    (right : IsReady P net b u w) (left_range : IsRanged P t v) (right_range : IsRanged P u w)
  where
    words_of : AreWords t u net a.bits b.bits
    words_of = record {
      scoped = scoped;
      left_below = left.bits_below;
      right_below = right.bits_below;
      left_long = left.long;
      right_long = right.long;
    }

    still_words : (next : List Gate) → Grows net next → AreWords t u next a.bits b.bits
    still_words next grows = record {
      scoped = grows.scoped;
      left_below = all_still_below net next a.bits grows left.bits_below;
      right_below = all_still_below net next b.bits grows right.bits_below;
      left_long = left.long;
      right_long = right.long;
    }

    -- both are evaluated, at a larger net
    both_ok : (next : List Gate) → Grows net next
        → Makes next (and_in next a.ok b.ok) (λ m. lit_value m a.ok && lit_value m b.ok)
    both_ok next grows =
        gates_mean_their_operators.conjunction next a.ok b.ok grows.scoped
        (still_below net next a.ok grows left.ok_below)
        (still_below net next b.ok grows right.ok_below)

    pub binary_ready : (o : BinOp) → IsBinary o t u net a.bits b.bits
        → MakesReady P net (binary_in o t net a b) t (evaluated (bin_value o t) v w)
    unfolding binary_in
    binary_ready o means =
        let word = binary_word o t net a.bits b.bits in
        let test = binary_test o t word.net b.bits in
        let both = and_in test.net a.ok b.ok in
        let ok = and_in both.net both.value test.value in
        let valued = means.value in
        let tested = means.test word.net (still_words word.net valued.grows) in
        let to_test = nets_grow.on net word.net test.net valued.grows tested.grows in
        let paired_ok = both_ok test.net to_test in
        let to_both = nets_grow.on net test.net both.net to_test paired_ok.grows in
        let end = gates_mean_their_operators.conjunction both.net both.value test.value
        paired_ok.grows.scoped paired_ok.below
        (still_below test.net both.net test.value paired_ok.grows tested.below) in
        let whole = nets_grow.on net both.net ok.net to_both end.grows in
        let from_word = nets_grow.on word.net test.net ok.net tested.grows
        (nets_grow.on test.net both.net ok.net paired_ok.grows end.grows) in
        record {
          grows = whole;
          ready = record {
            ty = refl;
            bits_below = all_still_below word.net ok.net word.value from_word valued.below;
            ok_below = end.below;
            long = valued.long;
            is = λ m p holds.
                let at_both = end.grows.keeps m holds in
                let at_test = paired_ok.grows.keeps m at_both in
                let at_word = tested.grows.keeps m at_test in
                let at_net = valued.grows.keeps m at_word in
                paired m t a u b t (answer_of t word.value ok.value) (bin_value o t)
                (lit_value m test.value) v w (left.is m p at_net) (right.is m p at_net)
                (left_range m p) (right_range m p)
                (end.is m holds ∙ ap (λ c. c && lit_value m test.value) (paired_ok.is m at_both))
                (λ x y ops. tested.is m x y at_test ops)
                (λ x y r ops e. valued.is m x y r at_word ops e);
          };
        }

with_true : (b : Bool) → b ≡ (b && true)
with_true true = refl
with_true false = refl

pub comparison_ready : (P : (ℕ → Bool) → Type 0) (net : List Gate) (a b : Answer)
    (t : IntType) (v w : Option ℤ) (o : CmpOp) → IsScoped net → IsReady P net a t v
    → IsReady P net b t w → IsRanged P t v → IsRanged P t w
    → MakesReady P net (comparison_in o t net a b) ty.I32 (comparison o v w)
unfolding comparison_in
comparison_ready P net a b t v w o scoped left right left_range right_range =
    let truths = compared_truth t net scoped o a.bits b.bits left.bits_below
    right.bits_below in
    let l = compared o t net a.bits b.bits in
    let ok = and_in l.net a.ok b.ok in
    let both = both_ok P net a b t t v w scoped left right left_range right_range l.net
    truths.grows in
    record {
      grows = nets_grow.on net l.net ok.net truths.grows both.grows;
      ready = record {
        ty = refl;
        bits_below = flag_below (vars ok.net) l.value
            (still_below l.net ok.net l.value both.grows truths.below);
        ok_below = both.below;
        long = refl;
        is = λ m p holds.
            let at_l = both.grows.keeps m holds in
            let at_net = truths.grows.keeps m at_l in
            paired m t a t b ty.I32 (answer_of ty.I32 (flag l.value) ok.value)
            (λ x y. Some (truth (compares o x y))) true v w (left.is m p at_net)
            (right.is m p at_net) (left_range m p) (right_range m p)
            (both.is m holds ∙ with_true (lit_value m a.ok && lit_value m b.ok))
            (λ x y ops. refl)
            (λ x y r ops e. subst (StandsFor ty.I32 (values m (flag l.value)))
            (same_some (truth (compares o x y)) r e)
            (flagged l.net m l.value (compares o x y) at_l (truths.is m x y at_l ops)));
      };
    }
