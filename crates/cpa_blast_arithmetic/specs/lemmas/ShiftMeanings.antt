-- A shift made of words of a net stands for the value of the shift at the words' types.
use Rattle.std.proofs.Common.{◌≡◌, ℕ, ◌^◌, Bool, true, false, not, List, take, drop}
use Rattle.std.proofs.Common.{refl, sym, ap, subst, ◌∙◌, ℤ, pos, ◌*ℤ◌, Option, None, Some}
use Rattle.std.proofs.Common.{option_map}
use Rattle.std.specs.Prelude.{◌==◌}
use Rattle.std.specs.Option.{is_some}
use Rattle.std.specs.Int.{int_div_euclid}
use Rattle.std.proofs.lemmas.List.{take-map, drop-map}
use Rattle.cpa_ints.specs.declared.integers.IntType.{IntType}
use Rattle.cpa_ints.specs.Wrapping.{wrapped}
use Rattle.cpa_cnf.specs.Lines.{AreBelow}
use Rattle.cpa_blast_gates.specs.declared.gate.Gate.{Gate}
use Rattle.cpa_blast_gates.specs.Gates.{lit_value}
use Rattle.cpa_blast_gates.specs.Nets.{vars}
use Rattle.cpa_blast_gates.specs.Meanings.{Makes}
use Rattle.cpa_blast_gates.specs.Laws.{literals_have_values}
use Rattle.cpa_expr.specs.Values.{bin_value, amount_of}
use Rattle.cpa_expr.specs.declared.tree.BinOp.TheVariants as bin
use Rattle.cpa_blast_words.specs.Words.{some_bit, filling}
use Rattle.cpa_blast_words.specs.Truths.{values, number}
use Rattle.cpa_blast_words.specs.Types.{StandsFor, filling_bit}
use Rattle.cpa_blast_words.specs.Values.{AreWords, MakesValue, TestsValue}
use Rattle.cpa_blast_words.specs.Laws.{words_mean_their_operators}
use Rattle.cpa_blast_words.specs.lemmas.Columns.{opposite_below}
use Rattle.cpa_blast_words.specs.lemmas.WordMeanings.{front_below, back_below, never_below}
use Rattle.cpa_blast_words.specs.lemmas.WordMeanings.{values_filling, filling_below}
use Rattle.cpa_blast_arithmetic.specs.declared.moves.Direction.TheVariants as toward
use Rattle.cpa_blast_arithmetic.specs.Moves.{moved}
use Rattle.cpa_blast_arithmetic.specs.Shifts.{amount_bits, stages, is_amount, shifted_left}
use Rattle.cpa_blast_arithmetic.specs.Shifts.{shifted_right}
use Rattle.cpa_blast_arithmetic.specs.lemmas.StageMeanings.{stages_move, stages_long}
use Rattle.cpa_blast_arithmetic.specs.lemmas.ShiftsAtTypes.{fits_where, shift_value, left_stands}
use Rattle.cpa_blast_arithmetic.specs.lemmas.ShiftsAtTypes.{right_stands}

module _ (t u : IntType) (s : List Gate) (xs ys : List ℕ)
    (are : AreWords t u s xs ys) where
  low_below : AreBelow (vars s) (take (amount_bits t) ys)
  low_below = front_below (vars s) (amount_bits t) ys are.right_below

  low_number : (m : ℕ → Bool)
      → number (values m (take (amount_bits t) ys)) ≡ number (take (amount_bits t) (values m ys))
  low_number m = ap number (sym (take-map (lit_value m) (amount_bits t) ys))

  pub left_makes : MakesValue t u (bin_value bin.Shl t) s xs ys (shifted_left t s xs ys)
  unfolding shifted_left
  left_makes =
      let low = take (amount_bits t) ys in
      let made = stages_move toward.Left 1 s xs low are.scoped (never_below s) are.left_below
      low_below in
      let net = (stages toward.Left 1 s 0 xs low).net in
      record {
        grows = made.grows;
        below = made.below;
        long = stages_long toward.Left 1 s 0 xs low ∙ are.left_long;
        is = λ m a b c holds of value.
            subst (λ bs. StandsFor t bs c) (sym (made.is m holds
            ∙ ap (λ n. moved toward.Left n (lit_value m 1) (values m xs)) (low_number m)
            ∙ ap (λ f. moved toward.Left (number (take (amount_bits t) (values m ys))) f
            (values m xs)) (literals_have_values.falsehood net m holds)))
            (shift_value t u (values m ys) b c (λ n. wrapped t (a *ℤ pos (2 ^ n)))
            (λ n z. StandsFor t (moved toward.Left n false (values m xs)) z) of.right_range
            of.right value
            (λ n less. left_stands t (values m xs) a n of.left_range of.left less));
      }

  pub right_makes : MakesValue t u (bin_value bin.Shr t) s xs ys (shifted_right t s xs ys)
  unfolding shifted_right
  right_makes =
      let low = take (amount_bits t) ys in
      let f = filling t xs in
      let made = stages_move toward.Right f s xs low are.scoped
      (filling_below (vars s) t xs (never_below s) are.left_below) are.left_below low_below in
      let net = (stages toward.Right f s 0 xs low).net in
      record {
        grows = made.grows;
        below = made.below;
        long = stages_long toward.Right f s 0 xs low ∙ are.left_long;
        is = λ m a b c holds of value.
            subst (λ bs. StandsFor t bs c) (sym (made.is m holds
            ∙ ap (λ n. moved toward.Right n (lit_value m f) (values m xs)) (low_number m)
            ∙ ap (λ g. moved toward.Right (number (take (amount_bits t) (values m ys))) g
            (values m xs)) (values_filling net m t xs holds)))
            (shift_value t u (values m ys) b c (λ n. int_div_euclid a (pos (2 ^ n)))
            (λ n z. StandsFor t (moved toward.Right n (filling_bit t (values m xs)) (values m xs))
            z) of.right_range of.right value
            (λ n less. right_stands t (values m xs) a n of.left_range of.left));
      }

  some_high : Makes s (some_bit s (drop (amount_bits t) ys))
      (λ m. not (number (values m (drop (amount_bits t) ys)) == 0))
  some_high =
      words_mean_their_operators.some_bit s (drop (amount_bits t) ys) are.scoped
      (back_below (vars s) (amount_bits t) ys are.right_below)

  -- whether there is an amount, for an operator that has a value wherever there is one
  tests : (f : ℤ → ℕ → ℤ) → TestsValue t u (λ a b. option_map (f a) (amount_of t b)) s xs ys
      (is_amount t s ys)
  unfolding is_amount
  tests f =
      let high = drop (amount_bits t) ys in
      let made = some_bit s high in
      record {
        grows = some_high.grows;
        below = opposite_below (vars made.net) made.value some_high.below;
        is = λ m a b holds of.
            literals_have_values.negative m made.value
            ∙ ap not (some_high.is m holds)
            ∙ twice (number (values m high) == 0)
            ∙ ap (λ bs. number bs == 0) (sym (drop-map (lit_value m) (amount_bits t) ys))
            ∙ fits_where t u (values m ys) b of.right_range of.right
            ∙ there (f a) (amount_of t b);
      }
    where
      twice : (b : Bool) → not (not b) ≡ b
      twice true = refl
      twice false = refl

      there : (g : ℕ → ℤ) (o : Option ℕ) → is_some o ≡ is_some (option_map g o)
      there g None = refl
      there g (Some n) = refl

  pub left_tests : TestsValue t u (bin_value bin.Shl t) s xs ys (is_amount t s ys)
  left_tests = tests (λ a n. wrapped t (a *ℤ pos (2 ^ n)))

  pub right_tests : TestsValue t u (bin_value bin.Shr t) s xs ys (is_amount t s ys)
  right_tests = tests (λ a n. int_div_euclid a (pos (2 ^ n)))
