-- Quotients and remainders made of words of a net stand for those of the numbers.
use Rattle.std.proofs.Common.{◌≡◌, ◌≢◌, ℕ, ◌^◌, ◌<◌, Bool, true, false, not}
use Rattle.std.proofs.Common.{List, length, refl, sym, ap, subst, ◌∙◌, arith, ℤ, pos, ◌-ℤ◌}
use Rattle.std.proofs.Common.{◌*ℤ◌, int_div, Some, None}
use Rattle.std.specs.Prelude.{◌==◌, if◌then◌else◌}
use Rattle.std.specs.Option.{is_some}
use Rattle.std.specs.Ordering.{int_eq}
use Rattle.std.proofs.lemmas.Int.{ints}
use Rattle.std.proofs.lemmas.Nat.{pow_pos}
use Rattle.std.proofs.lemmas.Bool.Decides.{Decides-int_eq}
use Rattle.std.proofs.lemmas.List.{length-map, length-replicate}
use Rattle.std.proofs.Common.{replicate}
use Rattle.std.proofs.Math.Nat.{mod-eq_of_lt}
use Rattle.cpa_ints.specs.lemmas.WrapLaws.{zero_within}
use Rattle.cpa_ints.specs.declared.integers.IntType.{IntType}
use Rattle.cpa_ints.specs.declared.integers.IntType.TheVariants as ty
use Rattle.cpa_ints.specs.Integers.{width, IsInRange}
use Rattle.cpa_ints.specs.Wrapping.{wrapped}
use Rattle.cpa_cnf.specs.Lines.{AreBelow}
use Rattle.cpa_blast_gates.specs.declared.gate.Gate.{Gate}
use Rattle.cpa_blast_gates.specs.Gates.{lit_value, differ}
use Rattle.cpa_blast_gates.specs.Nets.{vars, IsScoped, Holds, Built, xor_in}
use Rattle.cpa_blast_gates.specs.Meanings.{Grows}
use Rattle.cpa_blast_gates.specs.Laws.{nets_grow, gates_mean_their_operators}
use Rattle.cpa_expr.specs.Values.{bin_value, divided_by}
use Rattle.cpa_expr.specs.declared.tree.BinOp.TheVariants as bin
use Rattle.cpa_blast_words.specs.Words.{some_bit, filling}
use Rattle.cpa_blast_words.specs.Truths.{values, number}
use Rattle.cpa_blast_words.specs.Types.{StandsFor, filling_bit}
use Rattle.cpa_blast_words.specs.Values.{AreOperands, AreWords, MakesValue, TestsValue}
use Rattle.cpa_blast_words.specs.Laws.{words_mean_their_operators, words_are_numbers}
use Rattle.cpa_blast_words.specs.Laws.{comparisons_compare, words_are_equal}
use Rattle.cpa_blast_words.specs.lemmas.Columns.{still_below}
use Rattle.cpa_blast_words.specs.lemmas.WalkMeanings.{all_still_below}
use Rattle.cpa_blast_words.specs.lemmas.WordMeanings.{never_below, values_filling, filling_below}
use Rattle.cpa_blast_quotients.specs.declared.dividers.Divided.{Divided}
use Rattle.cpa_blast_quotients.specs.Dividers.{divide}
use Rattle.cpa_blast_quotients.specs.Quotients.{signed_word, divided_magnitudes, quotient}
use Rattle.cpa_blast_quotients.specs.Quotients.{remainder}
use Rattle.cpa_blast_quotients.specs.Meanings.{Divides, MakesDivision, signed_number, signed}
use Rattle.cpa_blast_quotients.specs.lemmas.DividerMeanings.{divide_is}
use Rattle.cpa_blast_quotients.specs.lemmas.Signs.{signed_is}
use Rattle.cpa_blast_quotients.specs.lemmas.QuotientsAtTypes.{sized, IsDivision, division}
use Rattle.cpa_blast_quotients.specs.lemmas.QuotientsAtTypes.{signed_stands, wraps_alike}

pub equal_lengths : (s : List Gate) (xs ys : List ℕ) → IsScoped s → AreBelow (vars s) xs
    → AreBelow (vars s) ys → length xs ≡ length ys → MakesDivision s xs ys (divide s xs ys)
equal_lengths s xs ys scoped p q e = divide_is s xs ys scoped p q (omega arith)

-- ---- where there is a value

-- a word stands for 0 where its number is 0
zero_where : (t : IntType) (bs : List Bool) (b : ℤ) → IsInRange t b
    → StandsFor t bs b → (number bs == 0) ≡ int_eq b (pos 0)
zero_where t bs b range stands =
    let zeros = replicate (width t) false in
    let none : number zeros ≡ 0 = words_are_numbers.falses (width t) in
    ap (λ k. number bs == k) (sym none)
    ∙ sym (comparisons_compare.equal bs zeros
    (stands.long ∙ sym (length-replicate (width t) false)))
    ∙ words_are_equal t bs zeros b (pos 0) range (zero_within t) stands
    (record {
      long = length-replicate (width t) false;
      is = none ∙ sym (mod-eq_of_lt (pow_pos (width t)));
    })

module _ (t : IntType) (s : List Gate) (xs ys : List ℕ)
    (are : AreWords t t s xs ys) where
  tests : (f : ℤ → ℤ → ℤ)
      → TestsValue t t (λ a b. divided_by b (f a b)) s xs ys (some_bit s ys)
  tests f =
      let made = words_mean_their_operators.some_bit s ys are.scoped are.right_below in
      record {
        grows = made.grows;
        below = made.below;
        is = λ m a b holds of.
            made.is m holds
            ∙ ap not (zero_where t (values m ys) b of.right_range of.right)
            ∙ there (int_eq b (pos 0)) (f a b);
      }
    where
      there : (e : Bool) (z : ℤ) → not e ≡ is_some (if e then None else Some z)
      there true z = refl
      there false z = refl

  pub quotient_tests : TestsValue t t (bin_value bin.Div t) s xs ys (some_bit s ys)
  quotient_tests = tests (λ a b. wrapped t (int_div a b))

  pub remainder_tests : TestsValue t t (bin_value bin.Rem t) s xs ys (some_bit s ys)
  remainder_tests = tests (λ a b. a -ℤ int_div a b *ℤ b)

-- what is divided by a number that is not 0
value_where : (b z c : ℤ) → divided_by b z ≡ Some c → (b ≢ pos 0) × (z ≡ c)
value_where b z c e = by (int_eq b (pos 0)) refl
  where
    none : None ≡ Some c → ⊥
    none h = absurd (cc)

    value : Some z ≡ Some c → z ≡ c
    value h = cc

    by : (x : Bool) → int_eq b (pos 0) ≡ x → (b ≢ pos 0) × (z ≡ c)
    by true is =
        absurd (none (sym (ap (λ x. if x then None else Some z) is) ∙ e))
    by false is = (
      λ h. apart (sym ((Decides-int_eq b (pos 0)).1 h) ∙ is),
      value (sym (ap (λ x. if x then None else Some z) is) ∙ e),
    )
      where
        apart : true ≡ false → ⊥
        apart h = absurd (cc)

-- ---- the magnitudes of two words, divided

magnitude : IntType → List Bool → ℕ
magnitude t bs = signed_number (filling_bit t bs) (width t) (number bs)

record DividesMagnitudes (t : IntType) (s : List Gate) (xs ys : List ℕ) (made : Built Divided)
    : Type 0
  where
    pub grows : Grows s made.net
    pub quotient_below : AreBelow (vars made.net) made.value.quotient
    pub remainder_below : AreBelow (vars made.net) made.value.remainder
    pub quotient_long : length made.value.quotient ≡ width t
    pub remainder_long : length made.value.remainder ≡ width t
    pub is : (m : ℕ → Bool) → Holds m made.net → magnitude t (values m ys) ≢ 0
        → Divides (magnitude t (values m ys)) (magnitude t (values m xs))
        (number (values m made.value.quotient)) (number (values m made.value.remainder))

module _ (t : IntType) (s : List Gate) (xs ys : List ℕ) (are : AreWords t t s xs ys) where
  magnitudes_divide : DividesMagnitudes t s xs ys (divided_magnitudes t s xs ys)
  unfolding divided_magnitudes magnitude
  magnitudes_divide =
      let f = filling t xs in
      let g = filling t ys in
      let left = signed_word s f xs in
      let first = signed_is s f xs are.scoped
      (filling_below (vars s) t xs (never_below s) are.left_below) are.left_below in
      let right = signed_word left.net g ys in
      let second = signed_is left.net g ys first.grows.scoped
      (still_below s left.net g first.grows
      (filling_below (vars s) t ys (never_below s) are.right_below))
      (all_still_below s left.net ys first.grows are.right_below) in
      let alike : length left.value ≡ length right.value =
      first.long ∙ are.left_long ∙ sym (second.long ∙ are.right_long) in
      let made = divide right.net left.value right.value in
      let third = equal_lengths right.net left.value right.value second.grows.scoped
      (all_still_below left.net right.net left.value second.grows first.below) second.below
      alike in
      let two = nets_grow.on s left.net right.net first.grows second.grows in
      record {
        grows = nets_grow.on s right.net made.net two third.grows;
        quotient_below = third.quotient_below;
        remainder_below = third.remainder_below;
        quotient_long = third.quotient_long ∙ first.long ∙ are.left_long;
        remainder_long = third.remainder_long ∙ first.long ∙ are.left_long;
        is = λ m holds some.
            let h2 = third.grows.keeps m holds in
            let h1 = second.grows.keeps m h2 in
            let k = number (values m left.value) in
            let d = number (values m right.value) in
            let is_k : k ≡ magnitude t (values m xs) =
            first.is m h1
            ∙ ap (λ n. signed_number (lit_value m f) n (number (values m xs))) are.left_long
            ∙ ap (λ b. signed_number b (width t) (number (values m xs)))
            (values_filling left.net m t xs h1) in
            let is_d : d ≡ magnitude t (values m ys) =
            second.is m h2
            ∙ ap (λ n. signed_number (lit_value m g) n (number (values m ys))) are.right_long
            ∙ ap (λ b. signed_number b (width t) (number (values m ys)))
            (values_filling right.net m t ys h2) in
            as_divided d (magnitude t (values m ys)) k (magnitude t (values m xs)) _ _ is_d is_k
            (third.is m holds (λ e. some (sym is_d ∙ e)));
      }
    where
      as_divided : (d e k n q r : ℕ) → d ≡ e → k ≡ n → Divides d k q r → Divides e n q r
      as_divided d e k n q r same like is =
          subst (λ x. Divides x n q r) same (subst (λ x. Divides d x q r) like is)

-- ---- quotients and remainders

-- at Bool a number below 2 lies in the range
in_bool : (t : IntType) (bs cs : List Bool) (q : ℕ) → q < 2 ^ width t → t ≡ ty.Bool
    → IsInRange t (signed (differ (filling_bit t bs) (filling_bit t cs)) q)
in_bool ty.Bool bs cs q less e = (omega (arith, ints), omega (arith, ints))
in_bool ty.I8 bs cs q less e = absurd (cc)
in_bool ty.U8 bs cs q less e = absurd (cc)
in_bool ty.I16 bs cs q less e = absurd (cc)
in_bool ty.U16 bs cs q less e = absurd (cc)
in_bool ty.I32 bs cs q less e = absurd (cc)
in_bool ty.U32 bs cs q less e = absurd (cc)
in_bool ty.I64 bs cs q less e = absurd (cc)
in_bool ty.U64 bs cs q less e = absurd (cc)

below_power : (t : IntType) (m : ℕ → Bool) (ls : List ℕ) → length ls ≡ width t
    → number (values m ls) < 2 ^ width t
below_power t m ls e =
    subst (λ k. number (values m ls) < 2 ^ k) (length-map ls (lit_value m) ∙ e)
    (words_are_numbers.below (values m ls))

module _ (t : IntType) (s : List Gate) (xs ys : List ℕ)
    (are : AreWords t t s xs ys) where
  -- the numbers of two words, divided by their magnitudes
  numbers_divided : (m : ℕ → Bool) (a b : ℤ) → Holds m (divided_magnitudes t s xs ys).net
      → AreOperands t t (values m xs) (values m ys) a b → b ≢ pos 0
      → IsDivision (filling_bit t (values m xs)) (filling_bit t (values m ys)) a b
      (number (values m (divided_magnitudes t s xs ys).value.quotient))
      (number (values m (divided_magnitudes t s xs ys).value.remainder))
  unfolding magnitude
  numbers_divided m a b holds of some =
      let f = filling_bit t (values m xs) in
      let g = filling_bit t (values m ys) in
      let right = sized t (values m ys) b of.right_range of.right in
      division f g a b (magnitude t (values m xs)) (magnitude t (values m ys)) _ _
      (sized t (values m xs) a of.left_range of.left) right
      ((magnitudes_divide t s xs ys are).is m holds
      (λ e. some (right.is ∙ ap (signed g) e ∙ zero_signed g)))
    where
      zero_signed : (g : Bool) → signed g 0 ≡ pos 0
      zero_signed true = refl
      zero_signed false = refl

  pub quotient_makes : MakesValue t t (bin_value bin.Div t) s xs ys (quotient t s xs ys)
  unfolding quotient
  quotient_makes =
      let both = divided_magnitudes t s xs ys in
      let first = magnitudes_divide t s xs ys are in
      let f = filling t xs in
      let g = filling t ys in
      let sign = xor_in both.net f g in
      let second = gates_mean_their_operators.difference both.net f g first.grows.scoped
      (still_below s both.net f first.grows
      (filling_below (vars s) t xs (never_below s) are.left_below))
      (still_below s both.net g first.grows
      (filling_below (vars s) t ys (never_below s) are.right_below)) in
      let third = signed_is sign.net sign.value both.value.quotient second.grows.scoped
      second.below
      (all_still_below both.net sign.net both.value.quotient second.grows first.quotient_below) in
      let made = signed_word sign.net sign.value both.value.quotient in
      let two = nets_grow.on s both.net sign.net first.grows second.grows in
      let long = third.long ∙ first.quotient_long in
      record {
        grows = nets_grow.on s sign.net made.net two third.grows;
        below = third.below;
        long = long;
        is = λ m a b c holds of value.
            let h2 = third.grows.keeps m holds in
            let h1 = second.grows.keeps m h2 in
            let parts = value_where b (wrapped t (int_div a b)) c value in
            let fb = filling_bit t (values m xs) in
            let gb = filling_bit t (values m ys) in
            let q = number (values m both.value.quotient) in
            let is = numbers_divided m a b h1 of parts.0 in
            let less = below_power t m both.value.quotient first.quotient_long in
            let stands = signed_stands t (differ fb gb) q (values m made.value)
            (length-map made.value (lit_value m) ∙ long) less
            (third.is m holds
            ∙ ap (λ n. signed_number (lit_value m sign.value) n q) first.quotient_long
            ∙ ap (λ x. signed_number x (width t) q) (second.is m h2
            ∙ ap (λ x. differ x (lit_value m g)) (values_filling both.net m t xs h1)
            ∙ ap (differ fb) (values_filling both.net m t ys h1))) in
            subst (StandsFor t (values m made.value))
            (ap (wrapped t) (sym is.quotient) ∙ parts.1)
            (record {
              long = stands.long;
              is = stands.is ∙ sym (wraps_alike t (signed (differ fb gb) q)
                  (in_bool t (values m xs) (values m ys) q less));
            });
      }

  pub remainder_makes : MakesValue t t (bin_value bin.Rem t) s xs ys (remainder t s xs ys)
  unfolding remainder
  remainder_makes =
      let both = divided_magnitudes t s xs ys in
      let first = magnitudes_divide t s xs ys are in
      let f = filling t xs in
      let second = signed_is both.net f both.value.remainder first.grows.scoped
      (still_below s both.net f first.grows
      (filling_below (vars s) t xs (never_below s) are.left_below)) first.remainder_below in
      let made = signed_word both.net f both.value.remainder in
      let long = second.long ∙ first.remainder_long in
      record {
        grows = nets_grow.on s both.net made.net first.grows second.grows;
        below = second.below;
        long = long;
        is = λ m a b c holds of value.
            let h1 = second.grows.keeps m holds in
            let parts = value_where b (a -ℤ int_div a b *ℤ b) c value in
            let fb = filling_bit t (values m xs) in
            let r = number (values m both.value.remainder) in
            let is = numbers_divided m a b h1 of parts.0 in
            subst (StandsFor t (values m made.value)) (sym is.remainder ∙ parts.1)
            (signed_stands t fb r (values m made.value)
            (length-map made.value (lit_value m) ∙ long)
            (below_power t m both.value.remainder first.remainder_long)
            (second.is m holds
            ∙ ap (λ n. signed_number (lit_value m f) n r) first.remainder_long
            ∙ ap (λ x. signed_number x (width t) r) (values_filling both.net m t xs h1)));
      }
