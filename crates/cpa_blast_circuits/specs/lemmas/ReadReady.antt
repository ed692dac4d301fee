-- The answer of a read.
use Rattle.std.proofs.Common.{◌≡◌, ℕ, ◌+◌, ◌<◌, ◌≤◌, ◌^◌, Bool, true, false, List, length, map}
use Rattle.std.proofs.Common.{Option, None, Some, refl, sym, ap, subst, ◌∙◌, arith, ℤ, pos, negsuc}
use Rattle.std.specs.Prelude.{option_and_then, nat_lt, slice_get, slice_index_or, [], if◌then◌else◌}
use Rattle.std.specs.Option.{is_some}
use Rattle.std.proofs.lemmas.Bool.{ltb-true}
use Rattle.cpa_ints.specs.declared.integers.IntType.{IntType}
use Rattle.cpa_ints.specs.Integers.{width, IsInRange}
use Rattle.cpa_blast_gates.specs.declared.gate.Gate.{Gate}
use Rattle.cpa_blast_gates.specs.Gates.{lit_value}
use Rattle.cpa_blast_gates.specs.Nets.{IsScoped, and_in}
use Rattle.cpa_blast_gates.specs.Laws.{nets_grow, gates_mean_their_operators}
use Rattle.cpa_blast_words.specs.Truths.{values, number}
use Rattle.cpa_blast_words.specs.Types.{StandsFor}
use Rattle.cpa_blast_words.specs.lemmas.Columns.{still_below}
use Rattle.cpa_blast_words.specs.lemmas.WalkMeanings.{all_still_below}
use Rattle.cpa_expr.specs.Shape.{AreCells}
use Rattle.cpa_expr.specs.Values.{cell_at}
use Rattle.cpa_blast_circuits.specs.declared.answer.Answer.{Answer}
use Rattle.cpa_blast_circuits.specs.lemmas.Facts.{same_some}
use Rattle.cpa_blast_circuits.specs.declared.answer.Word.{Word}
use Rattle.cpa_blast_circuits.specs.Answers.{answer_of}
use Rattle.cpa_blast_circuits.specs.Reads.{picked, inside, cell_bits, read_in}
use Rattle.cpa_blast_circuits.specs.Meanings.{types_of, AreLong, AreWordsOf, HasStore}
use Rattle.cpa_blast_circuits.specs.lemmas.Ready.{IsRanged, IsReady, MakesReady, bound}
use Rattle.cpa_blast_circuits.specs.lemmas.CellWords.{cells_below, cells_alike, cells_there}
use Rattle.cpa_blast_circuits.specs.lemmas.CellWords.{cells_number}
use Rattle.cpa_blast_circuits.specs.lemmas.CellWords.{cell_value, cell_at_place, bits_in}
use Rattle.cpa_blast_circuits.specs.lemmas.ReadMeanings.{picked_is}
use Rattle.cpa_blast_circuits.specs.lemmas.Inside.{is_inside, inside_is, natural_number}

module _ (m : ℕ → Bool) (cells : List Word) (store : List ℤ) (base len : ℕ) (t : IntType)
    (has : HasStore m cells store) (are : AreCells (types_of cells) base len t) where
  -- the cell has a value where the index lies inside
  told : (a : ℤ) → is_inside len a ≡ is_some (cell_at store base len a)
  told (negsuc n) = refl
  told (pos n) = by (nat_lt n len) refl
    where
      by : (b : Bool) → nat_lt n len ≡ b
          → b ≡ is_some (if b then slice_get store (base + n) else None)
      by true e =
          let value = cell_value m cells store (base + n) t has (are n (ltb-true n len e)) in
          sym (ap is_some value.at)
      by false e = refl

  -- and it is that of the word at the index
  stands_at : (a r : ℤ) (k : ℕ) → ((n : ℕ) → a ≡ pos n → k ≡ n) → cell_at store base len a ≡ Some r
      → (k < len) × StandsFor t (values m (slice_index_or (cell_bits cells base len) k [])) r
  stands_at (negsuc n) r k is e = absurd (cc)
  stands_at (pos n) r k is e = by (nat_lt n len) refl e
    where
      by : (b : Bool) → nat_lt n len ≡ b
          → (if b then slice_get store (base + n) else None) ≡ Some r
          → (k < len) × StandsFor t (values m (slice_index_or (cell_bits cells base len) k [])) r
      by true less e =
          let inside_array = ltb-true n len less in
          let value = cell_value m cells store (base + n) t has (are n inside_array) in
          let same = is n refl in
          let r_is : value.value ≡ r = same_some value.value r (sym value.at ∙ e) in (
            subst (λ i. i < len) (sym same) inside_array,
            subst (λ i. StandsFor t (values m (slice_index_or (cell_bits cells base len) i [])) r)
                (sym same)
                (subst (λ ws. StandsFor t (values m ws) r)
                (sym (cell_at_place cells base len n inside_array))
                (subst (StandsFor t (values m
                (slice_index_or (map bits_in cells) (base + n) []))) r_is value.stands)),
          )
      by false less e = absurd (cc)

pub read_ready : (P : (ℕ → Bool) → Type 0) (cells : List Word) (store : List ℤ)
    (s : List Gate) (index : Answer) (u t : IntType) (v : Option ℤ) (base len : ℕ) → IsScoped s
    → AreWordsOf s cells → AreLong cells → AreCells (types_of cells) base len t → 1 ≤ len
    → length cells < 2 ^ 64 → IsReady P s index u v → IsRanged P u v
    → ((m : ℕ → Bool) → P m → HasStore m cells store)
    → MakesReady P s (read_in cells t base len s index) t
    (option_and_then (cell_at store base len) v)
unfolding read_in
read_ready P cells store s index u t v base len scoped below long are some few ready range
    has =
    let words = cell_bits cells base len in
    let word = picked s index.bits words in
    let test = inside index.ty len word.net index.bits in
    let ok = and_in test.net index.ok test.value in
    let there = cells_there t base len cells some are in
    let number_is = cells_number base len cells there in
    let is_word = picked_is s index.bits (width t) words scoped ready.bits_below
    (cells_below s cells base len below) (cells_alike t base len cells long are) in
    let is_test = inside_is index.ty len word.net index.bits is_word.grows.scoped
    (all_still_below s word.net index.bits is_word.grows ready.bits_below)
    (ready.long ∙ ap width (sym ready.ty)) (omega (arith, there, few)) in
    let to_test = nets_grow.on s word.net test.net is_word.grows is_test.grows in
    let is_ok = gates_mean_their_operators.conjunction test.net index.ok test.value
    is_test.grows.scoped (still_below s test.net index.ok to_test ready.ok_below) is_test.below in
    record {
      grows = nets_grow.on s test.net ok.net to_test is_ok.grows;
      ready = record {
        ty = refl;
        bits_below = all_still_below word.net ok.net word.value
            (nets_grow.on word.net test.net ok.net is_test.grows is_ok.grows) is_word.below;
        ok_below = is_ok.below;
        long = is_word.long (omega (arith, number_is, some));
        is = λ m p holds.
            let at_test = is_ok.grows.keeps m holds in
            let at_word = is_test.grows.keeps m at_test in
            let at_s = is_word.grows.keeps m at_word in
            let store_is = has m p in
            bound m u index t (answer_of t word.value ok.value) (cell_at store base len)
            (lit_value m test.value) v (ready.is m p at_s) (range m p) (is_ok.is m holds)
            (λ n in_range stands.
            is_test.is m n at_test (subst (λ x. IsInRange x n) (sym ready.ty) in_range)
            (subst (λ x. StandsFor x (values m index.bits) n) (sym ready.ty) stands)
            ∙ told m cells store base len t store_is are n)
            (λ n r in_range stands e.
            let found = stands_at m cells store base len t store_is are n r
            (number (values m index.bits))
            (λ k is. natural_number u (values m index.bits) n k in_range stands is) e in
            subst (λ bs. StandsFor t bs r)
            (sym (is_word.is m at_word (subst (λ i. number (values m index.bits) < i)
            (sym number_is) found.0))) found.1);
      };
    }
