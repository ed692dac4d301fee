-- The words of the cells that a read may pick.
use Rattle.std.proofs.Common.{◌≡◌, ℕ, zero, suc, ◌+◌, ◌-◌, ◌<◌, ◌≤◌, Bool, List, [], ◌∷◌, length}
use Rattle.std.proofs.Common.{map, take, drop, Some, refl, sym, ap, subst, ◌∙◌, arith, ℤ}
use Rattle.std.specs.Prelude.{slice_get, slice_index_or}
use Rattle.std.specs.List.{AllByRecursion, take-map, drop-map}
use Rattle.std.proofs.lemmas.List.{get_or-take, get_or-drop, length-map, length-take-le}
use Rattle.std.proofs.lemmas.List.{length-drop}
use Rattle.std.proofs.lemmas.Option.{slice_get_within}
use Rattle.cpa_ints.specs.declared.integers.IntType.{IntType}
use Rattle.cpa_ints.specs.Integers.{width}
use Rattle.cpa_cnf.specs.Lines.{AreBelow}
use Rattle.cpa_blast_gates.specs.Nets.{vars}
use Rattle.cpa_blast_gates.specs.declared.gate.Gate.{Gate}
use Rattle.cpa_blast_words.specs.Truths.{values}
use Rattle.cpa_blast_words.specs.Types.{StandsFor}
use Rattle.cpa_expr.specs.Shape.{AreCells}
use Rattle.cpa_expr.specs.Cells.{AreValues}
use Rattle.cpa_blast_circuits.specs.lemmas.Facts.{same_some}
use Rattle.cpa_blast_circuits.specs.declared.answer.Word.{Word}
use Rattle.cpa_blast_words.specs.Words.{choose_word}
use Rattle.cpa_blast_words.specs.Laws.{words_are_long}
use Rattle.cpa_blast_circuits.specs.declared.answer.Answer.{Answer}
use Rattle.cpa_blast_circuits.specs.Reads.{cell_bits, first_word, halved, picked, read_in, AreAlike}
use Rattle.cpa_blast_circuits.specs.Meanings.{types_of, AreLong, AreWordsOf, HasStore}

abbrev pub bits_in : Word → List ℕ
bits_in w = w.bits

-- what holds of each item holds of those from a place on, and of the first ones
kept_drop : {A : Type 0} (P : A → Type 0) (n : ℕ) (xs : List A) → AllByRecursion P xs
    → AllByRecursion P (drop n xs)
kept_drop P zero xs all = all
kept_drop P (suc n) [] all = tt
kept_drop P (suc n) (x ∷ xs) all = kept_drop P n xs all.1

kept_take : {A : Type 0} (P : A → Type 0) (n : ℕ) (xs : List A) → AllByRecursion P xs
    → AllByRecursion P (take n xs)
kept_take P zero xs all = tt
kept_take P (suc n) [] all = tt
kept_take P (suc n) (x ∷ xs) all = (all.0, kept_take P n xs all.1)

bits_below : (n : ℕ) (cells : List Word) → AllByRecursion (λ (w : Word). AreBelow n w.bits) cells
    → AllByRecursion (AreBelow n) (map bits_in cells)
bits_below n [] all = tt
bits_below n (w ∷ cells) all = (all.0, bits_below n cells all.1)

pub cells_below : (s : List Gate) (cells : List Word) (base len : ℕ) → AreWordsOf s cells
    → AllByRecursion (AreBelow (vars s)) (cell_bits cells base len)
cells_below s cells base len all =
    let P = λ (w : Word). AreBelow (vars s) w.bits in
    bits_below (vars s) (take len (drop base cells))
    (kept_take P len (drop base cells) (kept_drop P base cells all))

-- the words of cells of one type are as long as it is wide
first_alike : (t : IntType) (len : ℕ) (cells : List Word) → AreLong cells
    → ((i : ℕ) → i < len → slice_get (types_of cells) i ≡ Some t)
    → AreAlike (width t) (map bits_in (take len cells))
first_alike t zero cells long are = tt
first_alike t (suc len) [] long are = tt
first_alike t (suc len) (w ∷ cells) long are = (
  long.0 ∙ ap width (same_some w.ty t (are 0 (omega arith))),
  first_alike t len cells long.1 (λ i h. are (suc i) (omega arith)),
)

pub cells_alike : (t : IntType) (base len : ℕ) (cells : List Word) → AreLong cells
    → AreCells (types_of cells) base len t → AreAlike (width t) (cell_bits cells base len)
cells_alike t zero len cells long are =
    first_alike t len cells long
    (λ i h. subst (λ k. slice_get (types_of cells) k ≡ Some t) (none i) (are i h))
  where
    none : (i : ℕ) → 0 + i ≡ i
    none i = omega arith
cells_alike t (suc base) zero [] long are = tt
cells_alike t (suc base) (suc len) [] long are = tt
cells_alike t (suc base) len (w ∷ cells) long are =
    cells_alike t base len cells long.1
    (λ i h. subst (λ k. slice_get (types_of (w ∷ cells)) k ≡ Some t) (next base i) (are i h))
  where
    next : (base i : ℕ) → suc base + i ≡ suc (base + i)
    next base i = omega arith

-- the cells are there
pub cells_there : (t : IntType) (base len : ℕ) (cells : List Word) → 1 ≤ len
    → AreCells (types_of cells) base len t → base + len ≤ length cells
cells_there t base len cells some are =
    let last = slice_get_within (types_of cells) (base + (len - 1)) t
    (are (len - 1) (omega arith)) in
    let long = length-map cells (λ (w : Word). w.ty) in
    omega arith

pub cells_number : (base len : ℕ) (cells : List Word) → base + len ≤ length cells
    → length (cell_bits cells base len) ≡ len
cells_number base len cells there =
    length-map (take len (drop base cells)) bits_in
    ∙ length-take-le len (drop base cells)
    (let long = length-drop base cells in omega (arith, long))

-- the words of one length are as long as the first of them
pub first_alike_word : (w : ℕ) (words : List (List ℕ)) → AreAlike w words → 0 < length words
    → length (first_word words) ≡ w
first_alike_word w [] alike h = absurd (omega arith)
first_alike_word w (v ∷ words) alike h = alike.0

-- the word of a cell stands for its value
pub record IsCellValue (m : ℕ → Bool) (cells : List Word) (store : List ℤ) (i : ℕ) (t : IntType)
    : Type 0
  where
    pub value : ℤ
    pub at : slice_get store i ≡ Some value
    pub stands : StandsFor t (values m (slice_index_or (map bits_in cells) i [])) value

pub cell_value : (m : ℕ → Bool) (cells : List Word) (store : List ℤ) (i : ℕ) (t : IntType)
    → HasStore m cells store → slice_get (types_of cells) i ≡ Some t
    → IsCellValue m cells store i t
cell_value m [] [] i t has e = absurd (cc)
cell_value m [] (v ∷ store) i t has e = absurd has
cell_value m (w ∷ cells) [] i t has e = absurd has
cell_value m (w ∷ cells) (v ∷ store) zero t has e = record {
  value = v;
  at = refl;
  stands = subst (λ u. StandsFor u (values m w.bits) v) (same_some w.ty t e) has.0.1;
}
cell_value m (w ∷ cells) (v ∷ store) (suc i) t has e =
    let rest = cell_value m cells store i t has.1 e in
    record { value = rest.value; at = rest.at; stands = rest.stands }

-- the word at a place of those that a read may pick
pub cell_at_place : (cells : List Word) (base len k : ℕ) → k < len
    → slice_index_or (cell_bits cells base len) k []
    ≡ slice_index_or (map bits_in cells) (base + k) []
cell_at_place cells base len k inside =
    ap (λ ws. slice_index_or ws k [])
    (sym (take-map bits_in len (drop base cells))
    ∙ ap (take len) (sym (drop-map bits_in base cells)))
    ∙ get_or-take len (drop base (map bits_in cells)) k [] inside
    ∙ get_or-drop base (map bits_in cells) k []

-- a store of cells is in range
pub store_values : (m : ℕ → Bool) (cells : List Word) (store : List ℤ) → HasStore m cells store
    → AreValues (types_of cells) store
store_values m [] [] has = tt
store_values m [] (v ∷ store) has = absurd has
store_values m (w ∷ cells) [] has = absurd has
store_values m (w ∷ cells) (v ∷ store) has = (has.0.0, store_values m cells store has.1)

-- the word that bits pick of words of one length is as long
halved_alike : (w : ℕ) (net : List Gate) (l : ℕ) (words : List (List ℕ)) → AreAlike w words
    → AreAlike w (halved net l words).value
    × (0 < length words → 0 < length (halved net l words).value)
unfolding halved
halved_alike w net l [] alike = (tt, λ h. h)
halved_alike w net l (v ∷ []) alike = (alike, λ h. h)
halved_alike w net l (v ∷ x ∷ words) alike =
    let made = choose_word net l x v in (
      (
        words_are_long.choice l net x v (alike.1.0 ∙ sym alike.0) ∙ alike.1.0,
        (halved_alike w made.net l words alike.1.1).0,
      ),
      λ h. omega arith,
    )

picked_long : (w : ℕ) (net : List Gate) (bits : List ℕ) (words : List (List ℕ)) → AreAlike w words
    → 0 < length words → length (picked net bits words).value ≡ w
unfolding picked
picked_long w net [] words alike some = first_alike_word w words alike some
picked_long w net (l ∷ bits) words alike some =
    let half = halved net l words in
    let both = halved_alike w net l words alike in
    picked_long w half.net bits half.value both.0 (both.1 some)

pub read_long : (cells : List Word) (t : IntType) (base len : ℕ) (net : List Gate) (index : Answer)
    → AreLong cells → 1 ≤ len → AreCells (types_of cells) base len t
    → length (read_in cells t base len net index).value.bits ≡ width t
unfolding read_in
read_long cells t base len net index long some are =
    let number_is = cells_number base len cells (cells_there t base len cells some are) in
    picked_long (width t) net index.bits (cell_bits cells base len)
    (cells_alike t base len cells long are) (omega (arith, number_is, some))
