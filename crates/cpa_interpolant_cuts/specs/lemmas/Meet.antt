-- Where the cells stand in two formulas, and the values of their bits there.
use Rattle.std.proofs.Common.{◌≡◌, ℕ, zero, suc, ◌+◌, ◌<◌, ◌≤◌, Bool, false, ℤ, pos, List}
use Rattle.std.proofs.Common.{[], ◌∷◌, length, Some, slice_get, refl}
use Rattle.std.proofs.Common.{sym, ap, ◌∙◌, subst, arith, zero-add}
use Rattle.std.specs.Prelude.{slice_index_or}
use Rattle.std.specs.List.{AllZip}
use Rattle.std.proofs.lemmas.List.{length-map}
use Rattle.std.proofs.lemmas.Option.{slice_get_within}
use Rattle.cpa_ints.specs.declared.integers.IntType.{IntType}
use Rattle.cpa_ints.specs.Integers.{width}
use Rattle.cpa_blast_circuits.specs.lemmas.Facts.{same_some}
use Rattle.cpa_blast_circuits.specs.Laws.{CircuitsHaveValues}
use Rattle.cpa_model.specs.declared.program.Cell.{Cell}
use Rattle.cpa_model.specs.Expressions.{types_of}
use Rattle.cpa_query.specs.declared.query.Query.{Query}
use Rattle.cpa_blast.specs.Formulas.{formula, first_bits, store_at}
use Rattle.cpa_blast.specs.Laws.{IsBlastable, formulas_below}
use Rattle.cpa_form_rules.specs.Forms.{Form, place_now}
use Rattle.cpa_interpolant_bits.specs.Bits.{bit_of}
use Rattle.cpa_interpolant_cuts.specs.Variables.{IsBitAt, bits_stand_apart, bits_are_variables}
use Rattle.cpa_interpolant_names.specs.declared.gathering.Meeting.{Meeting}
use Rattle.cpa_interpolant_names.specs.declared.gathering.Seen.{Seen}
use Rattle.cpa_interpolant_names.specs.Meetings.{meeting_of, meetings_from}
use Rattle.cpa_interpolant_names.specs.Laws.{IsOne, AreApart}
use Rattle.cpa_interpolant_cuts.specs.Cuts.{seen, meetings_of}

-- ---- lists

zip_there : {X : Type 0} (R : X → ℕ → Type 0) (xs : List X) (ys : List ℕ) (c : ℕ) (x : X)
    → AllZip R xs ys → slice_get xs c ≡ Some x
    → (slice_get ys c ≡ Some (slice_index_or ys c 0)) × R x (slice_index_or ys c 0)
zip_there R [] ys c x all is = absurd (cc)
zip_there R (u ∷ xs) [] c x all is = absurd all
zip_there R (u ∷ xs) (y ∷ ys) zero x all is =
    (refl, subst (λ v. R v y) (same_some u x is) all.0)
zip_there R (u ∷ xs) (y ∷ ys) (suc c) x all is = zip_there R xs ys c x all.1 is

-- ---- the meetings

meeting_found : (A : Form) (x y : Seen) (n : ℕ) (cells : List Cell) (k : ℕ) (m : Meeting)
    → slice_get (meetings_from A x y n cells) k ≡ Some m
    → (t : IntType) × (slice_get (types_of cells) k ≡ Some t) × (m ≡ meeting_of A x y (n + k) t)
meeting_found A x y n [] k m is = absurd (cc)
meeting_found A x y n (cell ∷ cells) zero m is =
    (cell.ty, refl, sym (same_some _ m is) ∙ ap (λ i. meeting_of A x y i cell.ty) (none n))
  where
    none : (n : ℕ) → n ≡ n + 0
    none n = omega arith
meeting_found A x y n (cell ∷ cells) (suc k) m is =
    let (t, ty, at) = meeting_found A x y (suc n) cells k m is in
    (t, ty, at ∙ ap (λ i. meeting_of A x y i t) (later n k))
  where
    later : (n k : ℕ) → suc n + k ≡ n + suc k
    later n k = omega arith

meeting_there : (A : Form) (x y : Seen) (n : ℕ) (cells : List Cell) (k : ℕ) (t : IntType)
    → slice_get (types_of cells) k ≡ Some t
    → slice_get (meetings_from A x y n cells) k ≡ Some (meeting_of A x y (n + k) t)
meeting_there A x y n [] k t is = absurd (cc)
meeting_there A x y n (cell ∷ cells) zero t is =
    ap (λ u. Some (meeting_of A x y n u)) (same_some cell.ty t is)
    ∙ ap (λ i. Some (meeting_of A x y i t)) (none n)
  where
    none : (n : ℕ) → n ≡ n + 0
    none n = omega arith
meeting_there A x y n (cell ∷ cells) (suc k) t is =
    meeting_there A x y (suc n) cells k t is ∙ ap (λ i. Some (meeting_of A x y i t)) (later n k)
  where
    later : (n k : ℕ) → suc n + k ≡ n + suc k
    later n k = omega arith

-- two parts: their queries may be asked, and their cells are those of the program
pub record AreParts (cells : List Cell) (A B : Form) : Type 0 where
  pub before : IsBlastable A.query
  pub behind : IsBlastable B.query
  pub ty : (c : ℕ) (t : IntType) → slice_get (types_of cells) c ≡ Some t
      → slice_get A.query.cells (place_now A c) ≡ Some t
  pub apart : (c d : ℕ) → c < length cells → d < length cells
      → place_now A c ≡ place_now A d → c ≡ d
  pub start : (c : ℕ) (t : IntType) → slice_get (types_of cells) c ≡ Some t
      → slice_get B.query.cells c ≡ Some t

module _ (circuits : CircuitsHaveValues) (cells : List Cell) (A B : Form)
    (are : AreParts cells A B) where
  abbrev pub at : ℕ → IntType → Meeting
  at c t = meeting_of A (seen A.query) (seen B.query) c t

  -- the meeting is that of a cell
  pub record IsCell (m : Meeting) : Type 0 where
    pub cell : ℕ
    pub t : IntType
    pub inside : cell < length cells
    pub ty : slice_get (types_of cells) cell ≡ Some t
    pub is : m ≡ at cell t

  pub cell_of : (m : Meeting) → IsOne (meetings_of cells A B) m → IsCell m
  cell_of m (k, is) =
      let (t, ty, same) = meeting_found A (seen A.query) (seen B.query) 0 cells k m is in
      let inside = slice_get_within (types_of cells) k t ty in
      let long = length-map cells (λ (c : Cell). c.ty) in
      record {
        cell = k;
        t = t;
        inside = omega (arith, inside, long);
        ty = ty;
        is = same ∙ ap (λ i. at i t) (zero-add k);
      }

  pub one_at : (c : ℕ) (t : IntType) → slice_get (types_of cells) c ≡ Some t
      → IsOne (meetings_of cells A B) (at c t)
  one_at c t ty = (
    c,
    meeting_there A (seen A.query) (seen B.query) 0 cells c t ty
        ∙ ap (λ i. Some (at i t)) (zero-add c),
  )

  -- each bit is a variable of the formula
  bit_at_place : (q : Query) → IsBlastable q → (c : ℕ) (t : IntType) (j : ℕ)
      → slice_get q.cells c ≡ Some t → j < width t
      → IsBitAt q.cells (first_bits q) c t j (slice_index_or (first_bits q) c 0 + j)
      × (slice_index_or (first_bits q) c 0 + width t ≤ (formula q).vars)
  bit_at_place q few c t j ty below =
      let (there, high) = zip_there _ q.cells (first_bits q) c t
      ((formulas_below circuits).cells q few) ty in (
        record {
          first = slice_index_or (first_bits q) c 0;
          ty = ty;
          at = there;
          inside = below;
          is = refl;
        },
        high,
      )

  pub before_bit : (c : ℕ) (t : IntType) (j : ℕ) → slice_get (types_of cells) c ≡ Some t
      → j < width t
      → IsBitAt A.query.cells (first_bits A.query) (place_now A c) t j ((at c t).before + j)
      × ((at c t).before + width t ≤ (formula A.query).vars)
  before_bit c t j ty below = bit_at_place A.query are.before (place_now A c) t j
      (are.ty c t ty) below

  pub behind_bit : (c : ℕ) (t : IntType) (j : ℕ) → slice_get (types_of cells) c ≡ Some t
      → j < width t → IsBitAt B.query.cells (first_bits B.query) c t j ((at c t).behind + j)
      × ((at c t).behind + width t ≤ (formula B.query).vars)
  behind_bit c t j ty below = bit_at_place B.query are.behind c t j (are.start c t ty) below

  same_meeting : (c d : ℕ) (t u : IntType) → slice_get (types_of cells) c ≡ Some t
      → slice_get (types_of cells) d ≡ Some u → c ≡ d → at c t ≡ at d u
  same_meeting c d t u ty other same =
      ap (λ k. at k t) same
      ∙ ap (λ v. at d v) (same_some t u
      (sym ty ∙ (ap (λ k. slice_get (types_of cells) k) same ∙ other)))

  pub before_apart : AreApart (λ n. n.before) (meetings_of cells A B)
  before_apart m n i j one other below also same =
      let c = cell_of m one in
      let d = cell_of n other in
      let i_in = subst (λ (x : Meeting). i < width x.ty) c.is below in
      let j_in = subst (λ (x : Meeting). j < width x.ty) d.is also in
      let first = before_bit c.cell c.t i c.ty i_in in
      let second = before_bit d.cell d.t j d.ty j_in in
      let together = (bits_stand_apart circuits).apart A.query (place_now A c.cell)
      (place_now A d.cell) i j ((at c.cell c.t).before + i) c.t d.t are.before first.0
      (subst (IsBitAt A.query.cells (first_bits A.query) (place_now A d.cell) d.t j)
      (sym (ap (λ (x : Meeting). x.before + i) (sym c.is)
      ∙ (same ∙ ap (λ (x : Meeting). x.before + j) d.is))) second.0) in
      let cell = are.apart c.cell d.cell c.inside d.inside together.0 in
      (c.is ∙ (same_meeting c.cell d.cell c.t d.t c.ty d.ty cell ∙ sym d.is), together.1)

  pub behind_apart : AreApart (λ n. n.behind) (meetings_of cells A B)
  behind_apart m n i j one other below also same =
      let c = cell_of m one in
      let d = cell_of n other in
      let i_in = subst (λ (x : Meeting). i < width x.ty) c.is below in
      let j_in = subst (λ (x : Meeting). j < width x.ty) d.is also in
      let first = behind_bit c.cell c.t i c.ty i_in in
      let second = behind_bit d.cell d.t j d.ty j_in in
      let together = (bits_stand_apart circuits).apart B.query c.cell d.cell i j
      ((at c.cell c.t).behind + i) c.t d.t are.behind first.0
      (subst (IsBitAt B.query.cells (first_bits B.query) d.cell d.t j)
      (sym (ap (λ (x : Meeting). x.behind + i) (sym c.is)
      ∙ (same ∙ ap (λ (x : Meeting). x.behind + j) d.is))) second.0) in
      (c.is ∙ (same_meeting c.cell d.cell c.t d.t c.ty d.ty together.0 ∙ sym d.is), together.1)

-- the value of a bit's variable is that of the bit in the cell
pub value_of_bit : (q : Query) (truths : List Bool) (values : List ℤ) (c j v : ℕ) (t : IntType)
    → store_at q.cells (first_bits q) truths ≡ values
    → IsBitAt q.cells (first_bits q) c t j v
    → slice_index_or truths v false ≡ bit_of j (slice_index_or values c (pos 0))
value_of_bit q truths values c j v t gives is =
    sym (bits_are_variables.own q.cells (first_bits q) truths c j v t is)
    ∙ ap (λ s. bit_of j (slice_index_or s c (pos 0))) gives
