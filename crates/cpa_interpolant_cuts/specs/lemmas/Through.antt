-- The models of a cut's joined formula are the runs of stores through the cut.
use Rattle.std.proofs.Common.{◌≡◌, ℕ, zero, suc, ◌+◌, ◌*◌, ◌<◌, Bool, false, ℤ}
use Rattle.std.proofs.Common.{pos, List, [], ◌∷◌, ◌++◌, take, length, Option, Some, slice_get}
use Rattle.std.proofs.Common.{refl, sym, ap, ◌∙◌, subst, arith}
use Rattle.std.specs.Prelude.{slice_index_or}
use Rattle.std.specs.List.{AllZip}
use Rattle.std.proofs.lemmas.List.{length-map, get_or-take}
use Rattle.std.proofs.lemmas.Option.{slice_get_within}
use Rattle.std.proofs.lemmas.Slice.Zip.{AllZip-long}
use Rattle.cpa_ints.specs.declared.integers.IntType.{IntType}
use Rattle.cpa_ints.specs.declared.integers.IntType.TheVariants as ty
use Rattle.cpa_ints.specs.Integers.{width, IsInRange}
use Rattle.cpa_ints.specs.Wrapping.{wrapped}
use Rattle.cpa_cnf.specs.Models.{IsModel as IsTruth}
use Rattle.cpa_expr.specs.declared.tree.Expr.{Expr}
use Rattle.cpa_blast_gates.specs.Gates.{lit_value}
use Rattle.cpa_blast_gates.specs.Clauses.{assigned}
use Rattle.cpa_blast_gates.specs.Laws.{literals_have_values}
use Rattle.cpa_blast_words.specs.Truths.{values as values_of, number}
use Rattle.cpa_blast_circuits.specs.Laws.{CircuitsHaveValues}
use Rattle.cpa_blast_circuits.specs.lemmas.Facts.{same_some}
use Rattle.cpa_model.specs.declared.program.Cell.{Cell}
use Rattle.cpa_model.specs.declared.automaton.Act.{Act}
use Rattle.cpa_model.specs.declared.automaton.Cfa.{Cfa}
use Rattle.cpa_model.specs.Expressions.{types_of}
use Rattle.cpa_query.specs.Queries.{IsModel}
use Rattle.cpa_blast.specs.Formulas.{formula, first_bits, variables_from, value_at, store_at}
use Rattle.cpa_blast.specs.Laws.{formulas_are, formulas_below}
use Rattle.cpa_form_rules.specs.Runs.{Runs}
use Rattle.cpa_form_rules.specs.Forms.{Form, place_now, first_store, last_store, inputs_at}
use Rattle.cpa_form_rules.specs.Laws.{IsFormOf}
use Rattle.cpa_form_rules.specs.Additions.{adding_goes_on}
use Rattle.cpa_interpolant_joining.specs.Joining.{Agree, named_or, seen}
use Rattle.cpa_interpolant_bits.specs.Bits.{bit_of}
use Rattle.cpa_interpolant_joining.specs.Laws.{AreParts as AreFormulas, parts_have_models}
use Rattle.cpa_interpolant_joining.specs.lemmas.Literals.{seen_at}
use Rattle.cpa_interpolant_names.specs.declared.gathering.Meeting.{Meeting}
use Rattle.cpa_interpolant_names.specs.Meetings.{names_of}
use Rattle.cpa_interpolant_names.specs.Laws.{names_are_bits}
use Rattle.cpa_interpolant_rules.specs.Stores.{IsStore}
use Rattle.cpa_interpolant_rules.specs.Parts.{added_before, added_behind}
use Rattle.cpa_interpolant_cuts.specs.Cuts.{meetings_of, formula_of}
use Rattle.cpa_interpolant_cuts.specs.lemmas.Meet.{AreParts, at, cell_of, one_at, before_bit}
use Rattle.cpa_interpolant_cuts.specs.lemmas.Meet.{behind_bit, behind_apart, value_of_bit}
use Rattle.cpa_interpolant_cuts.specs.lemmas.Asked.{names_low}
use Rattle.cpa_interpolant_cuts.specs.lemmas.Next.{get_taken, same_index}

-- ---- lists

same_lists : (xs ys : List ℤ) → length xs ≡ length ys
    → ((c : ℕ) → c < length xs → slice_get xs c ≡ slice_get ys c) → xs ≡ ys
same_lists [] [] long each = refl
same_lists [] (y ∷ ys) long each = absurd (omega (arith, long))
same_lists (x ∷ xs) [] long each = absurd (omega (arith, long))
same_lists (x ∷ xs) (y ∷ ys) long each =
    ap (λ v. v ∷ xs) (same_some x y (each 0 (omega arith)))
    ∙ ap (λ vs. y ∷ vs) (same_lists xs ys (omega (arith, long))
    (λ c h. each (suc c) (omega (arith, h))))

zip_from : (ts : List IntType) (vs : List ℤ) → length ts ≡ length vs
    → ((c : ℕ) (t : IntType) (v : ℤ) → slice_get ts c ≡ Some t → slice_get vs c ≡ Some v
    → IsInRange t v) → AllZip IsInRange ts vs
zip_from [] [] long each = tt
zip_from [] (v ∷ vs) long each = absurd (omega (arith, long))
zip_from (t ∷ ts) [] long each = absurd (omega (arith, long))
zip_from (t ∷ ts) (v ∷ vs) long each =
    (each 0 t v refl refl, zip_from ts vs (omega (arith, long)) (λ c. each (suc c)))

zip_at : (ts : List IntType) (vs : List ℤ) (c : ℕ) (t : IntType) (v : ℤ)
    → AllZip IsInRange ts vs → slice_get ts c ≡ Some t → slice_get vs c ≡ Some v → IsInRange t v
zip_at [] vs c t v all is at = absurd (cc)
zip_at (u ∷ ts) [] c t v all is at = absurd all
zip_at (u ∷ ts) (w ∷ vs) zero t v all is at =
    subst (λ x. IsInRange x v) (same_some u t is)
    (subst (IsInRange u) (same_some w v at) all.0)
zip_at (u ∷ ts) (w ∷ vs) (suc c) t v all is at = zip_at ts vs c t v all.1 is at

type_there : (cells : List Cell) (c : ℕ) → c < length cells
    → (t : IntType) × (slice_get (types_of cells) c ≡ Some t)
type_there [] c h = absurd (omega (arith, h))
type_there (cell ∷ cells) zero h = (cell.ty, refl)
type_there (cell ∷ cells) (suc c) h = type_there cells c (omega (arith, h))

-- ---- words

pub some_width : (t : IntType) → 0 < width t
some_width ty.Bool = omega arith
some_width ty.I8 = omega arith
some_width ty.U8 = omega arith
some_width ty.I16 = omega arith
some_width ty.U16 = omega arith
some_width ty.I32 = omega arith
some_width ty.U32 = omega arith
some_width ty.I64 = omega arith
some_width ty.U64 = omega arith

-- variables with the same values, one after the other, are the same word
same_word : (m k : ℕ → Bool) (n a b : ℕ) → ((j : ℕ) → j < n → m (a + j) ≡ k (b + j))
    → values_of m (variables_from a n) ≡ values_of k (variables_from b n)
same_word m k zero a b same = refl
same_word m k (suc n) a b same =
    let here : lit_value m (2 * a) ≡ lit_value k (2 * b) =
    literals_have_values.positive m a
    ∙ (ap m (none a) ∙ (same 0 (omega arith) ∙ ap k (sym (none b))))
    ∙ sym (literals_have_values.positive k b) in
    ap (λ v. v ∷ values_of m (variables_from (a + 1) n)) here
    ∙ ap (λ vs. lit_value k (2 * b) ∷ vs) (same_word m k n (a + 1) (b + 1)
    (λ j h. ap m (next a j) ∙ (same (suc j) (omega (arith, h)) ∙ ap k (sym (next b j)))))
  where
    none : (i : ℕ) → i ≡ i + 0
    none i = omega arith

    next : (i j : ℕ) → i + 1 + j ≡ i + suc j
    next i j = omega arith

cell_in : (cells : List IntType) (firsts : List ℕ) (truths : List Bool) (c first : ℕ)
    (t : IntType) → slice_get cells c ≡ Some t → slice_get firsts c ≡ Some first
    → slice_get (store_at cells firsts truths) c ≡ Some (value_at t first truths)
cell_in [] firsts truths c first t is at = absurd (cc)
cell_in (u ∷ cells) [] truths c first t is at = absurd (cc)
cell_in (u ∷ cells) (f ∷ firsts) truths zero first t is at =
    ap (λ k. Some (value_at k f truths)) (same_some u t is)
    ∙ ap (λ k. Some (value_at t k truths)) (same_some f first at)
cell_in (u ∷ cells) (f ∷ firsts) truths (suc c) first t is at =
    cell_in cells firsts truths c first t is at

module _ (circuits : CircuitsHaveValues) (cfa : Cfa) (e : Expr) (a : Act) (acts : List Act)
    (A B : Form) (form_before : IsFormOf cfa false (added_before e a) A)
    (form_behind : IsFormOf cfa false (added_behind acts) B)
    (are : AreParts cfa.cells A B) (long_before : length A.places ≡ length cfa.cells) where
  abbrev cells : List Cell
  cells = cfa.cells

  abbrev all : List Meeting
  all = meetings_of cells A B

  abbrev given : List (Option ℕ)
  given = names_of (formula B.query).vars all

  types_long : length (types_of cells) ≡ length cells
  types_long = length-map cells (λ (c : Cell). c.ty)

  -- ---- from a model to a run

  module _ (truths : List Bool) (is : IsTruth (formula_of cells A B) truths) where
    abbrev first_truths : List Bool
    first_truths = take (formula A.query).vars truths

    abbrev second_truths : List Bool
    second_truths = seen (formula A.query).vars given (formula B.query).vars truths

    abbrev first_values : List ℤ
    first_values = store_at A.query.cells (first_bits A.query) first_truths

    abbrev second_values : List ℤ
    second_values = store_at B.query.cells (first_bits B.query) second_truths

    parts : IsTruth (formula A.query) first_truths × IsTruth (formula B.query) second_truths
    parts =
        let below : AreFormulas (formula A.query) (formula B.query) = record {
          first_below = (formulas_below circuits).literals A.query are.before;
          second_below = (formulas_below circuits).literals B.query are.behind;
        } in (
          parts_have_models.first (formula A.query) (formula B.query) given truths below is,
          parts_have_models.second (formula A.query) (formula B.query) given truths below is,
        )

    first_model : IsModel A.query first_values
    first_model = (formulas_are circuits).sound A.query first_truths are.before parts.0

    second_model : IsModel B.query second_values
    second_model = (formulas_are circuits).sound B.query second_truths are.behind parts.1

    same_bits : (c : ℕ) (t : IntType) → slice_get (types_of cells) c ≡ Some t → (j : ℕ)
        → j < width t
        → assigned first_truths ((at circuits cells A B are c t).before + j)
        ≡ assigned second_truths ((at circuits cells A B are c t).behind + j)
    same_bits c t is_ty j below =
        let m = at circuits cells A B are c t in
        let one = before_bit circuits cells A B are c t j is_ty below in
        let two = behind_bit circuits cells A B are c t j is_ty below in
        let high = one.1 in
        let up = two.1 in
        let name = names_are_bits.named (formula B.query).vars all m j
        (behind_apart circuits cells A B are) (one_at circuits cells A B are c t is_ty) below
        (omega (arith, up, below)) in
        get_or-take (formula A.query).vars truths (m.before + j) false (omega (arith, high, below))
        ∙ sym (seen_at (formula A.query).vars given (formula B.query).vars (m.behind + j) truths
        (omega (arith, up, below))
        ∙ ap (λ o. slice_index_or truths (named_or o ((formula A.query).vars + (m.behind + j)))
        false) name)

    same_cell : (c : ℕ) (t : IntType) → slice_get (types_of cells) c ≡ Some t
        → slice_get first_values (place_now A c) ≡ slice_get second_values c
    same_cell c t is_ty =
        let m = at circuits cells A B are c t in
        let one = (before_bit circuits cells A B are c t 0 is_ty (some_width t)).0 in
        let two = (behind_bit circuits cells A B are c t 0 is_ty (some_width t)).0 in
        let own = one.is in
        let other = two.is in
        let first_is : one.first ≡ m.before = omega (arith, own) in
        let second_is : two.first ≡ m.behind = omega (arith, other) in
        cell_in A.query.cells (first_bits A.query) first_truths (place_now A c) one.first t one.ty
        one.at
        ∙ (ap (λ k. Some (value_at t k first_truths)) first_is
        ∙ (ap (λ ws. Some (wrapped t (pos (number ws))))
        (same_word (assigned first_truths) (assigned second_truths) (width t) m.before m.behind
        (same_bits c t is_ty))
        ∙ (ap (λ k. Some (value_at t k second_truths)) (sym second_is)
        ∙ sym (cell_in B.query.cells (first_bits B.query) second_truths c two.first t two.ty
        two.at))))

    meets : last_store A first_values ≡ first_store B second_values
    meets =
        let begins = form_behind.begins second_values second_model in
        let behind_long = AllZip-long IsInRange (types_of cells) (first_store B second_values)
        begins in
        let before_long = length-map A.places _ in
        same_lists (last_store A first_values) (first_store B second_values)
        (before_long ∙ (long_before ∙ (sym types_long ∙ sym behind_long)))
        (λ c h.
        let inside : c < length cells = omega (arith, h, before_long, long_before) in
        let t = type_there cells c inside in
        sym (form_before.place first_values c first_model inside)
        ∙ (same_cell c t.0 t.1
        ∙ sym (get_taken (length B.places) second_values c
        (omega (arith, inside, types_long, behind_long)))))

    pub through : (first inputs last : List ℤ) × IsStore cells first
        × Runs cells (added_before e a ++ added_behind acts) first inputs last
    through =
        let run = form_before.run first_values first_model in
        let rest = form_behind.run second_values second_model in
        let first = first_store A first_values in
        let own = inputs_at A first_values in
        let others = inputs_at B second_values in
        let last = last_store B second_values in (
          first,
          own ++ others,
          last,
          form_before.begins first_values first_model,
          (adding_goes_on.runs cells (added_before e a) (added_behind acts) first (own ++ others)
              last).1 (
                last_store A first_values,
                own,
                others,
                run,
                refl,
                subst (λ s. Runs cells (added_behind acts) s others last) (sym meets) rest,
              ),
        )

  -- ---- from a run to a model

  pub modelled : (first inputs last : List ℤ) → IsStore cells first
      → Runs cells (added_before e a ++ added_behind acts) first inputs last
      → (truths : List Bool) × IsTruth (formula_of cells A B) truths
  modelled first inputs last begins run =
      let cut = (adding_goes_on.runs cells (added_before e a) (added_behind acts) first inputs
      last).0 run in
      let between = cut.0 in
      let before = form_before.model first cut.1 between begins cut.3 in
      let values = before.0 in
      let values_are = before.1 in
      let last_long = ap length before.4 in
      let before_long = length-map A.places (λ place. place.number) in
      let here : length (last_store A values) ≡ length A.places = length-map A.places _ in
      let store : IsStore cells between =
      zip_from (types_of cells) between
      (types_long ∙ (sym long_before ∙ (sym here ∙ last_long)))
      (λ c t v is_ty at_v.
      let inside = slice_get_within (types_of cells) c t is_ty in
      zip_at A.query.cells values (place_now A c) t v values_are.values_are
      (are.ty c t is_ty)
      (form_before.place values c values_are (omega (arith, inside, types_long))
      ∙ (ap (λ s. slice_get s c) before.4 ∙ at_v))) in
      let behind = form_behind.model between cut.2 last store cut.5 in
      let others = behind.0 in
      let one = (formulas_are circuits).complete A.query values are.before values_are in
      let two = (formulas_are circuits).complete B.query others are.behind behind.1 in
      let agree : Agree given one.0 two.0 =
      λ v name named.
      let found = names_are_bits.name (formula B.query).vars all v name named in
      let m = found.0 in
      let j = found.1 in
      let c = cell_of circuits cells A B are m found.2 in
      let inside : j < width c.t = subst (λ (u : Meeting). j < width u.ty) c.is found.3 in
      let low = before_bit circuits cells A B are c.cell c.t j c.ty inside in
      let high = behind_bit circuits cells A B are c.cell c.t j c.ty inside in
      let count = AllZip-long IsInRange (types_of cells) between store in
      let c_in = c.inside in
      let begun : slice_get others c.cell ≡ slice_get between c.cell =
      sym (get_taken (length B.places) others c.cell
      (subst (λ (s : List ℤ). c.cell < length s) (sym behind.2)
      (omega (arith, count, types_long, c_in))))
      ∙ ap (λ s. slice_get s c.cell) behind.2 in
      let ended : slice_get values (place_now A c.cell) ≡ slice_get between c.cell =
      form_before.place values c.cell values_are c.inside
      ∙ ap (λ s. slice_get s c.cell) before.4 in
      ap (λ k. slice_index_or two.0 k false)
      (found.4 ∙ ap (λ (u : Meeting). u.behind + j) c.is)
      ∙ (value_of_bit B.query two.0 others c.cell j _ c.t two.1.gives high.0
      ∙ (ap (bit_of j) (same_index others values c.cell (place_now A c.cell)
      (begun ∙ sym ended))
      ∙ (sym (value_of_bit A.query one.0 values (place_now A c.cell) j _ c.t one.1.gives low.0)
      ∙ ap (λ k. slice_index_or one.0 k false)
      (sym (found.5 ∙ ap (λ (u : Meeting). u.before + j) c.is))))) in (
        one.0 ++ two.0,
        parts_have_models.both (formula A.query) (formula B.query) given one.0 two.0 (record {
          first_below = (formulas_below circuits).literals A.query are.before;
          second_below = (formulas_below circuits).literals B.query are.behind;
        }) (names_low circuits cells A B are) agree one.1.model two.1.model,
      )
