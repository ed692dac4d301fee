-- Cells that are copied so that arrays stand in one piece.
use Rattle.std.proofs.Common.{◌≡◌, ℕ, zero, suc, ◌+◌, ◌<◌, ◌≤◌, ℤ, Bool, true, false, IsTrue, List}
use Rattle.std.proofs.Common.{[], ◌∷◌, ◌++◌, map, length, Some, slice_get, refl, sym, ap, ◌∙◌}
use Rattle.std.proofs.Common.{subst, arith, pos, get_or, zero-add}
use Rattle.std.specs.Prelude.{if◌then◌else◌}
use Rattle.std.specs.List.{AllByRecursion, AllZip, list_all, range_with_len}
use Rattle.std.proofs.lemmas.Bool.{and_parts}
use Rattle.std.proofs.lemmas.List.{length-append, length-map}
use Rattle.std.proofs.lemmas.List.FromFn.{length-map-range_with_len}
use Rattle.std.proofs.lemmas.Option.{slice_get_within, slice_get-get_or}
use Rattle.cpa_ints.specs.declared.integers.IntType.{IntType}
use Rattle.cpa_expr.specs.declared.tree.Expr.{Expr}
use Rattle.cpa_expr.specs.Shape.{type_of, IsTyped}
use Rattle.cpa_expr.specs.Values.{value_of}
use Rattle.cpa_expr.specs.Cells.{may_read, scalar_read}
use Rattle.cpa_expr.specs.Laws.{a_scalar_is_its_cell}
use Rattle.cpa_query.specs.declared.query.Query.{Query}
use Rattle.cpa_query.specs.Queries.{IsModel, wanted_reads, reads}
use Rattle.cpa_form_renaming.specs.declared.places.Place.{Place}
use Rattle.cpa_form_renaming.specs.Places.{number_at, Shows}
use Rattle.cpa_form_renaming.specs.Renaming.{is_whole}
use Rattle.cpa_form_renaming.specs.Laws.{renaming_keeps_meanings, cells_behind_change_nothing}
use Rattle.cpa_form_renaming.specs.lemmas.Together.{together_from}
use Rattle.cpa_form_renaming.specs.lemmas.Longer.{get_front}
use Rattle.cpa_expr.specs.lemmas.CellsRead.{or_left, or_right}
use Rattle.cpa_form_rules.specs.declared.drafts.Draft.{Draft}
use Rattle.cpa_form_rules.specs.Drafts.{next, behind, named, Placed, placed, place_at}
use Rattle.cpa_form_rules.specs.Drafts.{with_place}
use Rattle.cpa_form_rules.specs.Drafts.{copied, asked_of, settled}
use Rattle.cpa_form_rules.specs.lemmas.Lists.{Front, front_itself, front_of_front}
use Rattle.cpa_form_rules.specs.lemmas.Models.{Fine, all_cells, model_long, scalar_fits}
use Rattle.cpa_form_rules.specs.lemmas.Models.{cells_more}
use Rattle.cpa_form_rules.specs.lemmas.Models.{fresh_type, fresh_value, fine_named, named_back}
use Rattle.cpa_form_rules.specs.lemmas.Models.{named_forth}

-- each place is a cell of its type
abbrev pub Stand : List IntType → List Place → Type 0
Stand cells places = AllByRecursion (λ p. slice_get cells p.number ≡ Some p.ty) places

abbrev pub types_at : List Place → List IntType
types_at = map (λ p. p.ty)

-- the new places have the values that the old ones had
abbrev pub SameAt : List ℤ → List ℤ → List Place → List Place → Type 0
SameAt old values = AllZip (λ p r. slice_get values r.number ≡ slice_get old p.number)

pub stand_more : (cells more : List IntType) (places : List Place) → Stand cells places
    → Stand (cells ++ more) places
stand_more cells more [] h = tt
stand_more cells more (p ∷ places) h = (
  get_front cells more p.number (slice_get_within cells p.number p.ty h.0) ∙ h.0,
  stand_more cells more places h.1,
)

pub stand_front : (cells longer : List IntType) (places : List Place) → Front cells longer
    → Stand cells places → Stand longer places
stand_front cells longer places front h =
    subst (λ cs. Stand cs places) (sym front.1) (stand_more cells front.0 places h)

-- an item that is there stays there
pub get_in_front : {A : Type 0} (xs zs : List A) (i : ℕ) → Front xs zs → i < length xs
    → slice_get zs i ≡ slice_get xs i
get_in_front xs zs i front h =
    ap (λ l. slice_get l i) front.1 ∙ get_front xs front.0 i h

pub same_front : (cells : List IntType) (places : List Place) (old values : List ℤ)
    → Stand cells places → length old ≡ length cells → Front old values
    → SameAt old values places places
same_front cells [] old values h long front = tt
same_front cells (p ∷ places) old values h long front = (
  get_in_front old values p.number front
      (subst (λ n. p.number < n) (sym long) (slice_get_within cells p.number p.ty h.0)),
  same_front cells places old values h.1 long front,
)

pub same_then : (old mid values : List ℤ) (ps rs ts : List Place) → SameAt old mid ps rs
    → SameAt mid values rs ts → SameAt old values ps ts
same_then old mid values [] [] [] h k = tt
same_then old mid values [] [] (t ∷ ts) h k = absurd k
same_then old mid values [] (r ∷ rs) ts h k = absurd h
same_then old mid values (p ∷ ps) [] ts h k = absurd h
same_then old mid values (p ∷ ps) (r ∷ rs) [] h k = absurd k
same_then old mid values (p ∷ ps) (r ∷ rs) (t ∷ ts) h k =
    (k.0 ∙ h.0, same_then old mid values ps rs ts h.1 k.1)

-- what places show of values and of types
pub same_number : (old values : List ℤ) (ps rs : List Place) (cell : ℕ) → SameAt old values ps rs
    → cell < length rs
    → slice_get values (number_at rs cell) ≡ slice_get old (number_at ps cell)
same_number old values [] [] cell h below = absurd (omega (arith, below))
same_number old values [] (r ∷ rs) cell h below = absurd h
same_number old values (p ∷ ps) [] cell h below = absurd h
same_number old values (p ∷ ps) (r ∷ rs) zero h below = h.0
same_number old values (p ∷ ps) (r ∷ rs) (suc cell) h below =
    same_number old values ps rs cell h.1 (omega (arith, below))

same_long : (old values : List ℤ) (ps rs : List Place) → SameAt old values ps rs
    → length rs ≡ length ps
same_long old values [] [] h = refl
same_long old values [] (r ∷ rs) h = absurd h
same_long old values (p ∷ ps) [] h = absurd h
same_long old values (p ∷ ps) (r ∷ rs) h = ap suc (same_long old values ps rs h.1)

pub shows_same : (old values store : List ℤ) (ps rs : List Place) → SameAt old values ps rs
    → Shows ps old store → Shows rs values store
shows_same old values store ps rs h shows = record {
  long = shows.long ∙ sym (same_long old values ps rs h);
  at = λ cell below. same_number old values ps rs cell h below
      ∙ shows.at cell (subst (λ n. cell < n) (same_long old values ps rs h) below);
}

each_type : (cells : List IntType) (ps : List Place) → Stand cells ps → (cell : ℕ)
    → cell < length ps → slice_get cells (number_at ps cell) ≡ slice_get (types_at ps) cell
each_type cells [] h cell below = absurd (omega (arith, below))
each_type cells (p ∷ ps) h zero below = h.0
each_type cells (p ∷ ps) h (suc cell) below = each_type cells ps h.1 cell (omega (arith, below))

pub shows_types : (cells : List IntType) (places : List Place) → Stand cells places
    → Shows places cells (types_at places)
shows_types cells places h = record {
  long = length-map places (λ p. p.ty);
  at = each_type cells places h;
}

-- ---- the copies

-- what a step from some places and a draft to others keeps
pub record Replaces (q : Query) (d : Draft) (places : List Place) (at : Placed) : Type 0 where
  pub fine : Fine q at.draft
  pub stand : Stand (all_cells q at.draft) at.places
  pub types : types_at at.places ≡ types_at places
  pub longer : Front (all_cells q d) (all_cells q at.draft)
  pub back : (values : List ℤ) → IsModel (behind q at.draft) values
      → (old : List ℤ) × Front old values × IsModel (behind q d) old
      × SameAt old values places at.places
  pub forth : (old : List ℤ) → IsModel (behind q d) old
      → (values : List ℤ) × Front old values × IsModel (behind q at.draft) values
      × SameAt old values places at.places

pub nothing_replaced : (q : Query) (d : Draft) (places : List Place) → Fine q d
    → Stand (all_cells q d) places → Replaces q d places (placed d places)
nothing_replaced q d places fine stand = record {
  fine = fine;
  stand = stand;
  types = refl;
  longer = front_itself (all_cells q d);
  back = λ values is. (
    values,
    front_itself values,
    is,
    same_front (all_cells q d) places values
        values stand (model_long (behind q d) values is) (front_itself values),
  );
  forth = λ old is. (
    old,
    front_itself old,
    is,
    same_front (all_cells q d) places old old stand
        (model_long (behind q d) old is) (front_itself old),
  );
}

module _ (q : Query) where
  -- one place stays, the others as they come
  kept_place : (d : Draft) (p : Place) (places : List Place) (at : Placed)
      → slice_get (all_cells q d) p.number ≡ Some p.ty → Replaces q d places at
      → Replaces q d (p ∷ places) (with_place p at)
  kept_place d p places at here rest = record {
    fine = rest.fine;
    stand = (
      get_in_front (all_cells q d) (all_cells q at.draft) p.number rest.longer
          (slice_get_within (all_cells q d) p.number p.ty here) ∙ here,
      rest.stand,
    );
    types = ap (λ ts. p.ty ∷ ts) rest.types;
    longer = rest.longer;
    back = λ values is.
        let found = rest.back values is in
        (found.0, found.1, found.2, (head found.0 values found.2 found.1, found.3));
    forth = λ old is.
        let found = rest.forth old is in
        (found.0, found.1, found.2, (head old found.0 is found.1, found.3));
  }
    where
      head : (old values : List ℤ) → IsModel (behind q d) old → Front old values
          → slice_get values p.number ≡ slice_get old p.number
      head old values is front =
          get_in_front old values p.number front
          (subst (λ n. p.number < n) (sym (model_long (behind q d) old is))
          (slice_get_within (all_cells q d) p.number p.ty here))

  -- one place moves to a new cell
  copied_place : (d : Draft) (p : Place) (places : List Place) (at : Placed) → Fine q d
      → Stand (all_cells q d) (p ∷ places)
      → Replaces q (named (scalar_read p.ty p.number) d) places at
      → Replaces q d (p ∷ places) (with_place (place_at (next d) p.ty) at)
  copied_place d p places at fine stand rest =
      let e = scalar_read p.ty p.number in
      let fit = scalar_fits (all_cells q d) p.ty p.number stand.0 in
      let t_is = a_scalar_is_its_cell.ty p.ty p.number in
      let more : Front (all_cells q d) (all_cells q (named e d)) =
      (type_of e ∷ [], cells_more q d (type_of e) fine) in
      let there : slice_get (all_cells q (named e d)) (next d) ≡ Some p.ty =
      fresh_type q d (type_of e) fine ∙ ap Some t_is in
      record {
        fine = rest.fine;
        stand = (
          get_in_front (all_cells q (named e d)) (all_cells q at.draft) (next d) rest.longer
              (slice_get_within (all_cells q (named e d)) (next d) p.ty there) ∙ there,
          rest.stand,
        );
        types = ap (λ ts. p.ty ∷ ts) rest.types;
        longer = front_of_front (all_cells q d) (all_cells q (named e d)) (all_cells q at.draft)
            more rest.longer;
        back = λ values is.
            let found = rest.back values is in
            let first = named_back q d e fine fit found.0 found.2 in
            let front : Front first.0 found.0 = (first.1 ∷ [], first.2) in (
              first.0,
              front_of_front first.0 found.0 values front found.1,
              first.3,
              both first.0 first.1 found.0 values first.2 first.3 first.4 found.2 found.1 found.3,
            );
        forth = λ old is.
            let value = number_there old is in
            let mid = old ++ value.0 ∷ [] in
            let first = named_forth q d e fine fit old value.0 is value.1 in
            let found = rest.forth mid first in (
              found.0,
              front_of_front old mid found.0 (value.0 ∷ [], refl) found.1,
              found.2,
              both old value.0 mid found.0 refl is value.1 first found.1 found.3,
            );
      }
    where
      number_there : (old : List ℤ) → IsModel (behind q d) old
          → (v : ℤ) × (value_of (scalar_read p.ty p.number) old ≡ Some v)
      number_there old is = (
        get_or old p.number (pos 0),
        a_scalar_is_its_cell.value p.ty p.number old
            ∙ slice_get-get_or old p.number (pos 0)
            (subst (λ n. p.number < n) (sym (model_long (behind q d) old is))
            (slice_get_within (all_cells q d) p.number p.ty stand.0)),
      )

      both : (old : List ℤ) (v : ℤ) (mid values : List ℤ) → mid ≡ old ++ v ∷ []
          → IsModel (behind q d) old → value_of (scalar_read p.ty p.number) old ≡ Some v
          → IsModel (behind q (named (scalar_read p.ty p.number) d)) mid → Front mid values
          → SameAt mid values places at.places
          → SameAt old values (p ∷ places) (place_at (next d) p.ty ∷ at.places)
      both old v mid values made is value mid_is front same = (
        get_in_front mid values (next d) front (slice_get_within mid (next d) v at_mid)
            ∙ (at_mid ∙ sym (sym (a_scalar_is_its_cell.value p.ty p.number old) ∙ value)),
        same_then old mid values places places at.places
            (same_front (all_cells q d) places old mid stand.1 (model_long (behind q d) old is)
            (v ∷ [], made)) same,
      )
        where
          at_mid : slice_get mid (next d) ≡ Some v
          at_mid = ap (λ l. slice_get l (next d)) made
              ∙ fresh_value q d (type_of (scalar_read p.ty p.number)) fine old v is

  pub copied_is : (marks : List Bool) (places : List Place) (d : Draft)
      → length marks ≡ length places
      → Fine q d → Stand (all_cells q d) places → Replaces q d places (copied marks places d)
  copied_is [] [] d long fine stand = nothing_replaced q d [] fine stand
  copied_is [] (p ∷ places) d long fine stand = absurd (omega (arith, long))
  copied_is (mark ∷ marks) [] d long fine stand = absurd (omega (arith, long))
  copied_is (true ∷ marks) (p ∷ places) d long fine stand =
      copied_place d p places (copied marks places (named (scalar_read p.ty p.number) d)) fine stand
      (copied_is marks places (named (scalar_read p.ty p.number) d) (omega (arith, long))
      (fine_named q d (scalar_read p.ty p.number) fine
      (scalar_fits (all_cells q d) p.ty p.number stand.0))
      (stand_front (all_cells q d) (all_cells q (named (scalar_read p.ty p.number) d)) places (
        type_of (scalar_read p.ty p.number) ∷ [],
        cells_more q d (type_of (scalar_read p.ty p.number)) fine,
      ) stand.1))
  copied_is (false ∷ marks) (p ∷ places) d long fine stand =
      kept_place d p places (copied marks places d) stand.0
      (copied_is marks places d (omega (arith, long)) fine stand.1)

-- ---- runs of copies

-- the first ones stand one behind the other
run_first : (marks : List Bool) (places : List Place) (d : Draft) (i : ℕ)
    → length marks ≡ length places → ((k : ℕ) → k ≤ i → slice_get marks k ≡ Some true)
    → number_at (copied marks places d).places i ≡ next d + i
run_first [] places d i long all = let none = all 0 (omega arith) in absurd (cc)
run_first (false ∷ marks) places d i long all = let none = all 0 (omega arith) in absurd (cc)
run_first (true ∷ marks) [] d i long all = absurd (omega (arith, long))
run_first (true ∷ marks) (p ∷ places) d zero long all = omega arith
run_first (true ∷ marks) (p ∷ places) d (suc i) long all =
    run_first marks places (named (scalar_read p.ty p.number) d) i (omega (arith, long))
    (λ k below. all (suc k) (omega (arith, below)))
    ∙ further
  where
    one_more : {A : Type 0} (xs : List A) (x : A) (n i : ℕ)
        → (n + length (xs ++ x ∷ [])) + i ≡ (n + length xs) + suc i
    one_more xs x n i = let is = length-append xs (x ∷ []) in omega (arith, is)

    further : next (named (scalar_read p.ty p.number) d) + i ≡ next d + suc i
    further = one_more d.cells (type_of (scalar_read p.ty p.number)) d.first i

pub run_stands : (marks : List Bool) (places : List Place) (d : Draft) (base i : ℕ)
    → length marks ≡ length places
    → ((k : ℕ) → k ≤ i → slice_get marks (base + k) ≡ Some true)
    → number_at (copied marks places d).places (base + i)
    ≡ number_at (copied marks places d).places base + i
run_stands marks places d zero i long all =
    ap (number_at (copied marks places d).places) (zero-add i)
    ∙ (run_first marks places d i long (λ k below. from k (all k below))
    ∙ ap (λ n. n + i) (sym (run_first marks places d 0 long (λ k below.
    from k (all k (omega (arith, below)))) ∙ nothing (next d))))
  where
    from : (k : ℕ) → slice_get marks (0 + k) ≡ Some true → slice_get marks k ≡ Some true
    from k is = ap (slice_get marks) (sym (zero-add k)) ∙ is

    nothing : (n : ℕ) → n + 0 ≡ n
    nothing n = omega arith
run_stands [] places d (suc base) i long all = let none = all 0 (omega arith) in absurd (cc)
run_stands (mark ∷ marks) [] d (suc base) i long all = absurd (omega (arith, long))
run_stands (true ∷ marks) (p ∷ places) d (suc base) i long all =
    ap (number_at (copied (true ∷ marks) (p ∷ places) d).places) (shift base i)
    ∙ run_stands marks places (named (scalar_read p.ty p.number) d) base i (omega (arith, long))
    (λ k upto. ap (slice_get (true ∷ marks)) (sym (shift base k)) ∙ all k upto)
  where
    shift : (b i : ℕ) → suc b + i ≡ suc (b + i)
    shift b i = omega arith
run_stands (false ∷ marks) (p ∷ places) d (suc base) i long all =
    ap (number_at (copied (false ∷ marks) (p ∷ places) d).places) (shift base i)
    ∙ run_stands marks places d base i (omega (arith, long))
    (λ k upto. ap (slice_get (false ∷ marks)) (sym (shift base k)) ∙ all k upto)
  where
    shift : (b i : ℕ) → suc b + i ≡ suc (b + i)
    shift b i = omega arith

-- ---- settled places

mark_of : (f : ℕ → Bool) (a n i : ℕ) → i < n → IsTrue (f (a + i))
    → slice_get (map f (range_with_len a n)) i ≡ Some true
mark_of f a zero i below is = absurd (omega (arith, below))
mark_of f a (suc n) zero below is = ap Some (ap f (first a) ∙ is)
  where
    first : (a : ℕ) → a ≡ a + 0
    first a = omega arith
mark_of f a (suc n) (suc i) below is =
    mark_of f (a + 1) n i (omega (arith, below)) (ap f (moved a i) ∙ is)
  where
    moved : (a i : ℕ) → (a + 1) + i ≡ a + suc i
    moved a i = omega arith

pub record IsSettled (q : Query) (d : Draft) (asked : List (Expr × Bool)) (places : List Place)
    (at : Placed) : Type 0 where
  pub replaces : Replaces q d places at
  pub whole : AllByRecursion (λ one. IsTrue (is_whole at.places one.0)) asked

all_whole : (places : List Place) (asked : List (Expr × Bool))
    → list_all (λ (one : Expr × Bool). is_whole places one.0) asked ≡ true
    → AllByRecursion (λ (one : Expr × Bool). IsTrue (is_whole places one.0)) asked
all_whole places [] h = tt
all_whole places (one ∷ asked) h =
    let both = and_parts (is_whole places one.0)
    (list_all (λ (other : Expr × Bool). is_whole places other.0) asked) h in
    (both.0, all_whole places asked both.1)

module _ (q : Query) (d : Draft) (places : List Place) (fine : Fine q d)
    (stand : Stand (all_cells q d) places) (whole_list : List (Expr × Bool)) where
  abbrev marks : List Bool
  marks = reads (asked_of places whole_list)

  abbrev new : List Place
  new = (copied marks places d).places

  marks_long : length marks ≡ length places
  marks_long =
      length-map-range_with_len (wanted_reads whole_list) 0 (length (types_at places))
      ∙ length-map places (λ p. p.ty)

  -- an expression whose reads are marked is whole
  marked_whole : (e : Expr) → IsTyped (types_at places) e
      → ((cell : ℕ) → IsTrue (may_read e cell) → IsTrue (wanted_reads whole_list cell))
      → IsTrue (is_whole new e)
  marked_whole e typed all =
      renaming_keeps_meanings.whole new e (λ base len read.
      together_from new base len (λ i below.
      run_stands marks places d base i marks_long (λ k upto.
      mark_of (wanted_reads whole_list) 0 (length (types_at places)) (base + k)
      (cells_behind_change_nothing.inside (types_at places) (base + k) e typed
      (read k (omega (arith, below, upto))))
      (ap (wanted_reads whole_list) (zero-add (base + k))
      ∙ all (base + k) (read k (omega (arith, below, upto)))))))

  marked_all : (asked : List (Expr × Bool))
      → AllByRecursion (λ (one : Expr × Bool). IsTyped (types_at places) one.0) asked
      → ((cell : ℕ) → IsTrue (wanted_reads asked cell) → IsTrue (wanted_reads whole_list cell))
      → AllByRecursion (λ (one : Expr × Bool). IsTrue (is_whole new one.0)) asked
  marked_all [] typed all = tt
  marked_all (one ∷ asked) typed all = (
    marked_whole one.0 typed.0 (λ cell read.
        all cell (or_left (may_read one.0 cell) (wanted_reads asked cell) read)),
    marked_all asked typed.1 (λ cell read.
        all cell (or_right (may_read one.0 cell) (wanted_reads asked cell) read)),
  )

  pub settled_is : AllByRecursion (λ (one : Expr × Bool). IsTyped (types_at places) one.0)
      whole_list
      → IsSettled q d whole_list places (settled whole_list places d)
  settled_is typed = by (list_all (λ (one : Expr × Bool). is_whole places one.0) whole_list) refl
    where
      by : (b : Bool) → list_all (λ (one : Expr × Bool). is_whole places one.0) whole_list ≡ b
          → IsSettled q d whole_list places
          (if b then placed d places else copied marks places d)
      by true e = record {
        replaces = nothing_replaced q d places fine stand;
        whole = all_whole places whole_list e;
      }
      by false e = record {
        replaces = copied_is q marks places d marks_long fine stand;
        whole = marked_all whole_list typed (λ cell read. read);
      }
