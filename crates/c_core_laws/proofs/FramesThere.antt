-- The cells of the result and of the parameters of each function are there.
use Rattle.std.proofs.Common.{◌≡◌, ℕ, zero, suc, ◌+◌, List, [], ◌∷◌, ◌++◌, map, length, Option}
use Rattle.std.proofs.Common.{None, Some, ℤ, slice_get, refl, ap, sym, ◌∙◌, subst, arith}
use Rattle.std.proofs.Common.{append_assoc, replicate}
use Rattle.std.specs.Prelude.{unsigned_abs}
use Rattle.std.specs.List.{AllByRecursion}
use Rattle.std.proofs.lemmas.List.{map-append, length-map, append-nil, length-append}
use Rattle.std.proofs.lemmas.Option.{none-some, same_Some}
use Rattle.cpa_ints.specs.declared.integers.IntType.{IntType}
use Rattle.cpa_model.specs.declared.program.Cell.{Cell}
use Rattle.cpa_model.specs.Expressions.{types_of}
use Rattle.c_types_rules.specs.declared.meaning.Kind.{Kind}
use Rattle.c_types_rules.specs.declared.meaning.Kind.TheVariants.{Void, Value}
use Rattle.c_types_rules.specs.declared.meaning.Object.{Object}
use Rattle.c_types_rules.specs.declared.typed.Global.{Global}
use Rattle.c_types_rules.specs.declared.typed.TypedFunction.{TypedFunction}
use Rattle.c_types_rules.specs.Types.{object_type}
use Rattle.c_types_rules.specs.Tables.{cells_of}
use Rattle.c_core_rules.specs.declared.tree.Location.{Location}
use Rattle.c_core_rules.specs.Values.{cell_at}
use Rattle.c_core_rules.specs.Cells.{Taken, taking, cells_with, each, in_order}
use Rattle.c_core_rules.specs.Expressions.{Frame, Frames, frame_of, frame_at, cells_from}
use Rattle.c_core_rules.specs.Expressions.{behind_result}
use Rattle.c_core_rules.specs.Statements.{function_rule, resulting, receiving, item_rule}
use Rattle.c_core_rules.specs.Programs.{frames_of}
use Rattle.c_core_rules_laws.specs.Layouts.{begins, file_cells, AreFirst}
use Rattle.c_core_rules_laws.specs.Layouts.{text_from}
use Rattle.c_core_laws.specs.Starts.{AreScalars, FrameStands}
use Rattle.c_core_laws.specs.lemmas.ObjectCells.{object_types}
use Rattle.c_core_laws.proofs.Extending.{Extends, extended, zero_cell}
use Rattle.c_core_laws.proofs.JumpsKept.{ordered_has, items_keep, receiving_makes, functions_make}
use Rattle.cpa_model_trees.specs.lemmas.Numbered.{get_left, get_right}

abbrev types : Taken → List IntType
types taken = types_of taken.cells

-- more cells have the types of those that are there

get_extended : (before after : List Cell) (i : ℕ) (t : IntType) → Extends before after →
    slice_get (types_of before) i ≡ Some t → slice_get (types_of after) i ≡ Some t
get_extended before after i t e is =
    ap (λ (cells : List Cell). slice_get (types_of cells) i) e.is
    ∙ ap (λ (ts : List IntType). slice_get ts i)
    (map-append (λ (cell : Cell). cell.ty) before (map zero_cell e.more))
    ∙ get_left (types_of before) (types_of (map zero_cell e.more)) i t is

get_last : (before : List IntType) (n : ℕ) (t : IntType) (more : List IntType) →
    n ≡ length before → slice_get (before ++ t ∷ more) n ≡ Some t
get_last before n t more is =
    ap (slice_get (before ++ t ∷ more)) (is ∙ omega arith) ∙ get_right before (t ∷ more) 0

-- parameters, one behind the other

abbrev Here : List IntType → Location → Type 0
Here all place = slice_get all place.base ≡ Some place.ty

types_length : (taken : Taken) → length (types taken) ≡ length taken.cells
types_length taken = length-map taken.cells (λ (cell : Cell). cell.ty)

one_cell : (object : Object) → object.length ≡ None → cells_of object ≡ 1
one_cell object is =
    ap (λ (o : Option ℤ). elim o [ None ↦ 1 | Some n ↦ unsigned_abs n ]) is

taking_types : (object : Object) (values : List ℤ) (taken : Taken) →
    types (taking object values taken).taken
    ≡ types taken ++ replicate (cells_of object) object.ty
taking_types object values taken =
    map-append (λ (cell : Cell). cell.ty) taken.cells
    (cells_with object.ty (cells_of object) values)
    ∙ ap (λ ts. types taken ++ ts) (object_types object values)

receiving_types : (objects : List Object) → AreScalars objects → (taken : Taken) →
    types (receiving objects taken).taken ≡ types taken ++ map (λ (o : Object). o.ty) objects
receiving_types [] scalars taken = sym (append-nil (types taken))
receiving_types (object ∷ objects) scalars taken =
    receiving_types objects scalars.1 (taking object [] taken).taken
    ∙ ap (λ ts. ts ++ map (λ (o : Object). o.ty) objects)
    (taking_types object [] taken
    ∙ ap (λ n. types taken ++ replicate n object.ty) (one_cell object scalars.0))
    ∙ append_assoc (types taken) (object.ty ∷ []) (map (λ (o : Object). o.ty) objects)

places_here : (objects : List Object) → AreScalars objects → (all before : List IntType) (n : ℕ) →
    n ≡ length before →
    ((i : ℕ) (t : IntType) → slice_get (before ++ map (λ (o : Object). o.ty) objects) i ≡ Some t →
    slice_get all i ≡ Some t) →
    AllByRecursion (Here all) (cells_from n objects)
places_here [] scalars all before n is h = tt
places_here (object ∷ objects) scalars all before n is h =
    let rest = map (λ (o : Object). o.ty) objects in
    let more = before ++ object.ty ∷ [] in
    let many : n + cells_of object ≡ length more =
    ap (λ m. n + m) (one_cell object scalars.0) ∙ ap (λ m. m + 1) is
    ∙ sym (length-append before (object.ty ∷ [])) in (
      h n object.ty (get_last before n object.ty rest is),
      places_here objects scalars.1 all more (n + cells_of object) many
          (λ i t at. h i t (ap (λ (ts : List IntType). slice_get ts i)
          (sym (append_assoc before (object.ty ∷ []) rest)) ∙ at)),
    )

same_value : (t u : IntType) → Value t ≡ Value u → t ≡ u
same_value t u is = cc

-- the result and the parameters, where what they take is there
front_stands : (kind : Kind) (objects : List Object) (function : TypedFunction) →
    function.result ≡ kind → function.parameters ≡ objects → (taken : Taken) (all : List Cell) →
    Extends (receiving objects (resulting function.place kind taken).taken).taken.cells all →
    FrameStands (types_of all) (frame_of (length taken.cells) function) function
front_stands Void objects function is are taken all e = record {
  result = λ t so. absurd (cc (is, so));
  parameters = λ scalars.
      let own = subst AreScalars are scalars in
      subst (λ (os : List Object). AllByRecursion (Here (types_of all))
      (cells_from (behind_result function.result (length taken.cells)) os)) (sym are)
      (subst (λ (k : Kind). AllByRecursion (Here (types_of all))
      (cells_from (behind_result k (length taken.cells)) objects)) (sym is)
      (places_here objects own (types_of all) (types taken) (length taken.cells)
      (sym (types_length taken))
      (λ i t at. get_extended (receiving objects taken).taken.cells all i t e
      (ap (λ (ts : List IntType). slice_get ts i) (receiving_types objects own taken) ∙ at))));
}
front_stands (Value u) objects function is are taken all e =
    let m = (resulting function.place (Value u) taken).taken in
    let pushed : types m ≡ types taken ++ u ∷ [] =
    map-append (λ (cell : Cell). cell.ty) taken.cells (zero_cell u ∷ []) in
    record {
      result = λ t so.
          let same : u ≡ t = same_value u t (sym is ∙ so) in
          get_extended m.cells all (length taken.cells) t
          (extended m.cells (receiving objects m).taken.cells all
          ((receiving_makes objects).extends m) e)
          (ap (λ (ts : List IntType). slice_get ts (length taken.cells)) pushed
          ∙ get_last (types taken) (length taken.cells) u [] (sym (types_length taken))
          ∙ ap (λ w. Some w) same);
      parameters = λ scalars.
          let own = subst AreScalars are scalars in
          subst (λ (os : List Object). AllByRecursion (Here (types_of all))
          (cells_from (behind_result function.result (length taken.cells)) os)) (sym are)
          (subst (λ (k : Kind). AllByRecursion (Here (types_of all))
          (cells_from (behind_result k (length taken.cells)) objects)) (sym is)
          (places_here objects own (types_of all) (types m) (length taken.cells + 1)
          (ap (λ n. n + 1) (sym (types_length taken)) ∙ sym (length-append (types taken) (u ∷ []))
          ∙ sym (ap (λ (ts : List IntType). length ts) pushed))
          (λ i t at. get_extended (receiving objects m).taken.cells all i t e
          (ap (λ (ts : List IntType). slice_get ts i) (receiving_types objects own m) ∙ at))));
    }

-- a function, where all that it takes is there
function_stands : (frames : Frames) (function : TypedFunction) (taken : Taken) (all : List Cell) →
    Extends (function_rule frames function taken).taken.cells all →
    FrameStands (types_of all) (frame_of (length taken.cells) function) function
function_stands frames function taken all e =
    let first = length taken.cells in
    let place = cell_at (object_type function.result) first in
    let m = resulting function.place function.result taken in
    let r = receiving function.parameters m.taken in
    let items = in_order (map (item_rule frames place) function.items) in
    let behind : Extends r.taken.cells all =
    extended r.taken.cells (items r.taken).taken.cells all
    ((ordered_has (items_keep frames place function.items)).extends r.taken) e in
    front_stands function.result function.parameters function refl refl taken all behind

stands_at : (frames : Frames) (functions : List TypedFunction) (taken : Taken) (k b : ℕ)
    (function : TypedFunction) → slice_get functions k ≡ Some function →
    slice_get (begins frames functions taken) k ≡ Some b →
    FrameStands (types_of (each (map (function_rule frames) functions) taken).taken.cells)
    (frame_of b function) function
stands_at frames [] taken k b function is at = absurd (none-some function is)
stands_at frames (f ∷ functions) taken zero b function is at =
    let next = (function_rule frames f taken).taken in
    let all = (each (map (function_rule frames) functions) next).taken.cells in
    subst (λ (g : TypedFunction). FrameStands (types_of all) (frame_of b g) g)
    (same_Some f function is)
    (subst (λ n. FrameStands (types_of all) (frame_of n f) f) (same_Some (length taken.cells) b at)
    (function_stands frames f taken all ((functions_make frames functions).extends next)))
stands_at frames (f ∷ functions) taken (suc k) b function is at =
    stands_at frames functions (function_rule frames f taken).taken k b function is at

begins_some : (frames : Frames) (functions : List TypedFunction) (taken : Taken) (k : ℕ)
    (function : TypedFunction) → slice_get functions k ≡ Some function →
    (b : ℕ) × (slice_get (begins frames functions taken) k ≡ Some b)
begins_some frames [] taken k function is = absurd (none-some function is)
begins_some frames (f ∷ functions) taken zero function is = (length taken.cells, refl)
begins_some frames (f ∷ functions) taken (suc k) function is =
    begins_some frames functions (function_rule frames f taken).taken k function is

frame_is : (firsts : List ℕ) (functions : List TypedFunction) (k b : ℕ)
    (function : TypedFunction) → slice_get functions k ≡ Some function →
    slice_get firsts k ≡ Some b → frame_at (frames_of firsts functions) k ≡ frame_of b function
frame_is firsts [] k b function is at = absurd (none-some function is)
frame_is [] (f ∷ functions) k b function is at = absurd (none-some b at)
frame_is (n ∷ firsts) (f ∷ functions) zero b function is at =
    ap (λ m. frame_of m f) (same_Some n b at)
    ∙ ap (frame_of b) (same_Some f function is)
frame_is (n ∷ firsts) (f ∷ functions) (suc k) b function is at =
    frame_is firsts functions k b function is at

pub frame_stands : (globals : List Global) (functions : List TypedFunction) (firsts : List ℕ) →
    AreFirst globals functions firsts → (k : ℕ) (function : TypedFunction) →
    slice_get functions k ≡ Some function →
    FrameStands (types_of (text_from firsts globals functions).taken.cells)
    (frame_at (frames_of firsts functions) k) function
frame_stands globals functions firsts are k function is =
    let frames = frames_of firsts functions in
    let front = file_cells globals in
    let b = begins_some frames functions front k function is in
    let first : slice_get firsts k ≡ Some b.0 =
    ap (λ (ns : List ℕ). slice_get ns k) are ∙ b.1 in
    subst (λ (frame : Frame). FrameStands (types_of (each (map (function_rule frames) functions)
    front).taken.cells) frame function)
    (sym (frame_is firsts functions k b.0 function is first))
    (stands_at frames functions front k b.0 function is b.1)
