-- Functions in order: what is left of them makes what the whole makes, and what is too large
-- already is too large at the end.
use Rattle.std.proofs.Common.{◌≡◌, ◌↔◌, ℕ, ◌+◌, ◌≤◌, ◌<◌, Bool, true, false, IsTrue, List, []}
use Rattle.std.proofs.Common.{◌∷◌, ◌++◌, length, drop, get_or, refl, ap, sym, ◌∙◌, subst}
use Rattle.std.proofs.Common.{arith, length-append, append_assoc, append-nil}
use Rattle.std.proofs.Math.ListN.{drop_of_length-le}
use Rattle.std.proofs.lemmas.List.{drop_more}
use Rattle.c_types_rules.specs.declared.typed.TypedFunction.{TypedFunction}
use Rattle.cpa_model_trees.specs.Numbering.{Trees}
use Rattle.c_core_rules.specs.declared.tree.Location.{Location}
use Rattle.c_core_rules.specs.Cells.{Taken, Rule}
use Rattle.c_core_rules.specs.Expressions.{Frames}
use Rattle.c_core_rules.specs.Statements.{function_rule}
use Rattle.c_core_rules_laws.specs.Alike.{Alike, SameLocation, SameFrames}
use Rattle.c_core_rules_laws.specs.Alike.{Pairwise, none, more}
use Rattle.c_core_rules_laws.specs.Layouts.{begins}
use Rattle.c_core_rules_laws.specs.Laws.{functions_are_alike}
use Rattle.c_lower_layout.specs.declared.sizes.Size.{Size}
use Rattle.c_lower_layout.specs.Measures.{nothing, grown, marks_of, Fits, IsWithin}
use Rattle.c_lower_layout.specs.Rests.{rest_of, IsWithinBehind, AreWithin, AreFound}
use Rattle.c_lower_layout.proofs.Measured.{marks_grown, grown_points, grown_tallest}

-- frames are alike to themselves

locations_self : (places : List Location) → Pairwise SameLocation places places
locations_self [] = none
locations_self (place ∷ places) = more (record { type = refl }) (locations_self places)

pub frames_self : (F : Frames) → SameFrames F F
frames_self [] = none
frames_self (frame ∷ frames) =
    more (record { result = record { type = refl }; parameters = locations_self frame.parameters })
    (frames_self frames)

-- a rule that is alike to another only adds cells
pub only_adds : {T : Type 0} {Same : T → T → Type 0} {r s : Rule T} → Alike Same r s →
    (a : Taken) → length a.cells ≤ length (r a).taken.cells
only_adds h a =
    let run = h.runs a a in
    omega (arith, ap length run.adds, length-append a.cells run.added)

pub rests_add : (F : Frames) (functions : List TypedFunction) (a : Taken) →
    length a.cells ≤ length (rest_of F functions a).taken.cells
rests_add F [] a = omega arith
rests_add F (function ∷ functions) a =
    omega (
      arith,
      only_adds (functions_are_alike F F (frames_self F) function) a,
      rests_add F functions (function_rule F function a).taken,
    )

-- what is within the limits with functions behind it is so without them
pub within_now : (F : Frames) (functions : List TypedFunction) (a : Taken) (size : Size) →
    IsWithinBehind F functions a size → IsWithin a size
within_now F functions a size is =
    let marks = marks_of (rest_of F functions a).made in
    record {
      few_cells = omega (arith, is.few_cells, rests_add F functions a);
      few_points = omega (arith, is.few_points, grown_points size marks);
      low = omega (arith, is.low, grown_tallest size marks);
    }

-- what is left of the functions makes what all of them make
pub record IsSoFar (F : Frames) (all rest : List TypedFunction) (a now : Taken) (firsts : List ℕ)
    (size : Size) : Type 0 where
  pub taken : (rest_of F rest now).taken ≡ (rest_of F all a).taken
  pub first_cells : firsts ++ begins F rest now ≡ begins F all a
  pub sizes : grown size (marks_of (rest_of F rest now).made)
      ≡ grown nothing (marks_of (rest_of F all a).made)

-- a function more
one_more : (F : Frames) (all rest : List TypedFunction) (function : TypedFunction)
    (a now later : Taken) (firsts : List ℕ) (size : Size) →
    later ≡ (function_rule F function now).taken →
    IsSoFar F all (function ∷ rest) a now firsts size →
    IsSoFar F all rest a later (firsts ++ length now.cells ∷ [])
    (grown size (marks_of ((function_rule F function now).made ∷ [])))
one_more F all rest function a now later firsts size is so =
    let next = (function_rule F function now).taken in
    subst (λ t. IsSoFar F all rest a t (firsts ++ length now.cells ∷ [])
    (grown size (marks_of ((function_rule F function now).made ∷ [])))) (sym is)
    (record {
      taken = so.taken;
      first_cells = append_assoc firsts (length now.cells ∷ []) (begins F rest next)
          ∙ so.first_cells;
      sizes = sym (marks_grown size (function_rule F function now).made
          (rest_of F rest next).made)
          ∙ so.sizes;
    })

pub turn : (F : Frames) (all : List TypedFunction) (i : ℕ) (function : TypedFunction)
    (a now later : Taken) (firsts firsts_later : List ℕ) (size size_later : Size) (first : ℕ) →
    i < length all → function ≡ get_or all i function → first ≡ length now.cells →
    firsts_later ≡ firsts ++ first ∷ [] → later ≡ (function_rule F function now).taken →
    size_later ≡ grown size (marks_of ((function_rule F function now).made ∷ [])) →
    IsSoFar F all (drop i all) a now firsts size →
    IsSoFar F all (drop (i + 1) all) a later firsts_later size_later
turn F all i function a now later firsts firsts_later size size_later first h item at pushed is
    grows so =
    let here : drop i all ≡ function ∷ drop (i + 1) all =
    drop_more all i function h ∙ ap (λ f. f ∷ drop (i + 1) all) (sym item) in
    subst (λ s. IsSoFar F all (drop (i + 1) all) a later firsts_later s) (sym grows)
    (subst (λ ns. IsSoFar F all (drop (i + 1) all) a later ns
    (grown size (marks_of ((function_rule F function now).made ∷ []))))
    (sym (pushed ∙ ap (λ n. firsts ++ n ∷ []) at))
    (one_more F all (drop (i + 1) all) function a now later firsts size is
    (subst (λ fs. IsSoFar F all fs a now firsts size) here so)))

-- what does not fit on the way does not fit at the end
pub refused_on : (F : Frames) (all rest : List TypedFunction) (a now : Taken) (firsts : List ℕ)
    (size : Size) (n : ℕ) (b : Bool) → n ≡ length now.cells → (IsTrue b ↔ Fits n size) →
    b ≡ false → IsSoFar F all rest a now firsts size → AreWithin F all a → ⊥
refused_on F all rest a now firsts size n true many tells is so within = absurd (cc)
refused_on F all rest a now firsts size n false many tells is so within =
    let fits : IsTrue false =
    tells.1 (subst (λ k. Fits k size) (sym many)
    (within_now F rest now size
    (subst (λ t. IsWithin t (grown size (marks_of (rest_of F rest now).made))) (sym so.taken)
    (subst (λ s. IsWithin (rest_of F all a).taken s) (sym so.sizes) within)))) in
    absurd (cc)

-- the end: nothing is left
all_found : (F : Frames) (all rest : List TypedFunction) (a now : Taken) (firsts : List ℕ)
    (size : Size) → rest ≡ [] → IsWithin now size → IsSoFar F all rest a now firsts size →
    AreFound F all a now firsts
all_found F all (function ∷ rest) a now firsts size none_left within so = absurd (cc)
all_found F all [] a now firsts size none_left within so = record {
  taken = so.taken;
  first_cells = sym (append-nil firsts) ∙ so.first_cells;
  within =
      subst (λ t. IsWithin t (grown nothing (marks_of (rest_of F all a).made))) so.taken
      (subst (λ s. IsWithin now s) so.sizes within);
}

pub found : (F : Frames) (all : List TypedFunction) (i : ℕ) (a now : Taken) (firsts : List ℕ)
    (size : Size) (n : ℕ) (b : Bool) → length all ≤ i → n ≡ length now.cells →
    (IsTrue b ↔ Fits n size) → b ≡ true → IsSoFar F all (drop i all) a now firsts size →
    AreFound F all a now firsts
found F all i a now firsts size n false h many tells is so = absurd (cc)
found F all i a now firsts size n true h many tells is so =
    all_found F all (drop i all) a now firsts size (drop_of_length-le all h)
    (subst (λ k. Fits k size) many (tells.0 refl)) so

-- the trees so far, and behind them those of the functions that are left, are all of them
pub made_turn : (F : Frames) (all : List TypedFunction) (i : ℕ) (function : TypedFunction)
    (now later : Taken) (trees trees_later whole : Trees) → i < length all →
    function ≡ get_or all i function → later ≡ (function_rule F function now).taken →
    trees_later ≡ trees ++ (function_rule F function now).made ∷ [] →
    trees ++ (rest_of F (drop i all) now).made ≡ whole →
    trees_later ++ (rest_of F (drop (i + 1) all) later).made ≡ whole
made_turn F all i function now later trees trees_later whole h item is made so =
    let left = drop (i + 1) all in
    let next = (function_rule F function now).taken in
    let tree = (function_rule F function now).made in
    let here : drop i all ≡ function ∷ left =
    drop_more all i function h ∙ ap (λ f. f ∷ left) (sym item) in
    ap (λ (t : Taken). trees_later ++ (rest_of F left t).made) is
    ∙ ap (λ (ts : Trees). ts ++ (rest_of F left next).made) made
    ∙ append_assoc trees (tree ∷ []) (rest_of F left next).made
    ∙ ap (λ (fs : List TypedFunction). trees ++ (rest_of F fs now).made) (sym here)
    ∙ so

pub made_end : (F : Frames) (all : List TypedFunction) (i : ℕ) (now : Taken)
    (trees whole : Trees) → length all ≤ i → trees ++ (rest_of F (drop i all) now).made ≡ whole →
    trees ≡ whole
made_end F all i now trees whole h so =
    sym (append-nil trees)
    ∙ ap (λ (fs : List TypedFunction). trees ++ (rest_of F fs now).made)
    (sym (drop_of_length-le all h))
    ∙ so

-- what `first_cells` of src/placing.rt proves by
pub ruleset first_cells_rules = (refused_on, found, made_end)
