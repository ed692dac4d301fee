-- Functions and texts are alike under frames of the same types, so their cells begin at the same
-- numbers; and the frames of the same functions have the same types.
use Rattle.std.proofs.Common.{◌≡◌, ℕ, ◌+◌, List, [], ◌∷◌, ◌++◌, map, length, refl}
use Rattle.std.proofs.Common.{ap, sym, ◌∙◌, length-append}
use Rattle.c_types_rules.specs.declared.meaning.Object.{Object}
use Rattle.c_types_rules.specs.declared.typed.TypedFunction.{TypedFunction}
use Rattle.c_types_rules.specs.declared.typed.Global.{Global}
use Rattle.c_types_rules.specs.Types.{object_type}
use Rattle.c_types_rules.specs.Tables.{cells_of}
use Rattle.cpa_model_trees.specs.declared.tree.CoreTree.{CoreTree}
use Rattle.cpa_model_trees.specs.Numbering.{Trees}
use Rattle.c_core_rules.specs.Values.{cell_at}
use Rattle.c_core_rules.specs.Trees.{block}
use Rattle.c_core_rules.specs.Cells.{Taken, Rule, gives, then_by, each, in_order}
use Rattle.c_core_rules.specs.Expressions.{Frames, cells_from, behind_result, frame_of}
use Rattle.c_core_rules.specs.Statements.{item_rule, resulting, receiving, function_rule}
use Rattle.c_core_rules.specs.Statements.{receiving_globals, text_rule}
use Rattle.c_core_rules.specs.Programs.{frames_of}
use Rattle.c_core_rules_laws.specs.Alike.{Alike, SameTrees, SameTree, SameLocation}
use Rattle.c_core_rules_laws.specs.Alike.{SameFrame, SameFrames, Pairwise, none, more}
use Rattle.c_core_rules_laws.specs.Layouts.{begins}
use Rattle.c_core_rules_laws.specs.lemmas.Statements.{same_append, same_block, same_more}
use Rattle.c_core_rules_laws.specs.lemmas.Statements.{trees_self}
use Rattle.c_core_rules_laws.specs.lemmas.Runs.{alike_gives, alike_then, alike_at, alike_order}
use Rattle.c_core_rules_laws.specs.lemmas.Runs.{alike_each}
use Rattle.c_core_rules_laws.specs.lemmas.Declarations.{Any, same_cell, alike_taking}
use Rattle.c_core_rules_laws.specs.lemmas.Declarations.{alike_resulting, alike_receiving}
use Rattle.c_core_rules_laws.specs.lemmas.Items.{each_item}

-- frames

same_cells_from : (m n : ℕ) (objects : List Object) →
    Pairwise SameLocation (cells_from m objects) (cells_from n objects)
same_cells_from m n [] = none
same_cells_from m n (object ∷ objects) =
    more (same_cell object.ty m n)
    (same_cells_from (m + cells_of object) (n + cells_of object) objects)

same_frame_of : (m n : ℕ) (function : TypedFunction) →
    SameFrame (frame_of m function) (frame_of n function)
same_frame_of m n function = record {
  result = same_cell (object_type function.result) m n;
  parameters = same_cells_from (behind_result function.result m)
      (behind_result function.result n) function.parameters;
}

pub same_frames_of : (firsts others : List ℕ) (functions : List TypedFunction) →
    SameFrames (frames_of firsts functions) (frames_of others functions)
same_frames_of [] [] [] = none
same_frames_of [] (n ∷ others) [] = none
same_frames_of (m ∷ firsts) [] [] = none
same_frames_of (m ∷ firsts) (n ∷ others) [] = none
same_frames_of [] [] (function ∷ functions) =
    more (same_frame_of 0 0 function) (same_frames_of [] [] functions)
same_frames_of [] (n ∷ others) (function ∷ functions) =
    more (same_frame_of 0 n function) (same_frames_of [] others functions)
same_frames_of (m ∷ firsts) [] (function ∷ functions) =
    more (same_frame_of m 0 function) (same_frames_of firsts [] functions)
same_frames_of (m ∷ firsts) (n ∷ others) (function ∷ functions) =
    more (same_frame_of m n function) (same_frames_of firsts others functions)

-- functions

-- one whose cells begin at a number
abbrev from : Frames → TypedFunction → ℕ → Rule CoreTree
from frames function first =
    then_by (resulting function.place function.result)
    (λ before. then_by (receiving function.parameters) (λ u.
    then_by (in_order (map (item_rule frames (cell_at (object_type function.result) first))
    function.items)) (λ inside.
    gives (block function.place (before ++ inside)))))

-- texts

pub same_all : {xs ys : Trees} → Pairwise SameTree xs ys → SameTrees xs ys
same_all none = trees_self []
same_all (more is all) = same_more is (same_all all)

receiving_alike : (globals : List Global) →
    Alike Any (receiving_globals globals) (receiving_globals globals)
receiving_alike [] = alike_gives tt
receiving_alike (global ∷ globals) =
    alike_then (λ first. receiving_globals globals) (λ first. receiving_globals globals)
    (alike_taking global.object global.starts) (λ x y is. receiving_alike globals)

-- as many cells, where as many were taken before
as_many : {T : Type 0} {Same : T → T → Type 0} {r s : Rule T} → Alike Same r s →
    (a b : Taken) → length a.cells ≡ length b.cells →
    length (r a).taken.cells ≡ length (s b).taken.cells
as_many {r = r} {s = s} h a b is =
    let run = h.runs a b in
    ap length run.adds
    ∙ length-append a.cells run.added
    ∙ ap (λ n. n + length run.added) is
    ∙ sym (length-append b.cells run.added)
    ∙ sym (ap length run.adds_too)

module _ (F G : Frames) (same : SameFrames F G) where
  alike_from : (function : TypedFunction) (m n : ℕ) →
      Alike SameTree (from F function m) (from G function n)
  alike_from function m n =
      let t = object_type function.result in
      let p = in_order (map (item_rule F (cell_at t m)) function.items) in
      let q = in_order (map (item_rule G (cell_at t n)) function.items) in
      alike_then
      (λ before. then_by (receiving function.parameters) (λ u.
      then_by p (λ inside. gives (block function.place (before ++ inside)))))
      (λ before. then_by (receiving function.parameters) (λ u.
      then_by q (λ inside. gives (block function.place (before ++ inside)))))
      (alike_resulting function.place function.result)
      (λ x y is. alike_then
      (λ u. then_by p (λ inside. gives (block function.place (x ++ inside))))
      (λ u. then_by q (λ inside. gives (block function.place (y ++ inside))))
      (alike_receiving function.parameters)
      (λ v w u. alike_then (λ inside. gives (block function.place (x ++ inside)))
      (λ inside. gives (block function.place (y ++ inside)))
      (alike_order (each_item F G same (cell_at t m) (cell_at t n) (same_cell t m n)
      function.items))
      (λ ks bs are. alike_gives (same_block function.place (same_append is are)))))

  pub alike_function : (function : TypedFunction) →
      Alike SameTree (function_rule F function) (function_rule G function)
  alike_function function =
      alike_at (λ a. from F function (length a.cells)) (λ b. from G function (length b.cells))
      (λ a b. alike_from function (length a.cells) (length b.cells))

  pub each_function : (functions : List TypedFunction) →
      Pairwise (Alike SameTree) (map (function_rule F) functions) (map (function_rule G) functions)
  each_function [] = none
  each_function (function ∷ functions) = more (alike_function function) (each_function functions)

  pub alike_text : (globals : List Global) (functions : List TypedFunction) →
      Alike (Pairwise SameTree) (text_rule F globals functions) (text_rule G globals functions)
  alike_text globals functions =
      alike_then (λ u. each (map (function_rule F) functions))
      (λ u. each (map (function_rule G) functions)) (receiving_alike globals)
      (λ u v is. alike_each (each_function functions))

  pub same_begins : (functions : List TypedFunction) (a b : Taken) →
      length a.cells ≡ length b.cells → begins F functions a ≡ begins G functions b
  same_begins [] a b is = refl
  same_begins (function ∷ functions) a b is =
      ap (λ n. n ∷ begins F functions (function_rule F function a).taken) is
      ∙ ap (λ ns. length b.cells ∷ ns) (same_begins functions (function_rule F function a).taken
      (function_rule G function b).taken (as_many (alike_function function) a b is))
