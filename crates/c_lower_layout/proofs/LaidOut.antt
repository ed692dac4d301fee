-- The layout that is found under calls that take the functions to begin anywhere is that of the
-- text; and where they begin there, so are the trees.
use Rattle.std.proofs.Common.{◌≡◌, ℕ, ◌<◌, List, [], ◌++◌, refl, ap, sym}
use Rattle.std.proofs.Common.{◌∙◌}
use Rattle.std.proofs.Common.{subst, arith}
use Rattle.cpa_model.specs.declared.program.TheConstants.{MAX_CELLS}
use Rattle.c_types_rules.specs.declared.typed.TypedFunction.{TypedFunction}
use Rattle.c_types_rules.specs.declared.typed.Global.{Global}
use Rattle.cpa_model_trees.specs.Numbering.{Trees}
use Rattle.c_core_rules.specs.Cells.{Taken, Made, nothing_taken}
use Rattle.c_core_rules.specs.Expressions.{Frames}
use Rattle.c_core_rules.specs.Statements.{receiving_globals}
use Rattle.c_core_rules.specs.Programs.{frames_of}
use Rattle.c_core_rules_laws.specs.Sizes.{IsWithinLimits}
use Rattle.c_core_rules_laws.specs.Layouts.{begins, file_cells, text_from, IsTooLarge}
use Rattle.c_core_rules_laws.specs.Laws.{frames_are_alike, functions_begin_alike}
use Rattle.c_core_rules_laws.specs.Laws.{texts_are_as_large}
use Rattle.c_lower_layout.specs.declared.placing.TextLayout.{TextLayout}
use Rattle.c_lower_layout.specs.ObjectCells.{declared_cells}
use Rattle.c_lower_layout.specs.Measures.{nothing, grown, marks_of, IsWithin}
use Rattle.c_lower_layout.specs.Rests.{rest_of, AreWithin, AreFound}
use Rattle.c_lower_layout.specs.Layouts.{IsLaidOut}
use Rattle.c_lower_layout.proofs.Measured.{grown_points, grown_tallest, marks_length}
use Rattle.c_lower_layout.proofs.Measured.{marks_greatest}
use Rattle.c_lower_layout.proofs.TakenCells.{least_text}

-- the limits, by the size that is gathered

pub gathered_within : (m : Made Trees) → IsWithin m.taken (grown nothing (marks_of m.made)) →
    IsWithinLimits m
gathered_within m is =
    let marks = marks_of m.made in
    record {
      cells = is.few_cells;
      points = omega (arith, is.few_points, grown_points nothing marks, marks_length m.made);
      heights = omega (arith, is.low, grown_tallest nothing marks, marks_greatest m.made);
    }

pub within_gathered : (m : Made Trees) → IsWithinLimits m →
    IsWithin m.taken (grown nothing (marks_of m.made))
within_gathered m is =
    let marks = marks_of m.made in
    record {
      few_cells = is.cells;
      few_points = omega (arith, is.points, grown_points nothing marks, marks_length m.made);
      low = omega (arith, is.heights, grown_tallest nothing marks, marks_greatest m.made);
    }

pub laid_out : (globals : List Global) (functions : List TypedFunction) (others : List ℕ)
    (layout : TextLayout) →
    layout.first_cells ≡ begins (frames_of others functions) functions (file_cells globals) →
    layout.cells ≡ (text_from layout.first_cells globals functions).taken.cells →
    layout.names ≡ (text_from layout.first_cells globals functions).taken.names →
    layout.trees ≡ (text_from layout.first_cells globals functions).made →
    AreWithin (frames_of others functions) functions (file_cells globals) →
    IsLaidOut globals functions layout
laid_out globals functions others layout first cells names trees within =
    let firsts = layout.first_cells in
    record {
      first_cells = first
          ∙ functions_begin_alike (frames_of others functions) (frames_of firsts functions)
          (frames_are_alike others firsts functions) functions (file_cells globals)
          (file_cells globals) refl;
      cells = cells;
      names = names;
      trees = trees;
      within = texts_are_as_large globals functions others firsts
          (gathered_within (text_from others globals functions) within);
    }

pub too_large : (globals : List Global) (functions : List TypedFunction) (others : List ℕ) →
    (AreWithin (frames_of others functions) functions (file_cells globals) → ⊥) →
    IsTooLarge globals functions
too_large globals functions others large =
    λ firsts within.
    large (within_gathered (text_from others globals functions)
    (texts_are_as_large globals functions firsts others within))

pub declared_too_large : (globals : List Global) (functions : List TypedFunction) →
    MAX_CELLS < declared_cells globals functions → IsTooLarge globals functions
declared_too_large globals functions large =
    λ firsts within.
    absurd (omega (
      arith,
      large,
      within.cells,
      (least_text (frames_of firsts functions) (frames_are_alike firsts firsts functions) globals
          functions).at nothing_taken,
    ))

-- the same of what is found behind the cells of file scope

pub behind_file : (globals : List Global) (begin start : Taken) → begin ≡ nothing_taken →
    start ≡ (receiving_globals globals begin).taken → start ≡ file_cells globals
behind_file globals begin start empty file =
    file ∙ ap (λ (t : Taken). (receiving_globals globals t).taken) empty

pub found_behind : (globals : List Global) (functions : List TypedFunction) (others : List ℕ)
    (F : Frames) (start after : Taken) (firsts : List ℕ) → F ≡ frames_of others functions →
    start ≡ file_cells globals → AreFound F functions start after firsts →
    AreFound (frames_of others functions) functions (file_cells globals) after firsts
found_behind globals functions others F start after firsts frames behind found =
    subst (λ t. AreFound (frames_of others functions) functions t after firsts) behind
    (subst (λ G. AreFound G functions start after firsts) frames found)

pub made_behind : (globals : List Global) (functions : List TypedFunction) (others : List ℕ)
    (F : Frames) (start : Taken) (trees all : Trees) → F ≡ frames_of others functions →
    start ≡ file_cells globals → trees ≡ [] → all ≡ trees ++ (rest_of F functions start).made →
    all ≡ (rest_of (frames_of others functions) functions (file_cells globals)).made
made_behind globals functions others F start trees all frames behind empty made =
    made ∙ ap (λ (ts : Trees). ts ++ (rest_of F functions start).made) empty
    ∙ ap (λ (G : Frames). (rest_of G functions start).made) frames
    ∙ ap (λ (t : Taken). (rest_of (frames_of others functions) functions t).made) behind

-- the core is made again
pub layout_found : (globals : List Global) (functions : List TypedFunction)
    (others : List ℕ) (after : Taken) (firsts : List ℕ) (layout : TextLayout) →
    AreFound (frames_of others functions) functions (file_cells globals) after firsts →
    layout.first_cells ≡ firsts →
    layout.cells ≡ (text_from firsts globals functions).taken.cells →
    layout.names ≡ (text_from firsts globals functions).taken.names →
    layout.trees ≡ (text_from firsts globals functions).made →
    IsLaidOut globals functions layout
layout_found globals functions others after firsts layout found first cells names trees =
    laid_out globals functions others layout (first ∙ found.first_cells)
    (cells ∙ ap (λ (ns : List ℕ). (text_from ns globals functions).taken.cells) (sym first))
    (names ∙ ap (λ (ns : List ℕ). (text_from ns globals functions).taken.names) (sym first))
    (trees ∙ ap (λ (ns : List ℕ). (text_from ns globals functions).made) (sym first))
    found.within

-- the functions begin where it was likely
pub layout_kept : (globals : List Global) (functions : List TypedFunction)
    (others : List ℕ) (after : Taken) (firsts : List ℕ) (layout : TextLayout) →
    AreFound (frames_of others functions) functions (file_cells globals) after firsts →
    firsts ≡ others → layout.first_cells ≡ firsts → layout.cells ≡ after.cells →
    layout.names ≡ after.names →
    layout.trees ≡ (rest_of (frames_of others functions) functions (file_cells globals)).made →
    IsLaidOut globals functions layout
layout_kept globals functions others after firsts layout found same first cells names trees =
    let made : text_from others globals functions ≡ text_from firsts globals functions =
    ap (λ (ns : List ℕ). text_from ns globals functions) (sym same) in
    let taken : after ≡ (text_from firsts globals functions).taken =
    found.taken ∙ ap (λ (m : Made Trees). m.taken) made in
    layout_found globals functions others after firsts layout found first
    (cells ∙ ap (λ (t : Taken). t.cells) taken) (names ∙ ap (λ (t : Taken). t.names) taken)
    (trees ∙ ap (λ (m : Made Trees). m.made) made)

pub layout_refused : (globals : List Global) (functions : List TypedFunction) (others : List ℕ)
    (F : Frames) (begin start : Taken) → F ≡ frames_of others functions → begin ≡ nothing_taken →
    start ≡ (receiving_globals globals begin).taken → (AreWithin F functions start → ⊥) →
    IsTooLarge globals functions
layout_refused globals functions others F begin start frames empty file large =
    let behind : start ≡ file_cells globals = behind_file globals begin start empty file in
    too_large globals functions others
    (λ within. large (subst (λ t. AreWithin F functions t) (sym behind)
    (subst (λ G. AreWithin G functions (file_cells globals)) (sym frames) within)))

-- what `layout` of src/placing.rt proves by
pub ruleset layout_rules = (layout_refused, declared_too_large)
