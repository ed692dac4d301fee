-- A text has one layout; and where its functions begin decides neither which cells the rules take
-- nor whether they make more than a program may have.
use Rattle.std.proofs.Common.{◌≡◌, suc, ℕ, List, length, refl, ap, sym, ◌∙◌, arith}
use Rattle.cpa_expr.specs.Shape.{greatest}
use Rattle.c_types_rules.specs.declared.typed.TypedFunction.{TypedFunction}
use Rattle.c_types_rules.specs.declared.typed.Global.{Global}
use Rattle.cpa_model_trees.specs.Numbering.{Trees}
use Rattle.c_core_rules.specs.Cells.{Taken, Made, nothing_taken}
use Rattle.c_core_rules.specs.Programs.{frames_of}
use Rattle.c_core_rules_laws.specs.Alike.{RunsAlike, SameTree, Pairwise, none, more}
use Rattle.c_core_rules_laws.specs.Sizes.{IsWithinLimits}
use Rattle.c_core_rules_laws.specs.Layouts.{file_cells, AreFirst, text_from}
use Rattle.c_core_rules_laws.specs.lemmas.Texts.{alike_text, same_all, same_begins, same_frames_of}

pub one_layout : (globals : List Global) (functions : List TypedFunction) (firsts others : List ℕ) →
    AreFirst globals functions firsts → AreFirst globals functions others → firsts ≡ others
one_layout globals functions firsts others is are =
    is
    ∙ same_begins (frames_of firsts functions) (frames_of others functions)
    (same_frames_of firsts others functions) functions (file_cells globals)
    (file_cells globals) refl
    ∙ sym are

as_many : {xs ys : Trees} → Pairwise SameTree xs ys → length xs ≡ length ys
as_many none = refl
as_many (more is all) = ap suc (as_many all)

same_cells : (a : Taken) (m n : Made Trees) → RunsAlike (Pairwise SameTree) a a m n →
    m.taken.cells ≡ n.taken.cells
same_cells a m n run = run.adds ∙ sym run.adds_too

same_within : (a : Taken) (m n : Made Trees) → RunsAlike (Pairwise SameTree) a a m n →
    IsWithinLimits m → IsWithinLimits n
same_within a m n run is =
    let heights = (same_all run.made).heights in
    record {
      cells = omega (arith, is.cells, ap length (same_cells a m n run));
      points = omega (arith, is.points, ap length heights, as_many run.made);
      heights = omega (arith, is.heights, ap greatest heights);
    }

-- the text, wherever its functions begin
alike_from : (globals : List Global) (functions : List TypedFunction) (firsts others : List ℕ) →
    RunsAlike (Pairwise SameTree) nothing_taken nothing_taken (text_from firsts globals functions)
    (text_from others globals functions)
alike_from globals functions firsts others =
    (alike_text (frames_of firsts functions) (frames_of others functions)
    (same_frames_of firsts others functions) globals functions).runs nothing_taken nothing_taken

pub one_list : (globals : List Global) (functions : List TypedFunction) (firsts others : List ℕ) →
    (text_from firsts globals functions).taken.cells
    ≡ (text_from others globals functions).taken.cells
one_list globals functions firsts others =
    same_cells nothing_taken (text_from firsts globals functions)
    (text_from others globals functions) (alike_from globals functions firsts others)

pub one_size : (globals : List Global) (functions : List TypedFunction) (firsts others : List ℕ) →
    IsWithinLimits (text_from firsts globals functions) →
    IsWithinLimits (text_from others globals functions)
one_size globals functions firsts others =
    same_within nothing_taken (text_from firsts globals functions)
    (text_from others globals functions) (alike_from globals functions firsts others)
