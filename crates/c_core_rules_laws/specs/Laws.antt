-- The laws of the rules of the core: under frames of the same types they are alike. The lemma below
-- each is its proof, which a lemma of another crate cites.
use Rattle.std.specs.Prelude.{◌≡◌, ℕ, List, length}
use Rattle.c_types_rules.specs.declared.typed.TypedExpression.{TypedExpression}
use Rattle.c_types_rules.specs.declared.typed.TypedItem.{TypedItem}
use Rattle.c_types_rules.specs.declared.typed.TypedFunction.{TypedFunction}
use Rattle.c_types_rules.specs.declared.typed.Global.{Global}
use Rattle.c_core_rules.specs.declared.tree.Location.{Location}
use Rattle.c_core_rules.specs.Cells.{Taken}
use Rattle.c_core_rules.specs.Expressions.{Frames, rows}
use Rattle.c_core_rules.specs.Statements.{item_rule, function_rule, text_rule}
use Rattle.c_core_rules.specs.Programs.{frames_of}
use Rattle.c_core_rules_laws.specs.Alike.{Alike, AlikeRows, SameTrees, SameTree, SameLocation}
use Rattle.c_core_rules_laws.specs.Alike.{SameFrames, Pairwise}
use Rattle.c_core_rules_laws.specs.Sizes.{IsWithinLimits}
use Rattle.c_core_rules_laws.specs.Layouts.{begins, AreFirst, text_from}
use Rattle.c_core_rules_laws.specs.lemmas.Expressions as expressions
use Rattle.c_core_rules_laws.specs.lemmas.Items as items
use Rattle.c_core_rules_laws.specs.lemmas.Texts as texts
use Rattle.c_core_rules_laws.specs.lemmas.Layouts as layouts

abbrev pub ExpressionsAreAlike : Type 0
ExpressionsAreAlike =
    (F G : Frames) → SameFrames F G → (e : TypedExpression) → AlikeRows (rows F e) (rows G e)

pub expressions_are_alike : ExpressionsAreAlike
expressions_are_alike = expressions.alike_expression

abbrev pub ItemsAreAlike : Type 0
ItemsAreAlike =
    (F G : Frames) → SameFrames F G → (place other : Location) → SameLocation place other
    → (item : TypedItem) → Alike SameTrees (item_rule F place item) (item_rule G other item)

pub items_are_alike : ItemsAreAlike
items_are_alike = items.alike_item

abbrev pub FunctionsAreAlike : Type 0
FunctionsAreAlike =
    (F G : Frames) → SameFrames F G → (function : TypedFunction)
    → Alike SameTree (function_rule F function) (function_rule G function)

pub functions_are_alike : FunctionsAreAlike
functions_are_alike = texts.alike_function

abbrev pub TextsAreAlike : Type 0
TextsAreAlike =
    (F G : Frames) → SameFrames F G → (globals : List Global) (functions : List TypedFunction)
    → Alike (Pairwise SameTree) (text_rule F globals functions) (text_rule G globals functions)

pub texts_are_alike : TextsAreAlike
texts_are_alike = texts.alike_text

abbrev pub FramesAreAlike : Type 0
FramesAreAlike =
    (firsts others : List ℕ) (functions : List TypedFunction)
    → SameFrames (frames_of firsts functions) (frames_of others functions)

pub frames_are_alike : FramesAreAlike
frames_are_alike = texts.same_frames_of

abbrev pub FunctionsBeginAlike : Type 0
FunctionsBeginAlike =
    (F G : Frames) → SameFrames F G → (functions : List TypedFunction) (a b : Taken)
    → length a.cells ≡ length b.cells → begins F functions a ≡ begins G functions b

pub functions_begin_alike : FunctionsBeginAlike
functions_begin_alike = texts.same_begins

abbrev pub ThereIsOneLayout : Type 0
ThereIsOneLayout =
    (globals : List Global) (functions : List TypedFunction) (firsts others : List ℕ)
    → AreFirst globals functions firsts → AreFirst globals functions others → firsts ≡ others

pub there_is_one_layout : ThereIsOneLayout
there_is_one_layout = layouts.one_layout

abbrev pub TextsTakeTheSameCells : Type 0
TextsTakeTheSameCells =
    (globals : List Global) (functions : List TypedFunction) (firsts others : List ℕ)
    → (text_from firsts globals functions).taken.cells
    ≡ (text_from others globals functions).taken.cells

pub texts_take_the_same_cells : TextsTakeTheSameCells
texts_take_the_same_cells = layouts.one_list

abbrev pub TextsAreAsLarge : Type 0
TextsAreAsLarge =
    (globals : List Global) (functions : List TypedFunction) (firsts others : List ℕ)
    → IsWithinLimits (text_from firsts globals functions)
    → IsWithinLimits (text_from others globals functions)

pub texts_are_as_large : TextsAreAsLarge
texts_are_as_large = layouts.one_size
