-- A postfix expression, by its last suffix.
use Rattle.std.proofs.Common.{◌≡◌, ◌<◌, ◌≤◌, ℕ, zero, suc, true, List, [], ◌∷◌, map, length, take}
use Rattle.std.proofs.Common.{◌+◌, get_or, Option, None, refl, ap, sym, ◌∙◌, arith}
use Rattle.c_grammar_symbols.specs.declared.operators.StepOperator.{StepOperator}
use Rattle.c_types_rules.specs.declared.meaning.Kind.{Kind}
use Rattle.c_types_rules.specs.declared.meaning.Meaning.{Meaning}
use Rattle.c_types_rules.specs.declared.typed.TypedExpression.{TypedExpression, out-TypedExpression}
use Rattle.c_types_rules.specs.declared.typed.TypedExpression.TheOpen.{TypedExpression-F}
use Rattle.c_types_rules.specs.declared.typed.TypedExpression.TheOpen.{TypedSuffix-F}
use Rattle.c_types_rules.specs.declared.typed.TypedExpression.TheViews.{out-roll-TypedExpression}
use Rattle.c_types_rules.specs.declared.typed.TypedExpression.TheVariants as tree
use Rattle.c_types_rules.specs.declared.typed.TypedSuffix.{TypedSuffix}
use Rattle.c_types_rules.specs.declared.typed.TypedSuffix.TheVariants as behind
use Rattle.c_core_rules.specs.declared.tree.Usage.{Usage}
use Rattle.c_core_rules.specs.declared.tree.Usage.TheVariants.{Used}
use Rattle.c_core_rules.specs.declared.tree.Valued.{Valued}
use Rattle.c_core_rules.specs.declared.tree.Place.{Place}
use Rattle.c_core_rules.specs.Cells.{Taken, then_by}
use Rattle.c_core_rules.specs.Places.{stepped_for}
use Rattle.c_core_rules.specs.Expressions.{Frames, Rows, ReadSuffix, suffix_rows, suffixed, rows}
use Rattle.c_core_rules.specs.Expressions.{used}
use Rattle.c_core_rules.specs.Expressions.{call_rows, element_rows, element_target, placed}
use Rattle.c_lower_expressions.specs.Rows.{lowered, element_behind}
use Rattle.c_lower_expressions.specs.Postfix.{postfix_of}
use Rattle.c_lower_expressions.specs.Rows.{call_of}
use Rattle.c_lower_expressions.specs.Rows.{suffix_of, suffixed_by, front_target, suffix_target}
use Rattle.c_types_rules.specs.Tables.{suffix_count}
use Rattle.c_lower_expressions.proofs.Variants.{rows_Postfix, suffix_Index, suffix_Call}
use Rattle.c_lower_expressions.proofs.Variants.{suffix_Step}
use Rattle.c_lower_expressions.proofs.Variants.{suffix_Skipped}
use Rattle.c_lower_expressions.proofs.Variants.{names_Name, names_Number, names_Character}
use Rattle.c_lower_expressions.proofs.Variants.{names_Bracketed, names_PrefixStep, names_Unary}
use Rattle.c_lower_expressions.proofs.Variants.{names_Cast, names_Chain, names_Conditional}
use Rattle.c_lower_expressions.proofs.Variants.{names_Assignment, names_Comma}

-- suffixes up to the one of a number are those before it, and that one behind them
with_next : (origin : ℕ) (frames : Frames) (base : Rows) (suffixes : List TypedSuffix) (n : ℕ)
    (s : TypedSuffix) → n < length suffixes → s ≡ get_or suffixes n s →
    suffixed origin frames base (map (suffix_of frames) (take (suc n) suffixes))
    ≡ suffix_rows origin frames (suffixed origin frames base
    (map (suffix_of frames) (take n suffixes)))
    (suffix_of frames s)
with_next origin frames base [] n s e h = absurd (omega arith)
with_next origin frames base (x ∷ xs) zero s e h =
    ap (λ y. suffix_rows origin frames base (suffix_of frames y)) (sym h)
with_next origin frames base (x ∷ xs) (suc n) s e h =
    with_next origin frames (suffix_rows origin frames base (suffix_of frames x)) xs n s
    (omega arith) h

take_all : (suffixes : List TypedSuffix) → take (length suffixes) suffixes ≡ suffixes
take_all [] = refl
take_all (s ∷ suffixes) = ap (λ xs. s ∷ xs) (take_all suffixes)

-- the same of the first suffixes of a postfix expression, and of all of them
front_next : (origin : ℕ) (frames : Frames) (base : TypedExpression) (suffixes : List TypedSuffix)
    (count n : ℕ)
    (s : TypedSuffix) → count ≡ suc n → count ≤ length suffixes → s ≡ get_or suffixes n s →
    suffixed_by origin frames base (take count suffixes)
    ≡ suffix_rows origin frames (suffixed_by origin frames base (take n suffixes))
    (suffix_of frames s)
front_next origin frames base suffixes count n s e k h =
    ap (λ m. suffixed_by origin frames base (take m suffixes)) e
    ∙ with_next origin frames (rows frames base) suffixes n s (omega arith) h

rows_last : (frames : Frames) (base : TypedExpression) (suffixes : List TypedSuffix) (place n : ℕ)
    (s : TypedSuffix) → length suffixes ≡ suc n → s ≡ get_or suffixes n s →
    rows frames (tree.Postfix base suffixes place)
    ≡ suffix_rows place frames (suffixed_by place frames base (take n suffixes))
    (suffix_of frames s)
rows_last frames base suffixes place n s e h =
    rows_Postfix frames base suffixes place
    ∙ ap (suffixed_by place frames base) (sym (take_all suffixes))
    ∙ front_next place frames base suffixes (length suffixes) n s e (omega arith) h

-- without a suffix it is its base
rows_base : (frames : Frames) (base : TypedExpression) (suffixes : List TypedSuffix) (place : ℕ) →
    length suffixes ≡ 0 → rows frames (tree.Postfix base suffixes place) ≡ rows frames base
rows_base frames base [] place e = rows_Postfix frames base [] place
rows_base frames base (s ∷ suffixes) place e = absurd (omega arith)

-- a postfix expression, by its layer
pub postfix_is : (frames : Frames) (usage : Usage) (e base : TypedExpression)
    (suffixes : List TypedSuffix) (place : ℕ) (taken : Taken) →
    e ≡ tree.Postfix base suffixes place →
    postfix_of frames usage (out-TypedExpression e) taken ≡ lowered frames usage e taken
unfolding lowered
postfix_is frames usage e base suffixes place taken is =
    ap (λ x. postfix_of frames usage (out-TypedExpression x) taken) is
    ∙ ap (λ x. postfix_of frames usage x taken)
    (ap out-TypedExpression (sym (tree.rolls-Postfix base suffixes place))
    ∙ out-roll-TypedExpression (TypedExpression-F.Postfix base suffixes place))
    ∙ ap (λ (r : Rows). r.rule usage taken) (sym (rows_Postfix frames base suffixes place))
    ∙ ap (λ x. lowered frames usage x taken) (sym is)

-- without a suffix it is its base
pub postfix_none : (frames : Frames) (usage : Usage) (e base : TypedExpression)
    (suffixes : List TypedSuffix) (place : ℕ) (taken : Taken) →
    e ≡ tree.Postfix base suffixes place → length suffixes ≡ 0 →
    lowered frames usage base taken ≡ postfix_of frames usage (out-TypedExpression e) taken
unfolding lowered
postfix_none frames usage e base suffixes place taken is h =
    ap (λ (r : Rows). r.rule usage taken) (sym (rows_base frames base suffixes place h))
    ∙ ap (λ x. lowered frames usage x taken) (sym is)
    ∙ sym (postfix_is frames usage e base suffixes place taken is)

pub names_base : (frames : Frames) (base : TypedExpression) (suffixes : List TypedSuffix)
    (place : ℕ) → length suffixes ≡ 0 →
    (rows frames (tree.Postfix base suffixes place)).names ≡ (rows frames base).names
names_base frames base suffixes place e =
    ap (λ r. r.names) (rows_base frames base suffixes place e)

-- all suffixes are the whole
target_all : (frames : Frames) (base : TypedExpression) (suffixes : List TypedSuffix)
    (place : ℕ) →
    (rows frames (tree.Postfix base suffixes place)).target
    ≡ (suffixed_by place frames base (take (length suffixes) suffixes)).target
target_all frames base suffixes place =
    ap (λ r. r.target) (rows_Postfix frames base suffixes place)
    ∙ ap (λ xs. (suffixed_by place frames base xs).target) (sym (take_all suffixes))

-- what stands behind a suffix has no name
unnamed : (origin : ℕ) (frames : Frames) (base : Rows) (s : ReadSuffix) →
    (suffix_rows origin frames base s).names ≡ None
unnamed origin frames base (TypedSuffix-F.Index index kind place) = refl
unnamed origin frames base (TypedSuffix-F.Call arguments kind place) = refl
unnamed origin frames base (TypedSuffix-F.Step operator kind place) = refl
unnamed origin frames base (TypedSuffix-F.Skipped kind place) = refl

unnamed_behind : (origin : ℕ) (frames : Frames) (base : Rows) (suffixes : List TypedSuffix) →
    base.names ≡ None →
    (suffixed origin frames base (map (suffix_of frames) suffixes)).names ≡ None
unnamed_behind origin frames base [] e = e
unnamed_behind origin frames base (s ∷ suffixes) e =
    unnamed_behind origin frames (suffix_rows origin frames base (suffix_of frames s)) suffixes
    (unnamed origin frames base (suffix_of frames s))

pub names_behind : (origin : ℕ) (frames : Frames) (base : TypedExpression)
    (suffixes : List TypedSuffix)
    (count : ℕ) → 0 < count → count ≤ length suffixes →
    (suffixed_by origin frames base (take count suffixes)).names ≡ None
names_behind origin frames base [] count h k = absurd (omega arith)
names_behind origin frames base (s ∷ suffixes) zero h k = absurd (omega arith)
names_behind origin frames base (s ∷ suffixes) (suc n) h k =
    unnamed_behind origin frames (suffix_rows origin frames (rows frames base) (suffix_of frames s))
    (take n suffixes) (unnamed origin frames (rows frames base) (suffix_of frames s))

pub names_Postfix : (frames : Frames) (base : TypedExpression) (suffixes : List TypedSuffix)
    (place : ℕ) → 0 < length suffixes →
    (rows frames (tree.Postfix base suffixes place)).names ≡ None
names_Postfix frames base suffixes place h =
    ap (λ r. r.names) (rows_Postfix frames base suffixes place)
    ∙ ap (λ xs. (suffixed_by place frames base xs).names) (sym (take_all suffixes))
    ∙ names_behind place frames base suffixes (length suffixes) h (omega arith)

-- a postfix expression, its base and suffixes read, is the last of these behind the others
pub rows_of_last : (frames : Frames) (e base first : TypedExpression)
    (suffixes all : List TypedSuffix) (place n : ℕ) (s : TypedSuffix) →
    e ≡ tree.Postfix base suffixes place → first ≡ base → all ≡ suffixes →
    length all ≡ n + 1 → s ≡ get_or all n s →
    rows frames e ≡ suffix_rows place frames (suffixed_by place frames first (take n all))
    (suffix_of frames s)
rows_of_last frames e base first suffixes all place n s is f a h spot =
    ap (rows frames) (is
    ∙ ap (λ b. tree.Postfix b suffixes place) (sym f)
    ∙ ap (λ xs. tree.Postfix first xs place) (sym a))
    ∙ rows_last frames first all place n s (omega arith) spot

-- the same by usage
last_by : (frames : Frames) (usage : Usage) (e : TypedExpression) (r : Rows) (taken : Taken) →
    rows frames e ≡ r → lowered frames usage e taken ≡ r.rule usage taken
unfolding lowered
last_by frames usage e r taken is = ap (λ (x : Rows). x.rule usage taken) is

-- a suffix behind what has this name
index_by : (origin : ℕ) (frames : Frames) (usage : Usage) (front : Rows) (index : TypedExpression)
    (kind : Option Kind) (p : ℕ) (found : Option Meaning) (taken : Taken) →
    front.names ≡ found →
    (suffix_rows origin frames front (suffix_of frames (behind.Index index kind p))).rule usage
    taken
    ≡ then_by (lowered frames Used index) (element_behind origin usage found) taken
unfolding lowered element_behind
index_by origin frames usage front index kind p found taken named =
    ap (λ s. (suffix_rows origin frames front s).rule usage taken)
    (suffix_Index frames index kind p)
    ∙ ap (λ f. (element_rows origin f (used (rows frames index))).rule usage taken) named

call_by : (origin : ℕ) (frames : Frames) (usage : Usage) (front : Rows)
    (arguments : List TypedExpression)
    (kind : Option Kind) (p : ℕ) (found : Option Meaning) (taken : Taken) →
    front.names ≡ found →
    (suffix_rows origin frames front (suffix_of frames (behind.Call arguments kind p))).rule usage
    taken
    ≡ call_of origin frames usage found arguments taken
unfolding call_of
call_by origin frames usage front arguments kind p found taken named =
    ap (λ s. (suffix_rows origin frames front s).rule usage taken)
    (suffix_Call frames arguments kind p)
    ∙ ap (λ f. (call_rows origin frames f (map (rows frames) arguments)).rule usage taken) named

skipped_by : (origin : ℕ) (frames : Frames) (usage : Usage) (front : Rows) (kind : Option Kind)
    (p : ℕ)
    (found : Option Meaning) (taken : Taken) → front.names ≡ found →
    (suffix_rows origin frames front (suffix_of frames (behind.Skipped kind p))).rule usage taken
    ≡ call_of origin frames usage found [] taken
unfolding call_of
skipped_by origin frames usage front kind p found taken named =
    ap (λ s. (suffix_rows origin frames front s).rule usage taken) (suffix_Skipped frames kind p)
    ∙ ap (λ f. (call_rows origin frames f []).rule usage taken) named

step_by : (origin : ℕ) (frames : Frames) (usage : Usage) (front : Rows) (operator : StepOperator)
    (kind : Option Kind) (p : ℕ) (taken : Taken) →
    (suffix_rows origin frames front (suffix_of frames (behind.Step operator kind p))).rule usage
    taken
    ≡ then_by (placed origin true front.target) (stepped_for origin usage operator) taken
step_by origin frames usage front operator kind p taken =
    ap (λ s. (suffix_rows origin frames front s).rule usage taken)
    (suffix_Step frames operator kind p)

-- what an expression makes that is this suffix behind what has this name
pub of_Index : (origin : ℕ) (frames : Frames) (usage : Usage) (e : TypedExpression) (front : Rows)
    (s : TypedSuffix) (index : TypedExpression) (kind : Option Kind) (p : ℕ)
    (found : Option Meaning) (taken between : Taken) (i : Valued) →
    rows frames e ≡ suffix_rows origin frames front (suffix_of frames s) →
    s ≡ behind.Index index kind p →
    front.names ≡ found → between ≡ (lowered frames Used index taken).taken →
    i ≡ (lowered frames Used index taken).made →
    element_behind origin usage found i between ≡ lowered frames usage e taken
of_Index origin frames usage e front s index kind p found taken between i r is named c m =
    ap (λ v. element_behind origin usage found v between) m
    ∙ ap (element_behind origin usage found (lowered frames Used index taken).made) c
    ∙ sym (last_by frames usage e (suffix_rows origin frames front (suffix_of frames s)) taken r
    ∙ ap (λ x. (suffix_rows origin frames front (suffix_of frames x)).rule usage taken) is
    ∙ index_by origin frames usage front index kind p found taken named)

pub of_Call : (origin : ℕ) (frames : Frames) (usage : Usage) (e : TypedExpression) (front : Rows)
    (s : TypedSuffix) (arguments handed : List TypedExpression) (kind : Option Kind) (p : ℕ)
    (found : Option Meaning) (taken : Taken) →
    rows frames e ≡ suffix_rows origin frames front (suffix_of frames s) →
    s ≡ behind.Call arguments kind p → front.names ≡ found → handed ≡ arguments →
    call_of origin frames usage found handed taken ≡ lowered frames usage e taken
of_Call origin frames usage e front s arguments handed kind p found taken r is named a =
    ap (λ xs. call_of origin frames usage found xs taken) a
    ∙ sym (last_by frames usage e (suffix_rows origin frames front (suffix_of frames s)) taken r
    ∙ ap (λ x. (suffix_rows origin frames front (suffix_of frames x)).rule usage taken) is
    ∙ call_by origin frames usage front arguments kind p found taken named)

pub of_Skipped : (origin : ℕ) (frames : Frames) (usage : Usage) (e : TypedExpression) (front : Rows)
    (s : TypedSuffix) (kind : Option Kind) (p : ℕ) (found : Option Meaning) (taken : Taken) →
    rows frames e ≡ suffix_rows origin frames front (suffix_of frames s) →
    s ≡ behind.Skipped kind p →
    front.names ≡ found → call_of origin frames usage found [] taken ≡ lowered frames usage e taken
of_Skipped origin frames usage e front s kind p found taken r is named =
    sym (last_by frames usage e (suffix_rows origin frames front (suffix_of frames s)) taken r
    ∙ ap (λ x. (suffix_rows origin frames front (suffix_of frames x)).rule usage taken) is
    ∙ skipped_by origin frames usage front kind p found taken named)

-- the target of the suffixes before the last, as `front_target` says it
front_of : (frames : Frames) (e base first : TypedExpression) (suffixes all : List TypedSuffix)
    (place n : ℕ) → e ≡ tree.Postfix base suffixes place → first ≡ base → all ≡ suffixes →
    front_target frames (out-TypedExpression e) n
    ≡ (suffixed_by place frames first (take n all)).target
front_of frames e base first suffixes all place n is f a =
    ap (λ x. front_target frames (out-TypedExpression x) n) is
    ∙ ap (λ x. front_target frames x n)
    (ap out-TypedExpression (sym (tree.rolls-Postfix base suffixes place))
    ∙ out-roll-TypedExpression (TypedExpression-F.Postfix base suffixes place))
    ∙ ap (λ b. (suffixed_by place frames b (take n suffixes)).target) (sym f)
    ∙ ap (λ xs. (suffixed_by place frames first (take n xs)).target) (sym a)

pub of_Step : (frames : Frames) (usage : Usage) (e base first : TypedExpression)
    (suffixes all : List TypedSuffix) (place n : ℕ) (s : TypedSuffix) (operator : StepOperator)
    (kind : Option Kind) (p : ℕ) (taken between : Taken) (spot : Place) →
    e ≡ tree.Postfix base suffixes place → first ≡ base → all ≡ suffixes →
    length all ≡ n + 1 → s ≡ get_or all n s → s ≡ behind.Step operator kind p →
    between ≡ (placed place true (front_target frames (out-TypedExpression e) n) taken).taken →
    spot ≡ (placed place true (front_target frames (out-TypedExpression e) n) taken).made →
    stepped_for place usage operator spot between ≡ lowered frames usage e taken
of_Step frames usage e base first suffixes all place n s operator kind p taken between spot is f a h
    g q b m =
    let front = suffixed_by place frames first (take n all) in
    let whole : lowered frames usage e taken
    ≡ then_by (placed place true front.target) (stepped_for place usage operator) taken =
    last_by frames usage e (suffix_rows place frames front (suffix_of frames s)) taken
    (rows_of_last frames e base first suffixes all place n s is f a h g)
    ∙ ap (λ x. (suffix_rows place frames front (suffix_of frames x)).rule usage taken) q
    ∙ step_by place frames usage front operator kind p taken in
    ap (λ x. stepped_for place usage operator x between) m
    ∙ ap (stepped_for place usage operator (placed place true
    (front_target frames (out-TypedExpression e) n) taken).made) b
    ∙ ap (λ x. then_by (placed place true x) (stepped_for place usage operator) taken)
    (front_of frames e base first suffixes all place n is f a)
    ∙ sym whole

-- how many suffixes it has
pub suffixes_counted : (e base : TypedExpression) (suffixes all : List TypedSuffix) (place : ℕ) →
    e ≡ tree.Postfix base suffixes place → all ≡ suffixes →
    suffix_count (out-TypedExpression e) ≡ length all
suffixes_counted e base suffixes all place is a =
    ap (λ x. suffix_count (out-TypedExpression x)) is
    ∙ ap suffix_count (ap out-TypedExpression (sym (tree.rolls-Postfix base suffixes place))
    ∙ out-roll-TypedExpression (TypedExpression-F.Postfix base suffixes place))
    ∙ ap length (sym a)

-- a postfix expression as a left side is all of its suffixes
pub placed_all : (frames : Frames) (e base : TypedExpression) (suffixes : List TypedSuffix)
    (place count : ℕ) → e ≡ tree.Postfix base suffixes place → count ≡ length suffixes →
    front_target frames (out-TypedExpression e) count ≡ (rows frames e).target
placed_all frames e base suffixes place count is h =
    front_of frames e base base suffixes suffixes place count is refl refl
    ∙ ap (λ n. (suffixed_by place frames base (take n suffixes)).target) h
    ∙ sym (target_all frames base suffixes place)
    ∙ ap (λ x. (rows frames x).target) (sym is)

-- the first suffixes as a left side, by the last of them
by_suffix : (origin : ℕ) (frames : Frames) (front : Rows) (s : ReadSuffix)
    (found : Option Meaning) →
    front.names ≡ found → (suffix_rows origin frames front s).target ≡ suffix_target found s
by_suffix origin frames front (TypedSuffix-F.Index index kind place) found e =
    ap (λ f. element_target f (used index)) e
by_suffix origin frames front (TypedSuffix-F.Call arguments kind place) found e = refl
by_suffix origin frames front (TypedSuffix-F.Step operator kind place) found e = refl
by_suffix origin frames front (TypedSuffix-F.Skipped kind place) found e = refl

pub target_by : (frames : Frames) (e base first : TypedExpression) (suffixes all : List TypedSuffix)
    (place count n : ℕ) (s : TypedSuffix) (found : Option Meaning) →
    e ≡ tree.Postfix base suffixes place → first ≡ base → all ≡ suffixes →
    count ≡ n + 1 → count ≤ length all → s ≡ get_or all n s →
    (suffixed_by place frames first (take n all)).names ≡ found →
    suffix_target found (suffix_of frames s)
    ≡ front_target frames (out-TypedExpression e) count
target_by frames e base first suffixes all place count n s found is f a c h g named =
    sym (front_of frames e base first suffixes all place count is f a
    ∙ ap (λ r. r.target) (front_next place frames first all count n s (omega arith) h g)
    ∙ by_suffix place frames (suffixed_by place frames first (take n all)) (suffix_of frames s)
    found named)

-- what `names_of` of src/names.rt proves by
pub ruleset names_of_rules = (
  names_Name,
  names_Number,
  names_Character,
  names_Bracketed,
  names_PrefixStep,
  names_Unary,
  names_Cast,
  names_Chain,
  names_Conditional,
  names_Assignment,
  names_Comma,
  names_base,
  names_Postfix,
)
