-- The rules of each form of statement, by its parts (`opened`).
use Rattle.std.proofs.Common.{◌≡◌, ℕ, List, [], ◌∷◌, ◌++◌, map, Option, None, Some, ap, sym, ◌∙◌}
use Rattle.c_types_rules.specs.declared.typed.Choice.{Choice}
use Rattle.c_types_rules.specs.declared.typed.TypedDeclarator.{TypedDeclarator}
use Rattle.c_types_rules.specs.declared.typed.TypedExpression.{TypedExpression}
use Rattle.c_types_rules.specs.declared.typed.TypedForStart.{TypedForStart}
use Rattle.c_types_rules.specs.declared.typed.TypedItem.{TypedItem, roll-TypedItem}
use Rattle.c_types_rules.specs.declared.typed.TypedItem.TheVariants as item
use Rattle.c_types_rules.specs.declared.typed.TypedItem.TheOpen.{TypedItem-F, TypedStatement-F}
use Rattle.c_types_rules.specs.declared.typed.TypedItem.TheFolds.{fold-TypedItem}
use Rattle.c_types_rules.specs.declared.typed.TypedItem.TheFolds.{fold-TypedStatement}
use Rattle.c_types_rules.specs.declared.typed.TypedItem.TheFolds.{map-TypedItem, map-TypedStatement}
use Rattle.c_types_rules.specs.declared.typed.TypedItem.TheFolds.{fold-roll-TypedItem}
use Rattle.c_types_rules.specs.declared.typed.TypedItem.TheFolds.{fold-roll-TypedStatement}
use Rattle.c_types_rules.specs.declared.typed.TypedStatement.{TypedStatement, roll-TypedStatement}
use Rattle.c_types_rules.specs.declared.typed.TypedStatement.TheVariants as tree
use Rattle.cpa_model_trees.specs.declared.tree.Head.TheVariants as head
use Rattle.c_core_rules.specs.declared.tree.Location.{Location}
use Rattle.c_core_rules.specs.declared.tree.Valued.{Valued}
use Rattle.cpa_model_trees.specs.Numbering.{Trees}
use Rattle.c_core_rules.specs.Trees.{leaf, block, labeled, choice, repeated}
use Rattle.c_core_rules.specs.Cells.{Taken, Made, Rule, gives, then_by, in_order}
use Rattle.c_core_rules.specs.Expressions.{Frames, rows, used}
use Rattle.c_core_rules.specs.Statements.{some_unused, started, left_unless, returned, declaration}
use Rattle.c_core_rules.specs.Statements.{as_one, item_rule, item_step, statement_step}
use Rattle.c_core_rules.specs.Statements.{selected_by}
use Rattle.c_lower_trees.specs.Items.{statement_rule, left, otherwise, switch_front}

opened : (frames : Frames) (result : Location) (s : TypedStatement)
    (x : TypedStatement-F TypedItem TypedStatement) → roll-TypedStatement x ≡ s →
    statement_rule frames result s ≡ statement_step frames result
    (map-TypedStatement TypedItem TypedStatement (Rule Trees) (Rule Trees) (item_rule frames result)
    (statement_rule frames result) x)
unfolding statement_rule item_rule
opened frames result s x is =
    ap (fold-TypedStatement (Rule Trees) (Rule Trees) (item_step frames)
    (statement_step frames result)) (sym is)
    ∙ fold-roll-TypedStatement (Rule Trees) (Rule Trees) (item_step frames)
    (statement_step frames result) x

opened_item : (frames : Frames) (result : Location) (i : TypedItem)
    (x : TypedItem-F TypedItem TypedStatement) → roll-TypedItem x ≡ i →
    item_rule frames result i ≡ item_step frames
    (map-TypedItem TypedItem TypedStatement (Rule Trees) (Rule Trees) (item_rule frames result)
    (statement_rule frames result) x)
unfolding statement_rule item_rule
opened_item frames result i x is =
    ap (fold-TypedItem (Rule Trees) (Rule Trees) (item_step frames) (statement_step frames result))
    (sym is)
    ∙ fold-roll-TypedItem (Rule Trees) (Rule Trees) (item_step frames)
    (statement_step frames result) x

pub item_Declaration : (frames : Frames) (result : Location) (declarators : List TypedDeclarator)
    (taken : Taken) →
    item_rule frames result (item.Declaration declarators) taken
    ≡ declaration frames declarators taken
item_Declaration frames result declarators taken =
    ap (λ (r : Rule Trees). r taken)
    (opened_item frames result (item.Declaration declarators) (TypedItem-F.Declaration declarators)
    (item.rolls-Declaration declarators))

pub item_Statement : (frames : Frames) (result : Location) (s : TypedStatement)
    (taken : Taken) →
    item_rule frames result (item.Statement s) taken ≡ statement_rule frames result s taken
item_Statement frames result s taken =
    ap (λ (r : Rule Trees). r taken)
    (opened_item frames result (item.Statement s) (TypedItem-F.Statement s)
    (item.rolls-Statement s))

pub statement_Block : (frames : Frames) (result : Location) (items : List TypedItem)
    (origin : ℕ) (taken : Taken) →
    statement_rule frames result (tree.Block items origin) taken
    ≡ as_one (block origin) (in_order (map (item_rule frames result) items)) taken
statement_Block frames result items origin taken =
    ap (λ (r : Rule Trees). r taken)
    (opened frames result (tree.Block items origin) (TypedStatement-F.Block items origin)
    (tree.rolls-Block items origin))

pub statement_Expression : (frames : Frames) (result : Location)
    (expression : Option TypedExpression) (origin : ℕ) (taken : Taken) →
    statement_rule frames result (tree.Expression expression origin) taken
    ≡ some_unused frames expression taken
statement_Expression frames result expression origin taken =
    ap (λ (r : Rule Trees). r taken)
    (opened frames result (tree.Expression expression origin)
    (TypedStatement-F.Expression expression origin)
    (tree.rolls-Expression expression origin))

pub statement_If : (frames : Frames) (result : Location) (test : TypedExpression)
    (first : TypedStatement) (second : Option TypedStatement) (origin : ℕ) (taken : Taken) →
    statement_rule frames result (tree.If test first second origin) taken
    ≡ then_by (used (rows frames test)) (λ v. then_by (statement_rule frames result first) (λ a.
    then_by (otherwise frames result second) (λ b.
    gives (v.statements ++ choice origin v.value a b ∷ [])))) taken
statement_If frames result test first None origin taken =
    ap (λ (r : Rule Trees). r taken)
    (opened frames result (tree.If test first None origin)
    (TypedStatement-F.If test first None origin)
    (tree.rolls-If test first None origin))
statement_If frames result test first (Some other) origin taken =
    ap (λ (r : Rule Trees). r taken)
    (opened frames result (tree.If test first (Some other) origin) (TypedStatement-F.If test first
    (Some other) origin)
    (tree.rolls-If test first (Some other) origin))

-- what an if with an else makes, part by part
pub if_else : (frames : Frames) (result : Location) (s : TypedStatement) (test : TypedExpression)
    (this other : TypedStatement) (else_part : Option TypedStatement) (origin : ℕ)
    (first second : TypedStatement) (start a b c : Taken) (v : Valued) (x y : Trees) →
    s ≡ tree.If test this else_part origin →
    else_part ≡ Some other →
    first ≡ this → second ≡ other → a ≡ (used (rows frames test) start).taken →
    v ≡ (used (rows frames test) start).made → b ≡ (statement_rule frames result first a).taken →
    x ≡ (statement_rule frames result first a).made →
    c ≡ (statement_rule frames result second b).taken →
    y ≡ (statement_rule frames result second b).made →
    (c ≡ (statement_rule frames result s start).taken)
    × (v.statements ++ choice origin v.value x y ∷ [] ≡ (statement_rule frames result s start).made)
if_else frames result s test this other else_part origin first second start a b c v x y is some one
    two ta
    tv tb tx tc ty =
    let m = used (rows frames test) start in
    let at_first = λ (t : Taken). statement_rule frames result this t in
    let at_second = λ (t : Taken). statement_rule frames result other t in
    let whole = ap (λ z. statement_rule frames result z start)
    (is ∙ ap (λ (o : Option TypedStatement). tree.If test this o origin) some)
    ∙ statement_If frames result test this (Some other) origin start in
    let of_first = ap (λ z. statement_rule frames result z a) one ∙ ap at_first ta in
    let b_is : b ≡ (at_first m.taken).taken = tb ∙ ap (λ (k : Made Trees). k.taken) of_first in
    let x_is : x ≡ (at_first m.taken).made = tx ∙ ap (λ (k : Made Trees). k.made) of_first in
    let of_second = ap (λ z. statement_rule frames result z b) two ∙ ap at_second b_is in
    let n = at_second (at_first m.taken).taken in
    let y_is : y ≡ n.made = ty ∙ ap (λ (k : Made Trees). k.made) of_second in (
      tc ∙ ap (λ (k : Made Trees). k.taken) of_second
          ∙ sym (ap (λ (k : Made Trees). k.taken) whole),
      ap (λ (w : Valued). w.statements ++ choice origin w.value x y ∷ []) tv
          ∙ ap (λ (k : Trees). m.made.statements ++ choice origin m.made.value k y ∷ []) x_is
          ∙ ap (λ (k : Trees). m.made.statements
          ++ choice origin m.made.value (at_first m.taken).made k ∷ []) y_is
          ∙ sym (ap (λ (k : Made Trees). k.made) whole),
    )

pub statement_While : (frames : Frames) (result : Location) (test : TypedExpression)
    (body : TypedStatement) (origin : ℕ) (taken : Taken) →
    statement_rule frames result (tree.While test body origin) taken
    ≡ then_by (left origin frames test) (λ head. then_by (statement_rule frames result body)
    (λ inside.
    gives (repeated origin (head ++ inside) [] ∷ []))) taken
statement_While frames result test body origin taken =
    ap (λ (r : Rule Trees). r taken)
    (opened frames result (tree.While test body origin) (TypedStatement-F.While test body origin)
    (tree.rolls-While test body origin))

pub statement_Do : (frames : Frames) (result : Location) (body : TypedStatement)
    (test : TypedExpression) (origin : ℕ) (taken : Taken) →
    statement_rule frames result (tree.Do body test origin) taken
    ≡ then_by (statement_rule frames result body) (λ inside. then_by (left origin frames test)
    (λ behind. gives (repeated origin inside behind ∷ []))) taken
statement_Do frames result body test origin taken =
    ap (λ (r : Rule Trees). r taken)
    (opened frames result (tree.Do body test origin) (TypedStatement-F.Do body test origin)
    (tree.rolls-Do body test origin))

pub statement_For : (frames : Frames) (result : Location) (first : TypedForStart)
    (test : Option TypedExpression) (step : Option TypedExpression) (body : TypedStatement)
    (origin : ℕ) (taken : Taken) →
    statement_rule frames result (tree.For first test step body origin) taken
    ≡ then_by (started frames first) (λ before. then_by (left_unless origin frames test) (λ head.
    then_by (statement_rule frames result body) (λ inside. then_by (some_unused frames step)
    (λ behind.
    gives (block origin (before ++ repeated origin (head ++ inside) behind ∷ []) ∷ []))))) taken
statement_For frames result first test step body origin taken =
    ap (λ (r : Rule Trees). r taken)
    (opened frames result (tree.For first test step body origin)
    (TypedStatement-F.For first test step body origin) (tree.rolls-For first test step body origin))

pub statement_Goto : (frames : Frames) (result : Location) (label : ℕ) (origin : ℕ)
    (taken : Taken) →
    statement_rule frames result (tree.Goto label origin) taken
    ≡ record { taken = taken; made = leaf origin (head.Goto label) ∷ [] }
statement_Goto frames result label origin taken =
    ap (λ (r : Rule Trees). r taken)
    (opened frames result (tree.Goto label origin) (TypedStatement-F.Goto label origin)
    (tree.rolls-Goto label origin))

pub statement_Break : (frames : Frames) (result : Location) (origin : ℕ) (taken : Taken) →
    statement_rule frames result (tree.Break origin) taken
    ≡ record { taken = taken; made = leaf origin head.Break ∷ [] }
statement_Break frames result origin taken =
    ap (λ (r : Rule Trees). r taken)
    (opened frames result (tree.Break origin) (TypedStatement-F.Break origin)
    (tree.rolls-Break origin))

pub statement_Continue : (frames : Frames) (result : Location) (origin : ℕ) (taken : Taken) →
    statement_rule frames result (tree.Continue origin) taken
    ≡ record { taken = taken; made = leaf origin head.Continue ∷ [] }
statement_Continue frames result origin taken =
    ap (λ (r : Rule Trees). r taken)
    (opened frames result (tree.Continue origin) (TypedStatement-F.Continue origin)
    (tree.rolls-Continue origin))

pub statement_Return : (frames : Frames) (result : Location) (value : Option TypedExpression)
    (origin : ℕ) (taken : Taken) →
    statement_rule frames result (tree.Return value origin) taken
    ≡ returned origin frames result value taken
statement_Return frames result value origin taken =
    ap (λ (r : Rule Trees). r taken)
    (opened frames result (tree.Return value origin) (TypedStatement-F.Return value origin)
    (tree.rolls-Return value origin))

pub statement_Labeled : (frames : Frames) (result : Location) (label : ℕ) (body : TypedStatement)
    (origin : ℕ) (taken : Taken) →
    statement_rule frames result (tree.Labeled label body origin) taken
    ≡ as_one (labeled origin) (statement_rule frames result body) taken
statement_Labeled frames result label body origin taken =
    ap (λ (r : Rule Trees). r taken)
    (opened frames result (tree.Labeled label body origin)
    (TypedStatement-F.Labeled label body origin)
    (tree.rolls-Labeled label body origin))

pub statement_Switch : (frames : Frames) (result : Location) (value : TypedExpression)
    (choices : List Choice) (other : ℕ) (body : TypedStatement) (end : ℕ) (origin : ℕ)
    (taken : Taken) →
    statement_rule frames result (tree.Switch value choices other body end origin) taken
    ≡ then_by (switch_front origin frames value)
    (λ kept. then_by (statement_rule frames result body)
    (λ inside. gives (kept.statements ++ selected_by origin kept.value choices other inside))) taken
statement_Switch frames result value choices other body end origin taken =
    ap (λ (r : Rule Trees). r taken)
    (opened frames result (tree.Switch value choices other body end origin)
    (TypedStatement-F.Switch value choices other body end origin)
    (tree.rolls-Switch value choices other body end origin))

-- what `statement` of src/statements.rt proves by
pub ruleset statement_rules = (
  statement_Block,
  statement_Expression,
  statement_If,
  statement_While,
  statement_Do,
  statement_For,
  statement_Goto,
  statement_Break,
  statement_Continue,
  statement_Return,
  statement_Labeled,
  statement_Switch,
)

-- what `item_trees` of src/statements.rt proves by
pub ruleset item_trees_rules = (item_Declaration, item_Statement)
