-- The labels in each form of a statement, behind those that are held.
use Rattle.std.proofs.Common.{◌≡◌, ℕ, List, [], ◌∷◌, ◌++◌, map, Option, Some, None, option_map}
use Rattle.std.proofs.Common.{unwrap_or, append-nil, refl, sym, ap, ◌∙◌, ◌+◌, ◌<◌, length, get_or}
use Rattle.std.proofs.Common.{drop, length-append, arith}
use Rattle.std.specs.List.{flat_map}
use Rattle.c_grammar_tree.specs.declared.name.Name.{Name}
use Rattle.c_grammar_tree.specs.declared.expression.Expression.{Expression}
use Rattle.c_grammar_tree.specs.declared.declaration.Declaration.{Declaration}
use Rattle.c_grammar_tree.specs.declared.statement.ForStart.{ForStart}
use Rattle.c_grammar_tree.specs.declared.statement.Statement.{Statement, roll-Statement}
use Rattle.c_grammar_tree.specs.declared.statement.Statement.TheVariants as tree
use Rattle.c_grammar_tree.specs.declared.statement.BlockItem.{BlockItem, roll-BlockItem}
use Rattle.c_grammar_tree.specs.declared.statement.BlockItem.TheVariants as item
use Rattle.c_grammar_tree.specs.declared.statement.BlockItem.TheOpen.{BlockItem-F, Statement-F}
use Rattle.c_grammar_tree.specs.declared.statement.BlockItem.TheFolds.{fold-BlockItem}
use Rattle.c_grammar_tree.specs.declared.statement.BlockItem.TheFolds.{fold-Statement}
use Rattle.c_grammar_tree.specs.declared.statement.BlockItem.TheFolds.{fold-roll-BlockItem}
use Rattle.c_grammar_tree.specs.declared.statement.BlockItem.TheFolds.{fold-roll-Statement}
use Rattle.c_grammar_tree.specs.declared.statement.BlockItem.TheFolds.{map-BlockItem, map-Statement}
use Rattle.c_types_rules.specs.Statements.{labels_of, labels_item, labels_step, unnamed}
use Rattle.c_types_bodies.specs.Grown.{labels_in, name_bytes}
use Rattle.c_types_bodies.proofs.Lists.{drop_at}

opened : (s : Statement) (x : Statement-F BlockItem Statement) → roll-Statement x ≡ s
    → labels_in s ≡ labels_step (map-Statement BlockItem Statement (List Name) (List Name)
    labels_of labels_in x)
unfolding labels_of labels_in
opened s x is =
    ap (fold-Statement (List Name) (List Name) labels_item labels_step) (sym is)
    ∙ fold-roll-Statement (List Name) (List Name) labels_item labels_step x

opened_item : (s : BlockItem) (x : BlockItem-F BlockItem Statement) → roll-BlockItem x ≡ s
    → labels_of s ≡ labels_item (map-BlockItem BlockItem Statement (List Name) (List Name)
    labels_of labels_in x)
unfolding labels_of labels_in
opened_item s x is =
    ap (fold-BlockItem (List Name) (List Name) labels_item labels_step) (sym is)
    ∙ fold-roll-BlockItem (List Name) (List Name) labels_item labels_step x

flat_items : (items : List BlockItem)
    → flat_map (λ (names : List Name). names) (map labels_of items) ≡ flat_map labels_of items
flat_items [] = refl
flat_items (one ∷ items) = ap (λ (names : List Name). labels_of one ++ names) (flat_items items)

pub in_Block : (items : List BlockItem) (place : ℕ)
    → labels_in (tree.Block items place) ≡ flat_map labels_of items
in_Block items place =
    opened (tree.Block items place) (Statement-F.Block items place) (tree.rolls-Block items place)
    ∙ flat_items items

pub in_If : (test : Expression) (first : Statement) (second : Option Statement) (place : ℕ)
    → labels_in (tree.If test first second place)
    ≡ labels_in first ++ unwrap_or (option_map labels_in second) []
in_If test first None place =
    opened (tree.If test first None place) (Statement-F.If test first None place)
    (tree.rolls-If test first None place)
in_If test first (Some second) place =
    opened (tree.If test first (Some second) place) (Statement-F.If test first (Some second) place)
    (tree.rolls-If test first (Some second) place)

pub in_While : (test : Expression) (body : Statement) (place : ℕ)
    → labels_in (tree.While test body place) ≡ labels_in body
in_While test body place =
    opened (tree.While test body place) (Statement-F.While test body place)
    (tree.rolls-While test body place)

pub in_Do : (body : Statement) (test : Expression) (place : ℕ)
    → labels_in (tree.Do body test place) ≡ labels_in body
in_Do body test place =
    opened (tree.Do body test place) (Statement-F.Do body test place)
    (tree.rolls-Do body test place)

pub in_For : (start : ForStart) (test step : Option Expression) (body : Statement) (place : ℕ)
    → labels_in (tree.For start test step body place) ≡ labels_in body
in_For start test step body place =
    opened (tree.For start test step body place) (Statement-F.For start test step body place)
    (tree.rolls-For start test step body place)

pub in_Labeled : (label : Name) (body : Statement)
    → labels_in (tree.Labeled label body) ≡ label ∷ labels_in body
in_Labeled label body =
    opened (tree.Labeled label body) (Statement-F.Labeled label body)
    (tree.rolls-Labeled label body)

pub in_Switch : (value : Expression) (body : Statement) (place : ℕ)
    → labels_in (tree.Switch value body place) ≡ labels_in body ++ unnamed ∷ []
in_Switch value body place =
    opened (tree.Switch value body place) (Statement-F.Switch value body place)
    (tree.rolls-Switch value body place)

pub in_Case : (value : Expression) (body : Statement) (place : ℕ)
    → labels_in (tree.Case value body place) ≡ unnamed ∷ labels_in body
in_Case value body place =
    opened (tree.Case value body place) (Statement-F.Case value body place)
    (tree.rolls-Case value body place)

pub in_Default : (body : Statement) (place : ℕ)
    → labels_in (tree.Default body place) ≡ unnamed ∷ labels_in body
in_Default body place =
    opened (tree.Default body place) (Statement-F.Default body place)
    (tree.rolls-Default body place)

pub of_Declaration : (declaration : Declaration) → labels_of (item.Declaration declaration) ≡ []
of_Declaration declaration =
    opened_item (item.Declaration declaration) (BlockItem-F.Declaration declaration)
    (item.rolls-Declaration declaration)

pub of_Statement : (statement : Statement)
    → labels_of (item.Statement statement) ≡ labels_in statement
of_Statement statement =
    opened_item (item.Statement statement) (BlockItem-F.Statement statement)
    (item.rolls-Statement statement)

pub none_Expression : (held : List (List ℕ)) (expression : Option Expression) (place : ℕ)
    → held ++ map name_bytes (labels_in (tree.Expression expression place)) ≡ held
none_Expression held expression place =
    ap (λ (names : List Name). held ++ map name_bytes names)
    (opened (tree.Expression expression place) (Statement-F.Expression expression place)
    (tree.rolls-Expression expression place))
    ∙ append-nil held

pub none_Goto : (held : List (List ℕ)) (label : Name) (place : ℕ)
    → held ++ map name_bytes (labels_in (tree.Goto label place)) ≡ held
none_Goto held label place =
    ap (λ (names : List Name). held ++ map name_bytes names)
    (opened (tree.Goto label place) (Statement-F.Goto label place) (tree.rolls-Goto label place))
    ∙ append-nil held

pub none_Break : (held : List (List ℕ)) (place : ℕ)
    → held ++ map name_bytes (labels_in (tree.Break place)) ≡ held
none_Break held place =
    ap (λ (names : List Name). held ++ map name_bytes names)
    (opened (tree.Break place) (Statement-F.Break place) (tree.rolls-Break place))
    ∙ append-nil held

pub none_Continue : (held : List (List ℕ)) (place : ℕ)
    → held ++ map name_bytes (labels_in (tree.Continue place)) ≡ held
none_Continue held place =
    ap (λ (names : List Name). held ++ map name_bytes names)
    (opened (tree.Continue place) (Statement-F.Continue place) (tree.rolls-Continue place))
    ∙ append-nil held

pub none_Return : (held : List (List ℕ)) (value : Option Expression) (place : ℕ)
    → held ++ map name_bytes (labels_in (tree.Return value place)) ≡ held
none_Return held value place =
    ap (λ (names : List Name). held ++ map name_bytes names)
    (opened (tree.Return value place) (Statement-F.Return value place)
    (tree.rolls-Return value place))
    ∙ append-nil held

-- how many labels there are
pub count_Switch : (value : Expression) (body : Statement) (place : ℕ)
    → length (labels_in body) + 1 ≡ length (labels_in (tree.Switch value body place))
count_Switch value body place =
    sym (ap (λ (names : List Name). length names) (in_Switch value body place)
    ∙ length-append (labels_in body) (unnamed ∷ []))

one_more : (name : Name) (names : List Name) → length (name ∷ names) ≡ length names + 1
one_more name names = omega arith

pub count_Case : (value : Expression) (body : Statement) (place : ℕ)
    → length (labels_in body) + 1 ≡ length (labels_in (tree.Case value body place))
count_Case value body place =
    sym (ap (λ (names : List Name). length names) (in_Case value body place)
    ∙ one_more unnamed (labels_in body))

pub count_Default : (body : Statement) (place : ℕ)
    → length (labels_in body) + 1 ≡ length (labels_in (tree.Default body place))
count_Default body place =
    sym (ap (λ (names : List Name). length names) (in_Default body place)
    ∙ one_more unnamed (labels_in body))

pub count_Labeled : (label : Name) (body : Statement)
    → length (labels_in body) + 1 ≡ length (labels_in (tree.Labeled label body))
count_Labeled label body =
    sym (ap (λ (names : List Name). length names) (in_Labeled label body)
    ∙ one_more label (labels_in body))

pub zero_Expression : (expression : Option Expression) (place : ℕ)
    → 0 ≡ length (labels_in (tree.Expression expression place))
zero_Expression expression place =
    sym (ap (λ (names : List Name). length names)
    (opened (tree.Expression expression place) (Statement-F.Expression expression place)
    (tree.rolls-Expression expression place)))

pub zero_Goto : (label : Name) (place : ℕ) → 0 ≡ length (labels_in (tree.Goto label place))
zero_Goto label place =
    sym (ap (λ (names : List Name). length names)
    (opened (tree.Goto label place) (Statement-F.Goto label place) (tree.rolls-Goto label place)))

pub zero_Break : (place : ℕ) → 0 ≡ length (labels_in (tree.Break place))
zero_Break place =
    sym (ap (λ (names : List Name). length names)
    (opened (tree.Break place) (Statement-F.Break place) (tree.rolls-Break place)))

pub zero_Continue : (place : ℕ) → 0 ≡ length (labels_in (tree.Continue place))
zero_Continue place =
    sym (ap (λ (names : List Name). length names)
    (opened (tree.Continue place) (Statement-F.Continue place) (tree.rolls-Continue place)))

pub zero_Return : (value : Option Expression) (place : ℕ)
    → 0 ≡ length (labels_in (tree.Return value place))
zero_Return value place =
    sym (ap (λ (names : List Name). length names)
    (opened (tree.Return value place) (Statement-F.Return value place)
    (tree.rolls-Return value place)))

pub count_step : (items : List BlockItem) (i : ℕ) (item : BlockItem) (count one new whole : ℕ)
    → i < length items → item ≡ get_or items i item → one ≡ length (labels_of item)
    → new ≡ count + one → count + length (flat_map labels_of (drop i items)) ≡ whole
    → new + length (flat_map labels_of (drop (i + 1) items)) ≡ whole
count_step items i item count one new whole less is one_is new_is so_far =
    let rest = flat_map labels_of (drop (i + 1) items) in
    let left : length (flat_map labels_of (drop i items)) ≡ length (labels_of item) + length rest =
    ap (λ (xs : List BlockItem). length (flat_map labels_of xs)) (drop_at items i item less is)
    ∙ length-append (labels_of item) rest in
    omega (arith, left, so_far, one_is, new_is)

-- what `push_labels` of src/labels.rt proves by
pub ruleset push_labels_rules = (none_Expression, none_Goto, none_Break, none_Continue, none_Return)

-- what `count_labels` of src/labels.rt proves by
pub ruleset count_labels_rules = (
  zero_Expression,
  zero_Goto,
  zero_Break,
  zero_Continue,
  zero_Return,
)
