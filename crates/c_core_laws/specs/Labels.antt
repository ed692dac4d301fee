-- The labelled statements of a typed function, and the block of its core tree that a label is (C11
-- 6.8.1 and 6.8.6.1).
use Rattle.std.specs.Prelude.{◌≡◌, ℕ, ◌+◌, List, [], ◌∷◌, ◌++◌, map, length, None}
use Rattle.std.specs.List.{flat_map, range_with_len}
use Rattle.c_grammar_tree.specs.declared.item.Item.{Item}
use Rattle.c_grammar_tree.specs.declared.item.Item.TheVariants as item
use Rattle.c_types_rules.specs.declared.typed.TypedItem.{TypedItem, roll-TypedItem}
use Rattle.c_types_rules.specs.declared.typed.TypedItem.TheOpen.{TypedItem-F, TypedStatement-F}
use Rattle.c_types_rules.specs.declared.typed.TypedItem.TheFolds.{fold-TypedItem, map-TypedItem}
use Rattle.c_types_rules.specs.declared.typed.TypedItem.TheFolds.{fold-TypedStatement}
use Rattle.c_types_rules.specs.declared.typed.TypedItem.TheFolds.{map-TypedStatement}
use Rattle.c_types_rules.specs.declared.typed.TypedStatement.{TypedStatement, roll-TypedStatement}
use Rattle.c_types_rules.specs.declared.typed.TypedStatement.TheVariants as typed
use Rattle.c_types_rules.specs.declared.typed.TypedFunction.{TypedFunction}
use Rattle.c_types_rules.specs.Names.{Text}
use Rattle.c_types_rules.specs.Statements.{Around, Act, Site, marks}
use Rattle.c_types_rules.specs.TypedStatements.{label_number, typed_parts}
use Rattle.c_types_rules.specs.Items.{Before, body_sites, item_behind}
use Rattle.cpa_model_trees.specs.declared.tree.CoreTree.{CoreTree}
use Rattle.cpa_model_trees.specs.declared.tree.CoreTree.TheVariants.{Node}
use Rattle.cpa_model_trees.specs.declared.tree.Head.TheVariants as head
use Rattle.c_core_rules.specs.declared.tree.Location.{Location}
use Rattle.cpa_model_trees.specs.Numbering.{Trees, Placed, statements, labels_from, part}
use Rattle.c_core_rules.specs.Cells.{Rule, Taken}
use Rattle.c_core_rules.specs.Expressions.{Frames}
use Rattle.c_core_rules.specs.Statements.{item_step, statement_step}

-- a label: its number, and the statement behind it
pub record Label : Type 0 where
  pub number : ℕ
  pub body : TypedStatement

-- a statement or an item of a block, with the labels in it
pub record Labelled (T : Type 0) : Type 0 where
  pub whole : T
  pub labels : List Label

abbrev pub whole_of : {T : Type 0} → Labelled T → T
whole_of one = one.whole

-- the label behind a switch, behind which nothing stands; what it stands before is put at the place
-- of the switch
abbrev pub end_label : ℕ → ℕ → Label
end_label number place = record { number = number; body = typed.Expression None place }

-- the labels of a statement in the order of the text, those of each part given
abbrev pub labels_step : TypedStatement-F (Labelled TypedItem) (Labelled TypedStatement)
    → List Label
labels_step (TypedStatement-F.Labeled label body place) =
    record { number = label; body = body.whole } ∷ body.labels
labels_step (TypedStatement-F.Switch value choices otherwise body end place) =
    body.labels ++ end_label end place ∷ []
labels_step statement =
    typed_parts (flat_map (λ item. item.labels)) (λ part. part.labels) (λ a b. a ++ b) statement

abbrev pub labelled_statement : TypedStatement-F (Labelled TypedItem) (Labelled TypedStatement)
    → Labelled TypedStatement
labelled_statement part = record {
  whole = roll-TypedStatement (map-TypedStatement (Labelled TypedItem) (Labelled TypedStatement)
      TypedItem TypedStatement whole_of whole_of part);
  labels = labels_step part;
}

abbrev pub item_labels_step : TypedItem-F (Labelled TypedItem) (Labelled TypedStatement)
    → List Label
item_labels_step (TypedItem-F.Declaration declarators) = []
item_labels_step (TypedItem-F.Statement statement) = statement.labels

abbrev pub labelled_item : TypedItem-F (Labelled TypedItem) (Labelled TypedStatement)
    → Labelled TypedItem
labelled_item part = record {
  whole = roll-TypedItem (map-TypedItem (Labelled TypedItem) (Labelled TypedStatement) TypedItem
      TypedStatement whole_of whole_of part);
  labels = item_labels_step part;
}

-- an item of a block with its labels
unfoldable pub with_labels : TypedItem → Labelled TypedItem
with_labels =
    fold-TypedItem (Labelled TypedItem) (Labelled TypedStatement) labelled_item labelled_statement

abbrev pub function_labels : TypedFunction → List Label
function_labels function = flat_map (λ item. (with_labels item).labels) function.items

-- they are numbered 0, 1, .. in order
abbrev pub AreInOrder : TypedFunction → Type 0
AreInOrder function =
    map (λ label. label.number) (function_labels function)
    ≡ range_with_len 0 (length (function_labels function))

-- at a label with a name: a goto that names it goes to the label of this number (6.8.6.1p2)
abbrev pub IsNamed : Around → Act → Type 0
IsNamed around (marks name) =
    (name.bytes ≡ [] → ⊥) → label_number around name ≡ around.passed
IsNamed around _ = Unit {0}

-- where the acts of the bodies in these items stand
abbrev pub item_sites : Text → Item → Before → List Site
item_sites text (item.Function specifiers declarator made) before =
    body_sites text before specifiers declarator made
item_sites text _ before = []

abbrev pub sites_in : Text → List Item → Before → List Site
sites_in text [] before = []
sites_in text (one ∷ more) before =
    item_sites text one before ++ sites_in text more (item_behind text one before)

-- the rule of a statement, as `item_rule` of an item
abbrev pub core_statement : Frames → Location → TypedStatement → Rule Trees
core_statement frames place =
    fold-TypedStatement (Rule Trees) (Rule Trees) (item_step frames) (statement_step frames place)

-- in this tree a goto to the label goes to a block of what the rule of the statement behind the
-- label makes: so many statements stand before it
pub record IsBlockOf (frames : Frames) (place : Location) (tree : CoreTree) (label : Label)
    : Type 0 where
  pub before : List Placed
  pub behind : List Placed
  pub taken : Taken
  pub origin : ℕ
  pub stands : statements tree
      ≡ before
      ++ (statements (Node head.Labeled (core_statement frames place label.body taken).made origin)
      ++ behind)
  pub leads : (n : ℕ) → part (labels_from n (statements tree)) label.number ≡ n + length before
