-- A statement and an item of a block as the typed tree and the walk that they are
-- (`TypedStatements.antt` and `Statements.antt` of `c_types_rules`).
use Rattle.c_grammar_tree.specs.declared.statement.Statement.{Statement}
use Rattle.c_grammar_tree.specs.declared.statement.BlockItem.{BlockItem}
use Rattle.c_grammar_tree.specs.declared.statement.BlockItem.TheFolds.{fold-Statement}
use Rattle.c_types_rules.specs.declared.typed.TypedStatement.{TypedStatement}
use Rattle.c_types_rules.specs.declared.typed.TypedItem.{TypedItem}
use Rattle.std.specs.Prelude.{ℕ, List}
use Rattle.c_grammar_tree.specs.declared.name.Name.{Name}
use Rattle.c_types_rules.specs.Statements.{labels_item, labels_step}
use Rattle.c_types_rules.specs.Names.{Text}
use Rattle.c_types_rules.specs.Statements.{Around, Walk}
use Rattle.c_types_rules.specs.TypedStatements.{Grown, grown, grown_item, grown_statement}

-- a statement: its acts and its typed tree
unfoldable pub grown_of : Text → Statement → Grown TypedStatement
grown_of text =
    fold-Statement (Grown TypedItem) (Grown TypedStatement) (grown_item text) (grown_statement text)

-- the acts of an item of a block
abbrev pub grown_walk : Text → BlockItem → Walk
grown_walk text item = (grown text item).walk

-- the acts of a statement, and its typed tree where this is known
abbrev pub walk_of_statement : Text → Statement → Walk
walk_of_statement text statement = (grown_of text statement).walk

abbrev pub grown_typed : Text → Around → Statement → TypedStatement
grown_typed text around statement = (grown_of text statement).typed around

-- the bytes of a name
abbrev pub name_bytes : Name → List ℕ
name_bytes name = name.bytes

-- the labels in a statement, in order
unfoldable pub labels_in : Statement → List Name
labels_in = fold-Statement (List Name) (List Name) labels_item labels_step
