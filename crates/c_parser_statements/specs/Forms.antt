-- Parts of the grammar of statements that have readers of their own (C11 6.8).
use Rattle.std.specs.Prelude.{ℕ, Option, None, Some}
use Rattle.c_grammar_forms.specs.Forms.{Form, Skip, Behind, Before, Pair, Node, Deeper, Choice}
use Rattle.c_grammar_forms.specs.Forms.{Perhaps}
use Rattle.c_grammar_forms.specs.Forms.{Nearest}
use Rattle.c_grammar_symbols.specs.declared.words.Terminal.{Terminal}
use Rattle.c_grammar_symbols.specs.declared.words.Terminal.TheVariants as terminal
use Rattle.c_grammar_symbols.specs.declared.symbol.Symbol.TheVariants as symbol
use Rattle.c_grammar_symbols.specs.Symbols.{Leaf, symbol_of}
use Rattle.c_grammar_symbols.specs.Sources.{is}
use Rattle.c_grammar_tree.specs.declared.name.Name.{Name}
use Rattle.c_grammar_tree.specs.declared.expression.Expression.{Expression}
use Rattle.c_grammar_tree.specs.declared.statement.Statement.{Statement}
use Rattle.c_grammar_tree.specs.declared.statement.Statement.TheVariants as node
use Rattle.c_grammar_tree.specs.declared.statement.BlockItem.{BlockItem}
use Rattle.c_grammar_tree.specs.declared.statement.ForStart.{ForStart}
use Rattle.c_grammar_tree.specs.Parts.{is_not, is_local_specifier, bare_name}
use Rattle.c_grammar_tree.specs.Nested.{Grammar}
use Rattle.c_grammar_tree.specs.Expressions.{comma}
use Rattle.c_grammar_tree.specs.Statements.{optional, for_start, behind_comma_at, statement_at}

-- the statement that this terminal opens
abbrev pub statement_with : Terminal → Grammar → Form Leaf Statement
statement_with opener G = statement_at G (symbol.Terminal opener)

-- the statement that begins with an expression, as with a name
abbrev pub expression_statement : Grammar → Form Leaf Statement
expression_statement G = statement_at G symbol.Name

-- the statement that an expression begins at this place: itself, or what it labels
abbrev pub begun : ℕ → Expression → Option (Name × Statement) → Statement
begun place made None = node.Expression (Some made) place
begun place made (Some parts) = node.Labeled parts.0 parts.1

-- ";" behind an expression that is read already, or ":" and a statement behind a bare name
abbrev pub behind_comma : ℕ → Expression → Grammar → Form Leaf Statement
behind_comma place made G =
    Node (λ leaf end. begun place made end) (Choice symbol_of (behind_comma_at G (bare_name made)))

-- [comma] before a terminal, one level deeper
abbrev pub optional_comma : Terminal → Grammar → Form Leaf (Option Expression)
optional_comma closer G = Perhaps (is_not closer) (Deeper G.comma)

-- [comma] ";" [comma] ")" of a for
abbrev pub test_and_step : Grammar → Form Leaf (Option Expression × Option Expression)
test_and_step G = Pair (optional terminal.Semicolon G) (optional terminal.RightParen G)

-- "(" (declaration ; [comma] ";") [comma] ";" [comma] ")" of a for
abbrev pub for_head : Grammar → Form Leaf (ForStart × (Option Expression × Option Expression))
for_head G =
    Behind (is terminal.LeftParen) (Pair (Choice is_local_specifier (for_start G))
    (test_and_step G))

-- [comma] before ";"
abbrev pub optional_value : Grammar → Form Leaf (Option Expression)
optional_value G = Perhaps (is_not terminal.Semicolon) (comma G)

-- ["else" statement]
abbrev pub optional_else : Grammar → Form Leaf (Option Statement)
optional_else G = Nearest (is terminal.Else) (Skip (Deeper G.statement))

-- statement ["else" statement] of an if
abbrev pub branches : Grammar → Form Leaf (Statement × Option Statement)
branches G = Pair (Deeper G.statement) (optional_else G)

-- conditional ":" of a case
abbrev pub case_value : Grammar → Form Leaf Expression
case_value G = Before (Deeper G.conditional) (is terminal.Colon)

-- parts one level deeper
abbrev pub deeper_statement : Grammar → Form Leaf Statement
deeper_statement G = Deeper G.statement

abbrev pub deeper_item : Grammar → Form Leaf BlockItem
deeper_item G = Deeper G.item
