-- The grammar of statements (C11 6.8).
use Rattle.std.specs.Prelude.{Bool, true, false, List, Option, None, Some}
use Rattle.c_grammar_forms.specs.Forms.{Form, Nothing, One, Such, Skip, Behind, Before, Pair, Then}
use Rattle.c_grammar_forms.specs.Forms.{Node, Deeper, Choice, Many, Perhaps, Nearest}
use Rattle.c_grammar_symbols.specs.declared.words.Terminal.{Terminal}
use Rattle.c_grammar_symbols.specs.declared.words.Terminal.TheVariants as terminal
use Rattle.c_grammar_symbols.specs.declared.symbol.Symbol.{Symbol}
use Rattle.c_grammar_symbols.specs.declared.symbol.Symbol.TheVariants as symbol
use Rattle.c_grammar_symbols.specs.Symbols.{Leaf, symbol_of}
use Rattle.c_grammar_symbols.specs.Sources.{is}
use Rattle.c_grammar_tree.specs.declared.name.Name.{Name}
use Rattle.c_grammar_tree.specs.declared.expression.Expression.{Expression}
use Rattle.c_grammar_tree.specs.declared.statement.Statement.{Statement}
use Rattle.c_grammar_tree.specs.declared.statement.Statement.TheVariants as node
use Rattle.c_grammar_tree.specs.declared.statement.BlockItem.{BlockItem}
use Rattle.c_grammar_tree.specs.declared.statement.BlockItem.TheVariants as in_block
use Rattle.c_grammar_tree.specs.declared.statement.ForStart.{ForStart}
use Rattle.c_grammar_tree.specs.declared.statement.ForStart.TheVariants as in_for
use Rattle.c_grammar_tree.specs.Parts.{is_not, is_local_specifier, bare_name}
use Rattle.c_grammar_tree.specs.Nested.{Grammar}
use Rattle.c_grammar_tree.specs.Expressions.{comma}
use Rattle.c_grammar_tree.specs.Declarations.{identifier, block_declaration}

-- {declaration ; statement} before "}" (C11 6.8.2)
abbrev pub block_items : Grammar → Form Leaf (List BlockItem)
block_items G = Many (is_not terminal.RightBrace) (Deeper G.item)

-- the same and "}"
unfoldable pub items : Grammar → Form Leaf (List BlockItem)
items G = Before (block_items G) (is terminal.RightBrace)

-- "(" comma ")"
unfoldable pub condition : Grammar → Form Leaf Expression
condition G = Behind (is terminal.LeftParen) (Before (Deeper G.comma) (is terminal.RightParen))

-- [comma] and the terminal behind it, one level deeper
unfoldable pub optional : Terminal → Grammar → Form Leaf (Option Expression)
optional closer G = Before (Perhaps (is_not closer) (Deeper G.comma)) (is closer)

-- the first part of a for: declaration ; [comma] ";" (C11 6.8.5.3)
unfoldable pub for_start : Grammar → Bool → Form Leaf ForStart
for_start G true = Node (λ leaf made. in_for.Declaration made) (Deeper G.declaration)
for_start G false = Node (λ leaf made. in_for.Expression made) (optional terminal.Semicolon G)

-- ";" behind an expression, or ":" and a statement behind a bare name (C11 6.8.1 and 6.8.3)
unfoldable pub behind_comma_at : Grammar → Option Name → Symbol →
    Form Leaf (Option (Name × Statement))
behind_comma_at G name (symbol.Terminal terminal.Semicolon) = Node (λ leaf u. None) One
behind_comma_at G (Some name) (symbol.Terminal terminal.Colon) =
    Node (λ leaf body. Some (name, body)) (Skip (Deeper G.statement))
behind_comma_at G _ _ = Nothing

abbrev pub labeled_or_not : Leaf → Expression × Option (Name × Statement) → Statement
labeled_or_not leaf (made, None) = node.Expression (Some made) leaf.place
labeled_or_not leaf (made, Some parts) = node.Labeled parts.0 parts.1

unfoldable pub statement_at : Grammar → Symbol → Form Leaf Statement
-- "{" {item} "}" (C11 6.8.2)
statement_at G (symbol.Terminal terminal.LeftBrace) =
    Node (λ leaf made. node.Block made leaf.place) (Skip (items G))
-- ";" (C11 6.8.3)
statement_at G (symbol.Terminal terminal.Semicolon) =
    Node (λ leaf u. node.Expression None leaf.place) One
-- "if" "(" comma ")" statement ["else" statement], the else of the nearest if (C11 6.8.4.1)
statement_at G (symbol.Terminal terminal.If) =
    Node (λ leaf parts. node.If parts.0 parts.1.0 parts.1.1 leaf.place)
    (Skip (Pair (condition G) (Pair (Deeper G.statement)
    (Nearest (is terminal.Else) (Skip (Deeper G.statement))))))
-- "while" "(" comma ")" statement (C11 6.8.5.1)
statement_at G (symbol.Terminal terminal.While) =
    Node (λ leaf parts. node.While parts.0 parts.1 leaf.place)
    (Skip (Pair (condition G) (Deeper G.statement)))
-- "do" statement "while" "(" comma ")" ";" (C11 6.8.5.2)
statement_at G (symbol.Terminal terminal.Do) =
    Node (λ leaf parts. node.Do parts.0 parts.1 leaf.place)
    (Skip (Pair (Before (Deeper G.statement) (is terminal.While))
    (Before (condition G) (is terminal.Semicolon))))
-- "for" "(" (declaration ; [comma] ";") [comma] ";" [comma] ")" statement (C11 6.8.5.3)
statement_at G (symbol.Terminal terminal.For) =
    Node (λ leaf parts. node.For parts.0 parts.1.0 parts.1.1.0 parts.1.1.1 leaf.place)
    (Skip (Behind (is terminal.LeftParen) (Pair (Choice is_local_specifier (for_start G))
    (Pair (optional terminal.Semicolon G) (Pair (optional terminal.RightParen G)
    (Deeper G.statement))))))
-- "switch" "(" comma ")" statement (C11 6.8.4.2)
statement_at G (symbol.Terminal terminal.Switch) =
    Node (λ leaf parts. node.Switch parts.0 parts.1 leaf.place)
    (Skip (Pair (condition G) (Deeper G.statement)))
-- "case" conditional ":" statement ; "default" ":" statement (C11 6.8.1)
statement_at G (symbol.Terminal terminal.Case) =
    Node (λ leaf parts. node.Case parts.0 parts.1 leaf.place)
    (Skip (Pair (Before (Deeper G.conditional) (is terminal.Colon)) (Deeper G.statement)))
statement_at G (symbol.Terminal terminal.Default) =
    Node (λ leaf body. node.Default body leaf.place)
    (Skip (Behind (is terminal.Colon) (Deeper G.statement)))
-- "goto" Word ";" (C11 6.8.6.1)
statement_at G (symbol.Terminal terminal.Goto) = Node (λ leaf label. node.Goto label leaf.place)
    (Skip (Before identifier (is terminal.Semicolon)))
-- "break" ";" ; "continue" ";" (C11 6.8.6)
statement_at G (symbol.Terminal terminal.Break) =
    Node (λ leaf u. node.Break leaf.place) (Skip (Such (is terminal.Semicolon)))
statement_at G (symbol.Terminal terminal.Continue) =
    Node (λ leaf u. node.Continue leaf.place) (Skip (Such (is terminal.Semicolon)))
-- "return" [comma] ";" (C11 6.8.6.4)
statement_at G (symbol.Terminal terminal.Return) = Node (λ leaf value. node.Return value leaf.place)
    (Skip (Before (Perhaps (is_not terminal.Semicolon) (comma G)) (is terminal.Semicolon)))
-- comma ";" ; Word ":" statement (C11 6.8.3 and 6.8.1). A comma that is a bare name is read before
-- what follows is seen
statement_at G _ = Node labeled_or_not (Then (comma G)
    (λ made. Choice symbol_of (behind_comma_at G (bare_name made))))

unfoldable pub statement : Grammar → Form Leaf Statement
statement G = Choice symbol_of (statement_at G)

unfoldable pub item_by : Grammar → Bool → Form Leaf BlockItem
item_by G true = Node (λ leaf made. in_block.Declaration made) (block_declaration G)
item_by G false = Node (λ leaf made. in_block.Statement made) (statement G)

-- declaration ; statement (C11 6.8.2)
unfoldable pub item : Grammar → Form Leaf BlockItem
item G = Choice is_local_specifier (item_by G)
