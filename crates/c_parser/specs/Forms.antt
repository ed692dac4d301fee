-- Parts of the grammar of items that have readers of their own (C11 6.9).
use Rattle.std.specs.Prelude.{◌≡◌, ℕ, true, List, [], map, Some}
use Rattle.c_grammar_forms.specs.Forms.{Form, Node, Skip, Pair, Before, Choice}
use Rattle.c_grammar_symbols.specs.declared.named.NamedType.{NamedType}
use Rattle.c_grammar_symbols.specs.declared.words.Terminal.TheVariants as terminal
use Rattle.c_grammar_symbols.specs.Symbols.{Leaf, symbol_of}
use Rattle.c_grammar_symbols.specs.Sources.{is}
use Rattle.c_grammar_tree.specs.declared.name.Name.{Name}
use Rattle.c_grammar_tree.specs.declared.declaration.Specifiers.{Specifiers}
use Rattle.c_grammar_tree.specs.declared.item.Item.{Item}
use Rattle.c_grammar_tree.specs.declared.item.Item.TheVariants as node
use Rattle.c_grammar_tree.specs.Parts.{is_typedef_specifier, is_listed}
use Rattle.c_grammar_tree.specs.Nested.{Grammar}
use Rattle.c_grammar_tree.specs.Declarations.{enumeration, specifiers}
use Rattle.c_grammar_tree.specs.Items.{named_at, declared_at, declared_of, typedef_names}
use Rattle.c_grammar_tree.specs.Items.{behind_typedefs, unit_items_behind}

-- the item with these specifiers and this name, which are read already
abbrev pub item_named : Specifiers → Name → Grammar → Form Leaf Item
item_named front name G =
    Node (λ leaf found. declared_of front (Some (name, found)))
    (Choice symbol_of (named_at G (is_listed front.enumeration) name))

-- the item with these specifiers, which are read already
abbrev pub item_behind : Specifiers → Grammar → Form Leaf Item
item_behind front G =
    Node (λ leaf found. declared_of front found)
    (Choice symbol_of (declared_at G (is_listed front.enumeration)))

-- "typedef" specifiers name {"," name} ";"
abbrev pub typedef_item : Grammar → Form Leaf Item
typedef_item G = Node (λ leaf parts. node.Typedef parts.0 parts.1 leaf.place)
    (Skip (Pair (specifiers (enumeration G true) is_typedef_specifier)
    (Before typedef_names (is terminal.Semicolon))))

-- {item} before the end of the text
abbrev pub all_items : Grammar → Form Leaf (List Item)
all_items G = unit_items_behind G []

-- the tokens are those, seen behind declarations of typedef names
abbrev pub AreSeen : List Leaf → List Leaf → Type 0
AreSeen old new = (es : List (List ℕ × NamedType)) × (new ≡ map (behind_typedefs es) old)
