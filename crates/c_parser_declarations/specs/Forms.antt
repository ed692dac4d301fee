-- Parts of the grammar of declarations that have readers of their own (C11 6.7).
use Rattle.std.specs.Prelude.{Bool, true, List, ◌∷◌, Option}
use Rattle.c_grammar_forms.specs.Forms.{Form, Skip, Pair, Node, Deeper, Many, Perhaps}
use Rattle.c_grammar_symbols.specs.declared.words.Terminal.TheVariants as terminal
use Rattle.c_grammar_symbols.specs.Symbols.{Leaf}
use Rattle.c_grammar_tree.specs.declared.name.Name.{Name}
use Rattle.c_grammar_tree.specs.declared.expression.Expression.{Expression}
use Rattle.c_grammar_tree.specs.declared.declaration.Initializer.{Initializer}
use Rattle.c_grammar_tree.specs.declared.declaration.Enumerator.{Enumerator}
use Rattle.c_grammar_tree.specs.declared.declaration.Declarator.{Declarator}
use Rattle.c_grammar_tree.specs.declared.declaration.Declaration.{Declaration}
use Rattle.c_grammar_tree.specs.Parts.{is_not}
use Rattle.c_grammar_tree.specs.Nested.{Grammar}
use Rattle.c_grammar_tree.specs.Declarations.{element, declarator_of, declarator_rest}
use Rattle.c_grammar_tree.specs.Declarations.{more_declarators, qualifiers, Words, enum_words}
use Rattle.c_grammar_tree.specs.Declarations.{enumeration}

-- assignment (",", or "}" that is not taken)
abbrev pub listed_value : Grammar → Form Leaf Expression
listed_value G = element (Deeper G.assignment)

-- {assignment (",", or "}" that is not taken)} before "}"
abbrev pub elements : Grammar → Form Leaf (List Expression)
elements G = Many (is_not terminal.RightBrace) (listed_value G)

-- enumerator (",", or "}" that is not taken)
abbrev pub listed_enumerator : Grammar → Form Leaf Enumerator
listed_enumerator G = element (Deeper G.enumerator)

-- "enum" with a tag or enumerators, and keywords that are no words of types
abbrev pub enum_type : (Leaf → Bool) → Grammar → Form Leaf Words
enum_type goes G = Node enum_words (Skip (Pair (enumeration G true) (qualifiers goes)))

-- [conditional] before "]"
abbrev pub optional_length : Grammar → Form Leaf (Option Expression)
optional_length G = Perhaps (is_not terminal.RightBracket) (Deeper G.conditional)

-- ["[" [conditional] "]"] {attribute} ["=" initializer] behind a name, which is read already
abbrev pub declarator_behind : Name → Grammar → Form Leaf Declarator
declarator_behind name G = Node (λ leaf rest. declarator_of (name, rest)) (declarator_rest G)

-- {"," declarator} behind a first declarator, which is read already
abbrev pub declarators_behind : Declarator → Grammar → Form Leaf (List Declarator)
declarators_behind first G = Node (λ leaf more. first ∷ more) (more_declarators G)

-- parts one level deeper
abbrev pub deeper_list : Grammar → Form Leaf Initializer
deeper_list G = Deeper G.list

abbrev pub deeper_declaration : Grammar → Form Leaf Declaration
deeper_declaration G = Deeper G.declaration
