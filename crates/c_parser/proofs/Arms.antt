-- What each token calls for.
use Rattle.std.specs.Prelude.{◌≡◌, ℕ, Bool, true, false, not, ◌&&◌, Option, None, Some}
use Rattle.std.proofs.Common.{sym}
use Rattle.c_grammar_forms.specs.Forms.{World, Form, Nothing, One, Node, Pair, Then, Before, Choice}
use Rattle.c_grammar_forms.specs.lemmas.Choices.{Same, same_form, impossible}
use Rattle.c_grammar_symbols.specs.declared.words.Terminal.TheVariants as terminal
use Rattle.c_grammar_symbols.specs.declared.symbol.Symbol.{Symbol}
use Rattle.c_grammar_symbols.specs.declared.symbol.Symbol.TheVariants as symbol
use Rattle.c_grammar_symbols.specs.Symbols.{Leaf, symbol_of}
use Rattle.c_grammar_symbols.specs.Sources.{is, is_terminal}
use Rattle.c_grammar_tree.specs.declared.name.Name.{Name}
use Rattle.c_grammar_tree.specs.declared.item.Body.{Body}
use Rattle.c_grammar_tree.specs.declared.item.Item.{Item}
use Rattle.c_grammar_tree.specs.declared.item.Item.TheVariants as node
use Rattle.c_grammar_tree.specs.Parts.{names, is_specifier, is_listed}
use Rattle.c_grammar_tree.specs.Nested.{Grammar}
use Rattle.c_grammar_tree.specs.Declarations.{identifier, enumeration, specifiers, declarator_rest}
use Rattle.c_grammar_tree.specs.Declarations.{more_declarators}
use Rattle.c_grammar_tree.specs.Items.{Named, function, objects, is_known, have_pointer}
use Rattle.c_grammar_tree.specs.Items.{function_rest}
use Rattle.c_grammar_tree.specs.Items.{body_of, function_end_at, named_at, declared_at, declared_of}
use Rattle.c_grammar_tree.specs.Items.{unit_item_at}
use Rattle.c_parser.specs.Forms.{typedef_item}

-- the semicolon of a prototype
abbrev pub prototype_form : Form Leaf (Option Body)
prototype_form = Node (λ leaf u. None) One

-- a body
abbrev pub body_form : Name → Grammar → Form Leaf (Option Body)
body_form name G = Node (λ leaf made. Some made) (body_of G (is_known name))

pub arm_prototype : (G : Grammar) (name : Name) (pointer : Bool) (s : Symbol) →
    is_terminal terminal.Semicolon s ≡ true →
    Same (function_end_at G name pointer s) prototype_form
unfolding function_end_at
arm_prototype G name pointer (symbol.Terminal terminal.Semicolon) e = same_form
arm_prototype G name pointer _ e = impossible e

pub arm_body : (G : Grammar) (name : Name) (pointer : Bool) (s : Symbol) →
    (not pointer && is_terminal terminal.LeftBrace s) ≡ true →
    Same (function_end_at G name pointer s) (body_form name G)
unfolding function_end_at
arm_body G name false (symbol.Terminal terminal.LeftBrace) e = same_form
arm_body G name false _ e = impossible e
arm_body G name true _ e = impossible e

pub arm_no_end : (G : Grammar) (name : Name) (pointer : Bool) (s : Symbol) →
    is_terminal terminal.Semicolon s ≡ false →
    (not pointer && is_terminal terminal.LeftBrace s) ≡ false →
    Same (function_end_at G name pointer s) Nothing
unfolding function_end_at
arm_no_end G name false (symbol.Terminal terminal.Semicolon) e f = impossible (sym e)
arm_no_end G name true (symbol.Terminal terminal.Semicolon) e f = impossible (sym e)
arm_no_end G name false (symbol.Terminal terminal.LeftBrace) e f = impossible (sym f)
arm_no_end G name true _ e f = same_form
arm_no_end G name false _ e f = same_form

-- behind a name: a function
abbrev pub function_form : Name → Grammar → Form Leaf Named
function_form name G = Node (λ leaf parts. function parts.0 parts.1)
    (Then function_rest (λ found. Choice symbol_of (function_end_at G name (have_pointer found))))

-- objects
abbrev pub objects_form : Grammar → Form Leaf Named
objects_form G = Node (λ leaf parts. objects parts.0 parts.1)
    (Before (Pair (declarator_rest G) (more_declarators G)) (is terminal.Semicolon))

pub arm_function : (G : Grammar) (braces : Bool) (name : Name) (s : Symbol) →
    (not braces && is_terminal terminal.LeftParen s) ≡ true →
    Same (named_at G braces name s) (function_form name G)
unfolding named_at
arm_function G false name (symbol.Terminal terminal.LeftParen) e = same_form
arm_function G false name _ e = impossible e
arm_function G true name _ e = impossible e

pub arm_objects : (G : Grammar) (braces : Bool) (name : Name) (s : Symbol) →
    (not braces && is_terminal terminal.LeftParen s) ≡ false →
    Same (named_at G braces name s) (objects_form G)
unfolding named_at
arm_objects G false name (symbol.Terminal terminal.LeftParen) e = impossible (sym e)
arm_objects G false name _ e = same_form
arm_objects G true name _ e = same_form

-- behind specifiers: a name and what stands behind it
abbrev pub named_form : Grammar → Bool → Form Leaf (Option (Name × Named))
named_form G braces = Node (λ leaf parts. Some parts)
    (Then identifier (λ name. Choice symbol_of (named_at G braces name)))

-- nothing
abbrev pub alone_form : Form Leaf (Option (Name × Named))
alone_form = Node (λ leaf u. None) One

pub arm_alone : (G : Grammar) (braces : Bool) (s : Symbol) →
    is_terminal terminal.Semicolon s ≡ true → Same (declared_at G braces s) alone_form
unfolding declared_at
arm_alone G braces (symbol.Terminal terminal.Semicolon) e = same_form
arm_alone G braces _ e = impossible e

pub arm_named : (G : Grammar) (braces : Bool) (s : Symbol) → names s ≡ true →
    Same (declared_at G braces s) (named_form G braces)
unfolding declared_at
arm_named G braces symbol.Name e = same_form
arm_named G braces _ e = impossible e

-- what reads the one reads the other
pub record Leads {Token T : Type 0} (A B : Form Token T) : Type 0 where
  pub to : {w : World Token} {left p : ℕ} {u : T} {q : ℕ} → A w left p u q → B w left p u q

-- what is declared behind specifiers, and not nothing, has a name
pub only_named : (G : Grammar) (braces : Bool) (s : Symbol) →
    is_terminal terminal.Semicolon s ≡ false → Leads (declared_at G braces s) (named_form G braces)
unfolding declared_at
only_named G braces (symbol.Terminal terminal.Semicolon) e = impossible (sym e)
only_named G braces symbol.Name e = record { to = λ r. r }
only_named G braces _ e = record { to = λ r. absurd r.never }

-- an item: specifiers and what they declare
abbrev pub declared_form : Grammar → Form Leaf Item
declared_form G = Node (λ leaf parts. declared_of parts.0 parts.1)
    (Then (specifiers (enumeration G true) is_specifier)
    (λ front. Choice symbol_of (declared_at G (is_listed front.enumeration))))

-- a semicolon
abbrev pub empty_form : Form Leaf Item
empty_form = Node (λ leaf u. node.Empty leaf.place) One

pub arm_empty : (G : Grammar) (s : Symbol) → is_terminal terminal.Semicolon s ≡ true →
    Same (unit_item_at G s) empty_form
unfolding unit_item_at
arm_empty G (symbol.Terminal terminal.Semicolon) e = same_form
arm_empty G _ e = impossible e

pub arm_typedef : (G : Grammar) (s : Symbol) → is_terminal terminal.Typedef s ≡ true →
    Same (unit_item_at G s) (typedef_item G)
unfolding unit_item_at
arm_typedef G (symbol.Terminal terminal.Typedef) e = same_form
arm_typedef G _ e = impossible e

pub arm_declared : (G : Grammar) (s : Symbol) → is_terminal terminal.Semicolon s ≡ false →
    is_terminal terminal.Typedef s ≡ false → Same (unit_item_at G s) (declared_form G)
unfolding unit_item_at
arm_declared G (symbol.Terminal terminal.Semicolon) e f = impossible (sym e)
arm_declared G (symbol.Terminal terminal.Typedef) e f = impossible (sym f)
arm_declared G _ e f = same_form
