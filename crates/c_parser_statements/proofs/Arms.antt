-- What each token calls for.
use Rattle.std.specs.Prelude.{◌≡◌, ℕ, true, false, Option, None, Some}
use Rattle.std.proofs.Common.{sym, refl, ap}
use Rattle.c_grammar_forms.specs.Forms.{Form, Nothing, One, Skip, Node, Deeper}
use Rattle.c_grammar_forms.specs.lemmas.Choices.{Same, same_form, impossible}
use Rattle.c_grammar_symbols.specs.declared.words.Terminal.TheVariants as terminal
use Rattle.c_grammar_symbols.specs.declared.symbol.Symbol.{Symbol}
use Rattle.c_grammar_symbols.specs.declared.symbol.Symbol.TheVariants as symbol
use Rattle.c_grammar_symbols.specs.Symbols.{Leaf}
use Rattle.c_grammar_symbols.specs.Sources.{is_terminal}
use Rattle.c_grammar_tree.specs.declared.name.Name.{Name}
use Rattle.c_grammar_tree.specs.declared.expression.Expression.{Expression}
use Rattle.c_grammar_tree.specs.declared.statement.Statement.{Statement}
use Rattle.c_grammar_tree.specs.declared.statement.Statement.TheVariants as node
use Rattle.c_grammar_tree.specs.Nested.{Grammar}
use Rattle.c_grammar_tree.specs.Statements.{behind_comma_at, labeled_or_not, statement_at}
use Rattle.c_parser_statements.specs.Kinds.{kind_of, opener}
use Rattle.c_parser_statements.specs.Forms.{begun}

-- a statement is the one that its first token opens
pub arm_kind : (G : Grammar) (s : Symbol) → Same (statement_at G s)
    (statement_at G (opener (kind_of s)))
unfolding statement_at
arm_kind G (symbol.Terminal terminal.LeftBrace) = same_form
arm_kind G (symbol.Terminal terminal.Semicolon) = same_form
arm_kind G (symbol.Terminal terminal.If) = same_form
arm_kind G (symbol.Terminal terminal.While) = same_form
arm_kind G (symbol.Terminal terminal.Do) = same_form
arm_kind G (symbol.Terminal terminal.For) = same_form
arm_kind G (symbol.Terminal terminal.Switch) = same_form
arm_kind G (symbol.Terminal terminal.Case) = same_form
arm_kind G (symbol.Terminal terminal.Default) = same_form
arm_kind G (symbol.Terminal terminal.Goto) = same_form
arm_kind G (symbol.Terminal terminal.Break) = same_form
arm_kind G (symbol.Terminal terminal.Continue) = same_form
arm_kind G (symbol.Terminal terminal.Return) = same_form
arm_kind G _ = same_form

-- behind an expression: a colon and what a name labels
abbrev pub label_form : Name → Grammar → Form Leaf (Option (Name × Statement))
label_form name G = Node (λ leaf body. Some (name, body)) (Skip (Deeper G.statement))

-- a semicolon
abbrev pub end_form : Form Leaf (Option (Name × Statement))
end_form = Node (λ leaf u. None) One

pub arm_label : (G : Grammar) (name : Name) (s : Symbol) → is_terminal terminal.Colon s ≡ true →
    Same (behind_comma_at G (Some name) s) (label_form name G)
unfolding behind_comma_at
arm_label G name (symbol.Terminal terminal.Colon) e = same_form
arm_label G name _ e = impossible e

pub arm_no_label : (G : Grammar) (s : Symbol) → is_terminal terminal.Colon s ≡ true →
    Same (behind_comma_at G None s) Nothing
unfolding behind_comma_at
arm_no_label G (symbol.Terminal terminal.Colon) e = same_form
arm_no_label G _ e = impossible e

pub arm_semicolon : (G : Grammar) (name : Option Name) (s : Symbol) →
    is_terminal terminal.Semicolon s ≡ true →
    Same (behind_comma_at G name s) end_form
unfolding behind_comma_at
arm_semicolon G name (symbol.Terminal terminal.Semicolon) e = same_form
arm_semicolon G name _ e = impossible e

pub arm_neither : (G : Grammar) (name : Option Name) (s : Symbol) →
    is_terminal terminal.Colon s ≡ false →
    is_terminal terminal.Semicolon s ≡ false → Same (behind_comma_at G name s) Nothing
unfolding behind_comma_at
arm_neither G name (symbol.Terminal terminal.Semicolon) e f = impossible (sym f)
arm_neither G (Some name) (symbol.Terminal terminal.Colon) e f = impossible (sym e)
arm_neither G _ _ e f = same_form

-- what begins at the token is what begins at its place
pub begun_is : (leaf : Leaf) (place : ℕ) → place ≡ leaf.place →
    (made : Expression) (end : Option (Name × Statement)) →
    labeled_or_not leaf (made, end) ≡ begun place made end
begun_is leaf place e made None = ap (λ p. node.Expression (Some made) p) (sym e)
begun_is leaf place e made (Some parts) = refl
