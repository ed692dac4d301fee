-- What the readers of the grammar promise (this project's own).
use Rattle.std.specs.Prelude.{ℕ, ◌+◌, ◌-◌, ◌≤◌, Bool, cond, List, length, Result}
use Rattle.c_grammar_forms.specs.declared.fault.ReadError.{ReadError}
use Rattle.c_grammar_forms.specs.declared.fault.ReadError.TheVariants.{Unexpected, TooDeep}
use Rattle.c_grammar_forms.specs.Forms.{Form, Deeper}
use Rattle.c_grammar_forms.specs.Reading.{Answers}
use Rattle.c_grammar_symbols.specs.Symbols.{Leaf}
use Rattle.c_grammar_symbols.specs.Sources.{leaf_at}
use Rattle.c_grammar_tree.specs.declared.expression.Expression.{Expression}
use Rattle.c_grammar_tree.specs.declared.declaration.Enumerator.{Enumerator}
use Rattle.c_grammar_tree.specs.declared.TheConstants.{MAX_LEVEL}
use Rattle.c_grammar_tree.specs.Nested.{Grammar}
use Rattle.c_grammar_tree.specs.Grammar.{grammar}

-- what a reader of this form answers at a place of these tokens, with so many levels left: a part
-- and the place behind it; or a token through which there is no such part, and where that is for
-- want of levels, at least MAX_LEVEL tokens stand before it
abbrev pub Gives : {T : Type 0} → (Grammar → Form Leaf T) → List Leaf → ℕ → ℕ →
    Result (T × ℕ) ReadError → Type 0
Gives A leaves left at answer =
    Answers MAX_LEVEL (λ n. A (grammar n)) (leaf_at leaves) (length leaves) left at answer

-- parts one level deeper
abbrev pub deeper_comma : Grammar → Form Leaf Expression
deeper_comma G = Deeper G.comma

abbrev pub deeper_assignment : Grammar → Form Leaf Expression
deeper_assignment G = Deeper G.assignment

abbrev pub deeper_conditional : Grammar → Form Leaf Expression
deeper_conditional G = Deeper G.conditional

abbrev pub deeper_cast : Grammar → Form Leaf Expression
deeper_cast G = Deeper G.cast

abbrev pub deeper_unary : Grammar → Form Leaf Expression
deeper_unary G = Deeper G.unary

abbrev pub deeper_enumerator : Grammar → Form Leaf Enumerator
deeper_enumerator G = Deeper G.enumerator

-- so many tokens stand before the place, at least, that where no level is left they are
-- MAX_LEVEL - 1
abbrev pub HasRoom : ℕ → ℕ → Type 0
HasRoom left at = MAX_LEVEL - 1 ≤ left + at

-- the same of a part one level deeper, before which stands the token that opens it
abbrev pub HasRoomBelow : ℕ → ℕ → Type 0
HasRoomBelow left at = MAX_LEVEL ≤ left + at

-- the error at a place where no level is left for a part: where the part could begin there, levels
-- are wanting
abbrev pub no_level : Bool → ℕ → ReadError
no_level begins at = cond begins (TooDeep at) (Unexpected at)
