-- The forms of the parts that stand one level deeper than what they are a part of (`Deeper`), this
-- project's own rule. These are: what stands in round, square or curly brackets, between the
-- brackets of a `for` too; a part behind a prefix or a cast, the type of a cast, the parts behind
-- `?` and `:`, the right side of an assignment, what stands behind the `=` of an initializer or an
-- enumerator; the parts of `if`, `while`, `do`, `for` and `switch`, what stands behind `else`,
-- `case`, its `:`, that of `default` or a label. The first operand
-- of a chain or a conditional, the later operands of a chain, the left side of an assignment, the
-- later expressions of a comma list, a base before its suffixes and the value of a `return` have
-- the level of the whole. Tokens that are skipped have no level.
use Rattle.c_grammar_forms.specs.Forms.{Form}
use Rattle.c_grammar_symbols.specs.Symbols.{Leaf}
use Rattle.c_grammar_tree.specs.declared.expression.Expression.{Expression}
use Rattle.c_grammar_tree.specs.declared.declaration.Declaration.{Declaration}
use Rattle.c_grammar_tree.specs.declared.declaration.Initializer.{Initializer}
use Rattle.c_grammar_tree.specs.declared.declaration.Enumerator.{Enumerator}
use Rattle.c_grammar_tree.specs.declared.statement.Statement.{Statement}
use Rattle.c_grammar_tree.specs.declared.statement.BlockItem.{BlockItem}

pub record Grammar : Type 1 where
  pub comma : Form Leaf Expression
  pub assignment : Form Leaf Expression
  pub conditional : Form Leaf Expression
  pub cast : Form Leaf Expression
  pub unary : Form Leaf Expression
  pub list : Form Leaf Initializer
  pub enumerator : Form Leaf Enumerator
  pub declaration : Form Leaf Declaration
  pub statement : Form Leaf Statement
  pub item : Form Leaf BlockItem
