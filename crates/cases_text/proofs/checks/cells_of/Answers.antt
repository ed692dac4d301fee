-- The tokens of the text in the model are what its tree is read from.
use Rattle.std.proofs.Common.{sym, subst}
use Rattle.c_lexer.specs.Parts.{Tokens}
use Rattle.cases_text.proofs.checks.cells_of.Goals as goal

pub parse-requires : goal.parse-requires
parse-requires c = (
  c.args.model,
  subst (Tokens c.args.model c.args.text.now) (sym c.deref.ensures.value)
      c.in_ok-tokens.ensures.ok,
)
