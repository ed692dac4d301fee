-- The tokens of the text are what its tree is read from.
use Rattle.std.proofs.Common.{sym, subst}
use Rattle.cpa_ints.specs.declared.data_model.DataModel.TheVariants.{Lp64}
use Rattle.c_lexer.specs.Parts.{Tokens}
use Rattle.cases_text.proofs.trees.line.Goals as goal

pub parse-requires : goal.parse-requires
parse-requires c = (
  Lp64,
  subst (Tokens Lp64 c.args.text.now) (sym c.deref.ensures.value)
      c.in_ok-tokens.ensures.ok,
)
