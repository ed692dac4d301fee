-- The tokens of the bytes, and then their tree.
use Rattle.std.proofs.Common.{sym, subst}
use Rattle.std.specs.Prelude.{Result, IfErr}
use Rattle.std.proofs.lemmas.Result.{IfErr-weaker, err_from_is_err_and}
use Rattle.c_lexer.specs.Parts.{Tokens}
use Rattle.c_lexer.specs.declared.fault.TextError.{TextError}
use Rattle.c_parser.specs.Faults.{IsRefused as NoTreeRefused}
use Rattle.c_grammar_tree.specs.declared.item.Unit.{Unit as UnitTree}
use Rattle.c_program.specs.Programs.{IsRefused}
use Rattle.c_program.proofs.Refusals.{tokens_refused, tree_refused}
use Rattle.c_program.proofs.text.tree.Goals as goal

pub returns-in_err-tokens-clause-fault : goal.returns-in_err-tokens-clause-fault
returns-in_err-tokens-clause-fault c =
    let p = err_from_is_err_and c.from_residual.result c.from_residual.ensures.1 in
    subst (λ (r : Result UnitTree TextError). IfErr r (IsRefused c.args.model c.args.bytes.now))
    (sym p.1)
    (subst (IsRefused c.args.model c.args.bytes.now) (sym p.2)
    (tokens_refused c.args.model c.no_program_has_a_fault.ensures c.args.bytes.now _
    c.in_err-tokens.ensures.fault))

pub parse-requires : goal.parse-requires
parse-requires c = (
  c.args.model,
  subst (Tokens c.args.model c.args.bytes.now) (sym c.as_slice.ensures.value)
      c.in_ok-tokens.ensures.ok,
)

pub returns-clause-fault : goal.returns-clause-fault
returns-clause-fault c =
    let falls = subst (Tokens c.args.model c.args.bytes.now) (sym c.as_slice.ensures.value)
    c.in_ok-tokens.ensures.ok in
    IfErr-weaker c.parse.result _ _
    (λ (e : TextError) (is : NoTreeRefused c.args.bytes.now c.as_slice.result.now e).
    tree_refused c.args.model c.no_program_has_a_fault.ensures c.args.bytes.now
    c.as_slice.result.now e falls
    is) c.parse.ensures.fault
