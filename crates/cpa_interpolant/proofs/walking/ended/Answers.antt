-- All cuts are done, or there is none.
use Rattle.std.proofs.Common.{◌+◌, ◌∙◌, ap, sym}
use Rattle.cpa_folds.specs.Along.{acts_along}
use Rattle.cpa_interpolant_rules.specs.lemmas.Paths.{acts_long, one_is_expr}
use Rattle.cpa_interpolant.proofs.Walked.{all_found, starts_there, none_of, some_long}
use Rattle.cpa_interpolant.proofs.walking.ended.Goals as goal

pub model_of-requires-clause-run : goal.model_of-requires-clause-run
model_of-requires-clause-run c =
    starts_there c.args.cfa.now c.requires.automaton c.args.path.now
    (none_of c.args.path.now c.if-is_empty.ensures)

pub returns : goal.returns
returns c = λ learnt gates walked long.
    let cfa = c.args.cfa.now in
    let path = c.args.path.now in
    let count = acts_long cfa path c.requires.path in
    all_found cfa learnt gates (acts_along cfa path) c.args.exprs.items (one_is_expr cfa.cells)
    walked (long ∙ ap (λ n. n + 1) (sym count))
    (some_long cfa path c.requires.path c.if-is_empty.ensures)
