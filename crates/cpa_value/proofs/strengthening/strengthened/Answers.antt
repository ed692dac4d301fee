-- The cells of an automaton are few, and those that are tracked are the precision's.
use Rattle.std.specs.Prelude.{Option}
use Rattle.std.proofs.Common.{sym, ◌∙◌, length}
use Rattle.std.proofs.lemmas.Result.{IfOk-weaker}
use Rattle.cpa_model.specs.declared.facts.Elem.{Elem}
use Rattle.cpa_value.proofs.ChangeLemmas.{few_cells, strengthened_is}
use Rattle.cpa_value.proofs.strengthening.strengthened.Goals as goal

pub met-requires : goal.met-requires
met-requires c =
    few_cells c.args.cfa.now c.len-count.result c.requires.automaton c.len-count.ensures

pub returns-then-some_point : goal.returns-then-some_point
returns-then-some_point c = IfOk-weaker _ _ _ (λ (e : Option Elem) is.
    strengthened_is (length c.args.cfa.now.cells) c.len-count.result c.args.precision.now
    c.in_ok-tracked.tracked c.args.own.now c.args.others.now e c.len-count.ensures
    c.in_ok-tracked.ensures (sym c.some_point.ensures ∙ c.if-some_point.true) is)
    c.met.ensures
