-- Where nothing more is said the own facts are those of all that is known.
use Rattle.std.proofs.Common.{refl, ◌∙◌}
use Rattle.cpa_folds.specs.Tracking.{is_tracked}
use Rattle.cpa_value.specs.Strengthening.{met_elems}
use Rattle.cpa_value.proofs.ChangeLemmas.{few_known, met_is}
use Rattle.cpa_value.proofs.strengthening.met.Goals as goal

pub met_in-requires : goal.met_in-requires
met_in-requires c =
    few_known c.args.count c.args.own.now.facts c.deref_mut.result.now c.requires
    (c.deref_mut.ensures.value ∙ c.in_ok-cells-in-More.ensures)

pub returns-in_ok-copy_elem-in-Same : goal.returns-in_ok-copy_elem-in-Same
returns-in_ok-copy_elem-in-Same c =
    met_is c.args.count c.args.own.now _ c.args.own.now.facts c.said_beside.result
    (met_elems (is_tracked c.args.tracked.now) c.args.others.now) c.in_ok-copy_elem-in-Same.ensures
    refl c.in-Same.is c.said_beside.ensures.agrees
    c.said_beside.ensures.ordered
