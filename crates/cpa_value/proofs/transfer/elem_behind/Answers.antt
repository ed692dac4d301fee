-- Where no cell changes and all facts are of tracked cells, they are those behind the change.
use Rattle.std.specs.Prelude.{true}
use Rattle.std.specs.List.{list_all}
use Rattle.std.proofs.Common.{◌≡◌, rules}
use Rattle.std.proofs.lemmas.Result.{IfOk-weaker}
use Rattle.cpa_model.specs.declared.facts.Elem.{Elem}
use Rattle.cpa_folds.specs.Tracking.{is_tracked}
use Rattle.cpa_value.specs.Tables.{is_within}
use Rattle.cpa_value.proofs.ChangeLemmas.{same_elem}
use Rattle.cpa_value.proofs.transfer.elem_behind.Goals as goal

pub returns-then-change-eq0 : goal.returns-then-change-eq0
returns-then-change-eq0 c =
    let tracked = is_tracked c.args.tracked.now in
    let all : list_all (is_within tracked 0 c.args.count) c.args.elem.now.facts ≡ true =
    search rules in
    IfOk-weaker _ _ _ (λ (e : Elem) same.
    same_elem tracked c.args.count c.args.change c.args.elem.now e c.requires.ordered
    c.if-change-eq0.true all same)
    c.copy_elem.ensures
