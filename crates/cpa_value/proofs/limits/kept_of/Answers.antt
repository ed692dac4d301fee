-- The noted values are those that are seen.
use Rattle.std.proofs.Common.{◌≡◌, ◌∙◌, ap, List}
use Rattle.std.specs.List.{filter, slice_index_or}
use Rattle.std.specs.Prelude.{[]}
use Rattle.std.proofs.lemmas.Result.{IfOk-weaker}
use Rattle.cpa_facts.specs.declared.fact.Fact.{Fact}
use Rattle.cpa_model.specs.declared.facts.Elem.{Elem}
use Rattle.cpa_value.specs.Limits.{is_kept, seen}
use Rattle.cpa_value.proofs.LimitLemmas.{kept_by_noted}
use Rattle.cpa_value.proofs.limits.kept_of.Goals as goal

pub returns : goal.returns
returns c =
    let none = c.args.values.now in
    let same = kept_by_noted c.args.limit c.args.elem.now c.args.reached.now c.args.place none
    c.note_facts.new.values c.note_entries.new.values
    c.requires.none c.requires.inside c.note_facts.auto.values
    c.in_ok-note_facts.ensures
    c.in_ok-note_entries.ensures in
    let with_facts = λ (fs : List Fact). let r : Elem = record { facts = fs } in r in
    let noted = filter (is_kept c.args.limit
    (λ cell. slice_index_or c.note_entries.new.values cell [])) c.args.elem.now.facts in
    let kept = filter (is_kept c.args.limit (seen c.args.elem.now c.args.reached.now c.args.place))
    c.args.elem.now.facts in
    IfOk-weaker c.kept.result (λ (e : Elem). e ≡ with_facts noted)
    (λ (e : Elem). e ≡ with_facts kept)
    (λ (e : Elem) is. is ∙ ap with_facts same) c.kept.ensures
