use Rattle.std.proofs.Common.{◌∙◌, List, sym, subst, inr}
use Rattle.cpa_iface.specs.declared.entries.Entry.{Entry}
use Rattle.cpa_iface.specs.declared.precisions.Precision.{Precision}
use Rattle.cpa_engine_rounds.specs.Precisions.{HaveAll}
use Rattle.cpa_engine.proofs.refining.may_begin_again.Goals as goal

pub returns-then-not-search-clause-other : goal.returns-then-not-search-clause-other
returns-then-not-search-clause-other c = λ yes all.
    let none =
    c.some_other.ensures.1
    (subst (λ (ps : List Precision). HaveAll ps c.live.result.now) (sym c.as_slice.ensures)
    (subst (λ (xs : List Entry). HaveAll c.args.search.now.newest xs) (sym c.live.ensures.live)
    all)) in
    let wrong = sym yes ∙ none in absurd (cc)

pub returns-then-not-search-clause-none_other : goal.returns-then-not-search-clause-none_other
returns-then-not-search-clause-none_other c = λ none.
    inr
    (subst (λ (xs : List Entry). HaveAll c.args.search.now.newest xs) c.live.ensures.live
    (subst (λ (ps : List Precision). HaveAll ps c.live.result.now) c.as_slice.ensures
    (c.some_other.ensures.0 none)))
