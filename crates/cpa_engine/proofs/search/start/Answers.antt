use Rattle.std.proofs.Common.{◌≡◌, ◌∙◌, ℕ, List, [], refl, sym, ap, subst}
use Rattle.cpa_iface.specs.declared.entries.Refined.{Refined}
use Rattle.cpa_iface.specs.declared.precisions.Precision.{Precision}
use Rattle.cpa_composite.specs.Components.{Component}
use Rattle.cpa_composite.specs.Composites.{components}
use Rattle.cpa_composite.specs.Keys.{key_places}
use Rattle.cpa_reached.specs.Calls.{begun, indexed}
use Rattle.cpa_reached.specs.Entries.{ReachedSet}
use Rattle.cpa_engine.specs.Searches.{IsSearch}
use Rattle.cpa_engine.proofs.Histories.{refined_search, first_search}
use Rattle.cpa_engine.proofs.search.start.Goals as goal

pub returns-clause-search : goal.returns-clause-search
returns-clause-search g c =
    let cfa = c.args.cfa.now in
    let cs = components c.args.composite.now in
    let config = c.args.config.now in
    let es = c.in_ok-elems.elems.items in
    let ps = c.in_ok-elems.precisions.items in
    let row = c.in_ok-elems.ensures.laws in
    let newest : c.from_vec.result ≡ ps =
    c.from_vec.ensures ∙ c.in_ok-newest.ensures ∙ c.deref.ensures.value in
    let places : c.deref-2.result.now ≡ key_places cs =
    c.deref-2.ensures.value ∙ (c.in_ok-places.ensures
    ∙ ap (λ (ds : List Component). key_places ds) c.initial.ensures.kept) in
    let begins : c.index_by.new.self ≡ indexed (begun es ps) (key_places cs) =
    c.in_ok-index_by.ensures.ok
    ∙ (ap (λ (r : ReachedSet). indexed r c.deref-2.result.now) c.in_ok-reached.ensures
    ∙ ap (λ (ns : List ℕ). indexed (begun es ps) ns) places) in
    subst (λ (h : List Refined). IsSearch cfa cs config
    (refined_search 0 c.index_by.new.self c.from_vec.result h)) (sym c.new-2.ensures)
    (subst (λ (qs : List Precision). IsSearch cfa cs config
    (refined_search 0 c.index_by.new.self qs [])) (sym newest)
    (subst (λ (r : ReachedSet). IsSearch cfa cs config (refined_search 0 r ps []))
    (sym begins)
    (first_search cfa cs config (indexed (begun es ps) (key_places cs)) es ps row refl
    (c.searches_begin.ensures.stands cfa cs config.settings es ps c.requires row)
    (c.searches_begin.ensures.binds cfa cs config.settings es ps row))))
