use Rattle.std.proofs.Common.{◌≡◌, ◌∙◌, ℕ, ◌-◌, List, [], ◌∷◌, ◌++◌, length, refl, ap, subst, arith}
use Rattle.cpa_iface.specs.declared.precisions.Precision.{Precision}
use Rattle.cpa_composite.specs.Composites.{components}
use Rattle.cpa_engine_rounds.specs.Clearing.{BeginsBelow}
use Rattle.cpa_engine.specs.Rounds.{before_pivot}
use Rattle.cpa_engine.proofs.Ancestors.{path_up}
use Rattle.cpa_engine.proofs.Histories.{item, refined_begins, refined_binds}
use Rattle.cpa_engine.proofs.refining.begin_refined.Goals as goal

pub returns : goal.returns
returns g c =
    let cfa = c.args.cfa.now in
    let cs = components c.args.composite.now in
    let config = c.args.config.now in
    let s = c.args.search.now in
    let new = c.begin_round.new.reached in
    let pivot = c.ancestor-pivot.result in
    let longer = c.args.longer.items in
    let path = c.args.path in
    let long = length path.edges in
    let begins : BeginsBelow pivot longer s.reached new =
    subst (λ (ps : List Precision). BeginsBelow pivot ps s.reached new) c.deref-2.ensures.value
    c.in_ok-begin_round.ensures in
    let place : c.in_ok-place.place ≡ before_pivot cfa path s.newest longer =
    c.in_ok-place.ensures.pivot
    ∙ ap (λ (ps : List Precision). before_pivot cfa path ps c.deref.result.now) c.as_slice.ensures
    ∙ ap (λ (ps : List Precision). before_pivot cfa path s.newest ps) c.deref.ensures.value in
    let edges : c.len.result ≡ long = c.len.ensures in
    let count = c.len.result - c.in_ok-place.place in
    let wanted = long - before_pivot cfa path s.newest longer in
    let same : count ≡ wanted =
    ap (λ (n : ℕ). n - c.in_ok-place.place) edges ∙ ap (λ (n : ℕ). long - n) place in
    refined_begins cfa cs config s new path longer c.from_vec-2.result c.push.new.self
    c.requires.search
    (c.rounds_begin.ensures cfa cs config.settings pivot longer s.reached new
    c.requires.found.numbered c.requires.refined.precisions
    (λ exact. refined_binds cfa cs path s.newest longer c.requires.search.came.precisions.size
    c.requires.refined (c.requires.search.came.binds exact)) begins
    c.requires.search.stands)
    begins.journal
    (record {
      path = path;
      leads = record {
        number = c.args.number;
        least = c.requires.found.least;
        way = c.requires.path;
      };
      refuted = c.requires.refuted;
      fewer = c.requires.more;
      refined = c.requires.refined;
      pivot = pivot;
      above = path_up s.reached.live c.args.number pivot count wanted path.edges
          c.ancestor-pivot.ensures.up c.requires.path (omega (arith, edges)) same;
      begins = begins;
      history = refl;
      again = refl;
    })
    c.requires.refuted c.requires.refined c.requires.more
    (c.from_vec-2.ensures ∙ c.in_ok-newest.ensures ∙ c.deref-3.ensures.value)
    (c.in_ok-push.ensures.ok
    ∙ ap (λ (ps : List Precision). s.history ++ item path ps ∷ []) c.from_vec.ensures)
