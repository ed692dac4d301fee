use Rattle.std.proofs.Common.{◌≡◌, ℕ, ◌+◌, List, Some, get_or, drop, refl, sym, ap, ◌∙◌}
use Rattle.std.proofs.Common.{◌∷◌, arith, subst}
use Rattle.std.proofs.lemmas.List.{drop_more, drop_all}
use Rattle.cpa_composite.specs.Composites.{components}
use Rattle.cpa_composite.specs.Covers.{all_cover}
use Rattle.cpa_engine_turn.proofs.Fellows.{cover_passes}
use Rattle.cpa_engine_turn.proofs.Looking.{CoversSo, CoversNext, covers_first, next_cover}
use Rattle.cpa_engine_turn.proofs.Looking.{covers_then, no_cover}
use Rattle.cpa_engine_turn.proofs.settling.covering.Goals as goal

pub loop-number-init : goal.loop-number-init
loop-number-init g c = record {
  so = covers_first (components c.args.composite.now) c.args.elems.now c.args._key.now.elems
      c.args.reached.now c.args.left.now c.requires;
}

pub covers-requires : goal.covers-requires
covers-requires g c =
    let cs = components c.args.composite.now in
    let es = c.args.elems.now in
    let r = c.args.reached.now in
    let key = c.args._key.now.elems in
    let ns = c.args.left.now in
    let i = c.loop-number.number-index in
    let n = get_or ns i 0 in
    let next : CoversNext cs es key r n (drop (i + 1) ns) =
    next_cover cs es key r n (drop (i + 1) ns)
    (subst (λ (l : List ℕ). CoversSo cs es key r l) (drop_more ns i 0 c.loop-number-test.true)
    c.loop-number.invariant.so) in
    record { entry = next.entry; is_in = next.is_in; is = next.number }

pub returns-then-covers : goal.returns-then-covers
returns-then-covers g c =
    let cs = components c.args.composite.now in
    let es = c.args.elems.now in
    let r = c.args.reached.now in
    let key = c.args._key.now.elems in
    let ns = c.args.left.now in
    let i = c.loop-number.number-index in
    let n = get_or ns i 0 in
    let next : CoversNext cs es key r n (drop (i + 1) ns) =
    next_cover cs es key r n (drop (i + 1) ns)
    (subst (λ (l : List ℕ). CoversSo cs es key r l) (drop_more ns i 0 c.loop-number-test.true)
    c.loop-number.invariant.so) in
    let covers : all_cover cs es next.entry.elems ≡ c.covers.result =
    sym (c.covers.ensures next.entry next.is_in next.number) in
    sym (next.same
    ∙ (cover_passes cs es (next.entry ∷ next.after) next.after next.entry refl
    (covers ∙ c.if-covers.true)
    ∙ ap Some next.number))

pub loop-number-preserved : goal.loop-number-preserved
loop-number-preserved g c =
    let cs = components c.args.composite.now in
    let es = c.args.elems.now in
    let r = c.args.reached.now in
    let key = c.args._key.now.elems in
    let ns = c.args.left.now in
    let i = c.loop-number.number-index in
    let n = get_or ns i 0 in
    let next : CoversNext cs es key r n (drop (i + 1) ns) =
    next_cover cs es key r n (drop (i + 1) ns)
    (subst (λ (l : List ℕ). CoversSo cs es key r l) (drop_more ns i 0 c.loop-number-test.true)
    c.loop-number.invariant.so) in
    let covers : all_cover cs es next.entry.elems ≡ c.covers.result =
    sym (c.covers.ensures next.entry next.is_in next.number) in
    record {
      so = covers_then cs es key r n (drop (i + 1) ns) next (covers ∙ c.if-covers.false);
    }

pub returns : goal.returns
returns g c =
    let cs = components c.args.composite.now in
    let es = c.args.elems.now in
    let r = c.args.reached.now in
    let key = c.args._key.now.elems in
    let end = c.loop-number-test.false in
    sym (no_cover cs es key r
    (subst (λ (l : List ℕ). CoversSo cs es key r l)
    (drop_all c.loop-number.number-index c.args.left.now (omega (arith, end)))
    c.loop-number.invariant.so))
