use Rattle.std.proofs.Common.{◌≡◌, ℕ, ◌-◌, ◌<◌, length, get_or, drop, subst, arith}
use Rattle.cpa_model.specs.Programs.{after_item}
use Rattle.cfa_build.specs.Places.{PartsPlaced}
use Rattle.cfa_build.proofs.Tables.{placed_before}
use Rattle.cfa_build.proofs.places.place_items.Goals as goal

pub loop-i-preserved : goal.loop-i-preserved
loop-i-preserved c =
    let item_inside : get_or c.args.items.now (c.loop-i.i - 1) 0 < length c.args.places.now =
    c.requires (c.loop-i.i - 1) 0 (omega arith) in
    placed_before c.args.items.now c.loop-i.i c.args.whole c.loop-i.place c.args.places.now
    c.loop-i.places (omega arith) (omega arith) (omega arith) c.loop-i.invariant

pub returns : goal.returns
returns c =
    let P : ℕ → Type 0 =
    λ i. PartsPlaced (after_item (drop i c.args.items.now)) c.args.whole
    c.args.places.now c.loop-i.places in
    let start : c.loop-i.i ≡ 0 = omega arith in
    subst P start c.loop-i.invariant.0
