use Rattle.std.proofs.Common.{◌<◌, ◌≤◌, ℕ, List, length, get_or, map, take, drop, ap, arith}
use Rattle.std.proofs.lemmas.List.{get_or_default, length-append, length-drop, length-map}
use Rattle.std.proofs.lemmas.List.{length-take-le}
use Rattle.std.proofs.lemmas.List.Edits.{map_over_more}
use Rattle.cpa_reached.specs.Calls.{rename}
use Rattle.cpa_reached.proofs.renaming.rename_uses.Goals as goal

pub loop-place-preserved : goal.loop-place-preserved
loop-place-preserved c =
    let f = rename c.args.old c.args.next in
    let all = c.args.uses.now in
    let ns : List ℕ = c.loop-place.uses in
    let i = c.loop-place.place in
    let inside : i < length all = omega (arith, c.loop-place-test.true, c.len-place-end.ensures) in
    let low : i ≤ length all = omega (arith, inside) in
    let same = ap (λ (l : List ℕ). length l) c.loop-place.invariant in
    let both = length-append (map f (take i all)) (drop i all) in
    let done = length-map (take i all) f in
    let front = length-take-le i all low in
    let behind = length-drop i all in
    let within : i < length ns = omega (arith, same, both, done, front, behind, inside) in
    rw (c.put.ensures, c.rename-number.ensures, c.as_slice.ensures)
    (map_over_more f all ns i (get_or ns i 0) inside c.loop-place.invariant
    (get_or_default ns i 0 (get_or ns i 0) within))
