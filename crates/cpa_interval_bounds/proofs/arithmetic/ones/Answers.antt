-- A shift by less than the width loses nothing.
use Rattle.std.proofs.Common.{ℕ, ◌*◌, ◌-◌, ◌%◌, ◌^◌, ◌<◌, ◌≤◌, ap, ◌∙◌, arith, pos}
use Rattle.std.specs.Int.{w128}
use Rattle.std.proofs.lemmas.Int.{to_z_pos}
use Rattle.std.proofs.lemmas.Nat.{one_shl}
use Rattle.std.proofs.Math.Pow.{pow_mono}
use Rattle.cpa_interval_bounds.proofs.arithmetic.ones.Goals as goal

fits : (bits : ℕ) → bits < 128 → 1 * 2 ^ bits % 2 ^ 128 - 1 < 2 ^ 127
fits bits h =
    let below : bits ≤ 127 = omega arith in
    let low : 2 ^ bits ≤ 2 ^ 127 = pow_mono below in
    let same = one_shl bits 128 h in
    omega arith

pub overflow_cast-result-2 : goal.overflow_cast-result-2
overflow_cast-result-2 c = record { sfits = fits c.args.bits c.requires }

pub returns : goal.returns
returns c =
    to_z_pos w128 _ (fits c.args.bits c.requires)
    ∙ ap (λ n. pos (n - 1)) (one_shl c.args.bits 128 c.requires)
