use Rattle.std.proofs.Common.{ℕ, ap}
use Rattle.c_types_bodies.specs.Views.{with_passed}
use Rattle.c_types_bodies.proofs.acts.pass_label.Goals as goal

pub returns : goal.returns
returns c = ap (λ (n : ℕ). with_passed n c.args.walker.now) c.in_ok-passed.ensures
