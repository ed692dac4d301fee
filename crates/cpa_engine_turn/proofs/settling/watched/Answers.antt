use Rattle.cpa_composite.specs.Composites.{components}
use Rattle.cpa_engine_turn.proofs.Passing.{apart_by}
use Rattle.cpa_engine_turn.proofs.settling.watched.Goals as goal

pub returns-then-is_apart : goal.returns-then-is_apart
returns-then-is_apart g c =
    apart_by (components c.args.composite.now) c.args.successor.now c.in-Some.mark c.requires
    c.in-Some.ensures (λ d at. (c.is_apart.ensures d at).0 c.if-is_apart.true)
