use denote.Param.Send.{sendable}
use Rattle.std.proofs.Common.{map}
use Rattle.std.proofs.Crossing
use Rattle.cpa_composite.specs.Composites.{components}
use Rattle.cpa_portfolio_race.proofs.Halving.{halves_answered, whole_answered}
use Rattle.cpa_portfolio_race.proofs.Sending.{answer_sent}
use Rattle.cpa_portfolio_race.proofs.racing.+parts.Goals as goal

pub answer_parts-returns : goal.answer_parts-returns
answer_parts-returns g t c =
    whole_answered components (λ v. v.items) c.args.cfa.now _ _ _ _ _ _ _
    c.answer_halves.result c.split_at_mut-front.ensures.front c.split_at_mut-front.ensures.back
    c.split_at.ensures.front c.split_at.ensures.back c.answer_halves.ensures

pub answer_halves-returns : goal.answer_halves-returns
answer_halves-returns g t c =
    halves_answered (λ v. v.items) c.args.cfa.now (map components c.args.front.now)
    (map components c.args.back.now) c.args.front_configs.now c.args.back_configs.now
    c.joined.result c.join-a.result.0 c.join-a.result.1 c.joined.ensures
    c.join-a.ensures.first c.join-a.ensures.second

pub answer_halves-join-a-requires-send-A : goal.answer_halves-join-a-requires-send-A
answer_halves-join-a-requires-send-A g t c κs within =
    search (answer_sent, Crossing.crosses, sendable) depth 60 fits 20000
