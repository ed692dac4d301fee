use Rattle.std.proofs.Common.{◌∷◌, ◌∙◌}
use Rattle.cpa_report_json.specs.Taking.{numbers_of}
use Rattle.cpa_report_json.proofs.Chains.{numbers_small, took_made}
use Rattle.cpa_report_json.proofs.lines.take_chain.Goals as goal

pub returns-in-Err-clause-took : goal.returns-in-Err-clause-took
returns-in-Err-clause-took c first steps rest small fit is =
    c.in-Err.ensures.took (first ∷ numbers_of steps) rest (small, numbers_small steps fit) is

pub returns-clause-took : goal.returns-clause-took
returns-clause-took c first steps rest small fit is =
    let took =
    c.in-Ok.ensures.took (first ∷ numbers_of steps) rest (small, numbers_small steps fit) is in
    took_made _ c.chain_of.result rest c.take.new.reader
    (c.chain_of.ensures.made first steps (c.as_slice.ensures ∙ took.0)) took.1
