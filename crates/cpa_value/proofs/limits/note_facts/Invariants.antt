-- What the facts so far give each cell.
use Rattle.cpa_value.proofs.LimitLemmas.{Notes}
use Rattle.cpa_value.specs.Limits.{seen_in}
use Rattle.cpa_value.proofs.limits.note_facts.Given as goal

abbrev pub invariant-loop-fact : goal.invariant-loop-fact
invariant-loop-fact l = Notes (λ cell. seen_in cell l.facts)
    (λ cell. seen_in cell l.fact-iterator) l.fn.values l.values
