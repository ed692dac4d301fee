-- Two tests of lists, item by item.
use Rattle.std.proofs.Common.{sym, ◌∙◌}
use denote.Enum.Bare.{same_true}
use Rattle.cpa_ints.specs.contracts.integers.IntType as int_type
use Rattle.cpa_predicate.proofs.FindingLemmas.{pointwise_is, queries_are, wanted_is}
use Rattle.cpa_predicate.proofs.findings.same_query.Goals as goal

pub returns-then-eq : goal.returns-then-eq
returns-then-eq c = λ t.
    queries_are c.args.query.now c.args.other.now
    (pointwise_is _ (same_true int_type.the_type tt) _ _ (sym c.eq.ensures ∙ c.if-eq.true))
    (pointwise_is _ wanted_is _ _ (sym c.eq-then-eq.ensures ∙ t))
