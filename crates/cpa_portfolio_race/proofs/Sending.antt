-- Answers may go to another thread. That is shown layer by layer, since the search gives up on an
-- answer as a whole: its elements share facts, which hold expressions.
use denote.Enum.Declared.{shape}
use denote.Enum.Enum.{Enum}
use denote.Param.Send.{IsSend, IsSync, sendable, recorded_send, enum_send}
use Rattle.std.proofs.Crossing
use Rattle.cpa_expr.proofs.tree.Expr.TheLaws.TheKnot
use Rattle.cpa_engine.specs.contracts.answers.Answer
use Rattle.cpa_facts.specs.contracts.fact.Fact
use Rattle.cpa_iface.specs.contracts.entries.Entry
use Rattle.cpa_model.specs.contracts.facts.Elem

fact_sent : IsSend Fact.the_row
fact_sent = search (Crossing.crosses, TheKnot.crosses, sendable) depth 60 fits 20000

fact_shared : IsSync Fact.the_row
fact_shared = search (Crossing.crosses, TheKnot.crosses, sendable) depth 60 fits 20000

elem_sent : IsSend Elem.the_row
elem_sent =
    search (fact_sent, fact_shared, Crossing.crosses, TheKnot.crosses, sendable)
    depth 60 fits 20000

entry_sent : IsSend Entry.the_row
entry_sent =
    search (elem_sent, Crossing.crosses, TheKnot.crosses, sendable) depth 60 fits 20000

-- an answer, variant by variant
pub answer_sent : IsSend Answer.the_row
answer_sent =
    recorded_send (Enum (shape Answer.the_type)) _ _ (Answer.the_type).to_one
    (enum_send (shape Answer.the_type) (
      (search (entry_sent, Crossing.crosses, sendable) depth 60 fits 20000, tt),
      (
        (search (Crossing.crosses, sendable) depth 60 fits 20000, (search sendable, tt)),
        ((search (Crossing.crosses, TheKnot.crosses, sendable) depth 60 fits 20000, tt), tt),
      ),
    ))
