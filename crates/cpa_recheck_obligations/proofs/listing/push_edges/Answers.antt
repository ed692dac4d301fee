use Rattle.std.proofs.Common.{◌≡◌, ◌+◌, ◌++◌, ◌∙◌, map, drop, ap, sym, arith}
use Rattle.std.proofs.lemmas.List.{append-nil}
use Rattle.cpa_recheck_obligations.specs.declared.listing.Obligation.TheVariants.{Leads}
use Rattle.cpa_recheck_obligations.specs.Obligations.{edges_of, leaves, places_from}
use Rattle.cpa_recheck_obligations.proofs.Passing.{ended, passed, skipped, taken}
use Rattle.cpa_recheck_obligations.proofs.listing.push_edges.Goals as goal
use Rattle.cpa_recheck_obligations.proofs.listing.push_edges.Goals.{then-leaves+in_ok-push}
use Rattle.cpa_recheck_obligations.proofs.listing.push_edges.Goals.{else-leaves}

pub loop-edge-init : goal.loop-edge-init
loop-edge-init c =
    let spot = c.args.spot.now in
    let edges = c.args.cfa.now.edges in
    let first = c.edges_within-first.result.0 in
    let zero_first : 0 + first ≡ first = omega arith in
    let skip = skipped (leaves spot) edges 0 first
    (λ j edge at passes. (c.edges_within-first.ensures.outside j edge at passes).0) in
    ap (λ ns. c.args.list.now.items ++ map (Leads c.args.entry) ns)
    (ap (λ n. places_from (leaves spot) n (drop first edges)) (sym zero_first) ∙ skip)

pub loop-edge-preserved : goal.loop-edge-preserved
loop-edge-preserved c =
    let spot = c.args.spot.now in
    let edges = c.args.cfa.now.edges in
    let g = c.loop-edge.edge in
    let list = c.loop-edge.list.items in
    let edge = c.edge.result.now in
    let all = c.args.list.now.items ++ map (Leads c.args.entry) (edges_of c.args.cfa.now spot) in
    elim c.if-leaves.branch [
      | then-leaves+in_ok-push w ↦
          rw (w.list-is, w.in_ok-push.ensures.items)
          (taken (leaves spot) (Leads c.args.entry) list edges g edge all c.edge.ensures
          c.loop-edge.invariant (sym c.leaves.ensures ∙ w.if-leaves.true))
      | else-leaves w ↦
          rw w.list-is
          (passed (leaves spot) (Leads c.args.entry) list edges g edge all c.edge.ensures
          c.loop-edge.invariant (sym c.leaves.ensures ∙ w.if-leaves.false))
    ]

pub returns : goal.returns
returns c =
    let spot = c.args.spot.now in
    let edges = c.args.cfa.now.edges in
    let g = c.loop-edge.edge in
    let within = c.loop-edge-test.false in
    let none = ended (leaves spot) edges g g
    (λ j edge at passes.
    let below = (c.edges_within-first.ensures.outside j edge at passes).1 in
    omega (arith, below, within)) in
    sym (append-nil c.loop-edge.list.items)
    ∙ (ap (λ ns. c.loop-edge.list.items ++ map (Leads c.args.entry) ns) (sym none)
    ∙ c.loop-edge.invariant)
