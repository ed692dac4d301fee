use Rattle.std.proofs.Common.{length, sym, subst}
use Rattle.cpa_composite.specs.Composites.{components}
use Rattle.cpa_reached.specs.Entries.{ReachedSet, IsLive}
use Rattle.cpa_engine_turn.specs.Bounds.{AreBounded, ArePinned}
use Rattle.cpa_engine_turn.specs.Keys.{HasPlaces}
use Rattle.cpa_engine_turn.specs.Turns.{AreEntries}
use Rattle.cpa_engine_turn.proofs.Beginning.{taken_live}
use Rattle.cpa_engine_turn.proofs.Bounding.{turned_bound}
use Rattle.cpa_engine_turn.proofs.Keeping.{turned_journal}
use Rattle.cpa_engine_turn.proofs.Owning.{turned_keys}
use Rattle.cpa_engine_turn.proofs.Pinning.{turned_pins}
use Rattle.cpa_engine_turn.proofs.Shapes.{taken_entries}
use Rattle.cpa_engine_turn.proofs.Turning.{turned, turned_covers, turned_entries}
use Rattle.cpa_engine_turn.proofs.Turning.{turned_places}
use Rattle.cpa_engine_turn.proofs.Working.{works_after}
use Rattle.cpa_engine_turn.proofs.one_turn.turn.Goals as goal

pub expand_taken-requires-clause-entries : goal.expand_taken-requires-clause-entries
expand_taken-requires-clause-entries g c =
    let count = length (components c.args.composite.now) in
    subst (λ (r : ReachedSet). AreEntries c.args.cfa.now count r.live)
    (sym c.in-Some.ensures.taken)
    (taken_entries c.args.cfa.now count c.in-Some.number c.args.reached.now.live c.requires.entries)

pub expand_taken-requires-clause-places : goal.expand_taken-requires-clause-places
expand_taken-requires-clause-places g c =
    subst (HasPlaces (components c.args.composite.now)) (sym c.in-Some.ensures.taken)
    c.requires.places

pub expand_taken-requires-clause-live : goal.expand_taken-requires-clause-live
expand_taken-requires-clause-live g c =
    subst (λ (r : ReachedSet). IsLive r.live c.in-Some.number) (sym c.in-Some.ensures.taken)
    (taken_live c.args.order c.args.reached.now c.in-Some.number c.in-Some.ensures.next)

pub returns-in_ok-expand_taken-in-Some-clause-turned :
    goal.returns-in_ok-expand_taken-in-Some-clause-turned
returns-in_ok-expand_taken-in-Some-clause-turned g c = λ goes.
    let cfa = c.args.cfa.now in
    let cs = components c.args.composite.now in
    let r = c.args.reached.now in
    let n = c.in-Some.number in
    let w = works_after cfa cs n r c.take_next.new.self c.expand_taken.new.reached
    c.in-Some.ensures.taken c.in_ok-expand_taken-in-Some.ensures.works
    c.in_ok-expand_taken-in-Some.ensures.ordered c.requires.entries c.requires.places in
    turned cfa cs c.args.order r n c.expand_taken.new.reached c.in-Some.ensures.next w.goes w.works

pub returns-in_ok-expand_taken-in-Some-clause-entries :
    goal.returns-in_ok-expand_taken-in-Some-clause-entries
returns-in_ok-expand_taken-in-Some-clause-entries g c =
    let w = works_after c.args.cfa.now (components c.args.composite.now) c.in-Some.number
    c.args.reached.now c.take_next.new.self c.expand_taken.new.reached
    c.in-Some.ensures.taken c.in_ok-expand_taken-in-Some.ensures.works
    c.in_ok-expand_taken-in-Some.ensures.ordered c.requires.entries c.requires.places in
    turned_entries c.args.cfa.now (components c.args.composite.now) c.args.reached.now
    c.in-Some.number c.expand_taken.new.reached w.goes c.requires.entries

pub returns-in_ok-expand_taken-in-Some-clause-places :
    goal.returns-in_ok-expand_taken-in-Some-clause-places
returns-in_ok-expand_taken-in-Some-clause-places g c =
    let w = works_after c.args.cfa.now (components c.args.composite.now) c.in-Some.number
    c.args.reached.now c.take_next.new.self c.expand_taken.new.reached
    c.in-Some.ensures.taken c.in_ok-expand_taken-in-Some.ensures.works
    c.in_ok-expand_taken-in-Some.ensures.ordered c.requires.entries c.requires.places in
    turned_places c.args.cfa.now (components c.args.composite.now) c.args.reached.now
    c.in-Some.number c.expand_taken.new.reached w.goes

pub returns-in_ok-expand_taken-in-Some-clause-covers :
    goal.returns-in_ok-expand_taken-in-Some-clause-covers
returns-in_ok-expand_taken-in-Some-clause-covers g c = λ covers.
    let w = works_after c.args.cfa.now (components c.args.composite.now) c.in-Some.number
    c.args.reached.now c.take_next.new.self c.expand_taken.new.reached
    c.in-Some.ensures.taken c.in_ok-expand_taken-in-Some.ensures.works
    c.in_ok-expand_taken-in-Some.ensures.ordered c.requires.entries c.requires.places in
    turned_covers c.args.cfa.now (components c.args.composite.now) c.args.order c.args.reached.now
    c.in-Some.number c.expand_taken.new.reached
    (c.edges_are_steps.ensures.state c.args.cfa.now c.requires.automaton)
    c.in-Some.ensures.next w.goes covers

pub returns-in_ok-expand_taken-in-Some-clause-journal :
    goal.returns-in_ok-expand_taken-in-Some-clause-journal
returns-in_ok-expand_taken-in-Some-clause-journal g c = λ began of.
    let w = works_after c.args.cfa.now (components c.args.composite.now) c.in-Some.number
    c.args.reached.now c.take_next.new.self c.expand_taken.new.reached
    c.in-Some.ensures.taken c.in_ok-expand_taken-in-Some.ensures.works
    c.in_ok-expand_taken-in-Some.ensures.ordered c.requires.entries c.requires.places in
    turned_journal c.args.cfa.now (components c.args.composite.now) c.args.order
    c.args.reached.now c.in-Some.number c.expand_taken.new.reached began c.in-Some.ensures.next
    w.goes of

pub returns-in_ok-expand_taken-in-Some-clause-keys :
    goal.returns-in_ok-expand_taken-in-Some-clause-keys
returns-in_ok-expand_taken-in-Some-clause-keys g c = λ all own.
    let w = works_after c.args.cfa.now (components c.args.composite.now) c.in-Some.number
    c.args.reached.now c.take_next.new.self c.expand_taken.new.reached
    c.in-Some.ensures.taken c.in_ok-expand_taken-in-Some.ensures.works
    c.in_ok-expand_taken-in-Some.ensures.ordered c.requires.entries c.requires.places in
    turned_keys c.args.cfa.now (components c.args.composite.now) c.args.reached.now
    c.in-Some.number c.expand_taken.new.reached all w.goes own

pub returns-in_ok-expand_taken-in-Some-clause-bound :
    goal.returns-in_ok-expand_taken-in-Some-clause-bound
returns-in_ok-expand_taken-in-Some-clause-bound g c = λ keys bound bounded.
    let cfa = c.args.cfa.now in
    let cs = components c.args.composite.now in
    let w = works_after cfa cs c.in-Some.number c.args.reached.now c.take_next.new.self
    c.expand_taken.new.reached c.in-Some.ensures.taken
    c.in_ok-expand_taken-in-Some.ensures.works
    c.in_ok-expand_taken-in-Some.ensures.ordered c.requires.entries c.requires.places in
    let b = turned_bound cfa cs c.args.order c.args.reached.now c.in-Some.number
    c.expand_taken.new.reached keys
    (record {
      falls = c.merging_ends.ensures.falls cs cfa;
      successors = c.ranks_are_bounded.ensures.successors cs cfa;
      adjust = c.ranks_are_bounded.ensures.adjust cs cfa;
      merge = c.ranks_are_bounded.ensures.merge cs cfa;
      height = c.ranks_are_bounded.ensures.height cs cfa;
      control = c.control_is_followed.ensures.steps cs cfa;
      edges = λ k e at. c.edges_are_sound.ensures cfa k e c.requires.automaton at;
    })
    bound c.in-Some.ensures.next w.goes.ordered c.requires.entries c.requires.places w.works
    bounded in
    (b.bounded, λ goes. b.fewer)

pub returns-in_ok-expand_taken-in-Some-clause-pins :
    goal.returns-in_ok-expand_taken-in-Some-clause-pins
returns-in_ok-expand_taken-in-Some-clause-pins g c = λ states bound pinned.
    let cfa = c.args.cfa.now in
    let cs = components c.args.composite.now in
    let w = works_after cfa cs c.in-Some.number c.args.reached.now c.take_next.new.self
    c.expand_taken.new.reached c.in-Some.ensures.taken
    c.in_ok-expand_taken-in-Some.ensures.works
    c.in_ok-expand_taken-in-Some.ensures.ordered c.requires.entries c.requires.places in
    let b = turned_pins cfa cs c.args.order c.args.reached.now c.in-Some.number
    c.expand_taken.new.reached states
    (record {
      next = λ edge ps rows e s exact parts binds size laws at settled state.
          c.pins_are_followed.ensures.next cs cfa edge ps rows e s c.requires.automaton exact parts
          binds size laws at settled state;
      adjust = c.pins_are_followed.ensures.adjust cs cfa;
    })
    bound c.in-Some.ensures.next w.goes.ordered c.requires.entries c.requires.places w.works
    pinned in
    (b.pinned, λ goes. b.fewer)

pub returns-in-None-clause-bound : goal.returns-in-None-clause-bound
returns-in-None-clause-bound g c = λ keys bound bounded. (
  subst (λ (r : ReachedSet).
      AreBounded c.args.cfa.now (components c.args.composite.now) keys r.live)
      (sym c.in-None.ensures.same) bounded,
  λ wrong. absurd (cc),
)

pub returns-in-None-clause-pins : goal.returns-in-None-clause-pins
returns-in-None-clause-pins g c = λ states bound pinned. (
  subst (λ (r : ReachedSet).
      ArePinned c.args.cfa.now (components c.args.composite.now) states r.live)
      (sym c.in-None.ensures.same) pinned,
  λ wrong. absurd (cc),
)
