use Rattle.std.proofs.Common.{◌<◌, ◌≤◌, ℕ, List, inr, refl, sym, subst}
use Rattle.cpa_iface.specs.declared.entries.Entry.{Entry}
use Rattle.cpa_composite.specs.Composites.{components}
use Rattle.cpa_reached.specs.Entries.{ReachedSet}
use Rattle.cpa_reached.specs.Members.{IsIn}
use Rattle.cpa_engine.specs.Rounds.{by_turn}
use Rattle.cpa_engine.specs.Searches.{IsDone, position}
use Rattle.cpa_engine.proofs.Turned.{TurnKeeps, turn_stands, turn_checked}
use Rattle.cpa_engine.proofs.round.go_on.Goals as goal

pub turn-requires-clause-places : goal.turn-requires-clause-places
turn-requires-clause-places g c = inr c.requires.search.stands.places

pub returns-then-goes-clause-search : goal.returns-then-goes-clause-search
returns-then-goes-clause-search g c =
    let cfa = c.args.cfa.now in
    let cs = components c.args.composite.now in
    let config = c.args.config.now in
    let old = c.args.search.now.reached in
    let new = c.turn.new.reached in
    let search = c.requires.search in
    let at = position c.args.search.now in
    let is = c.if-goes.true in
    let e = c.in_ok-goes.ensures in
    let turned = e.turned is in
    let numbered = c.live.ensures.numbered in
    let entries = search.stands.entries in
    let automaton = c.requires.automaton in
    let keeps : TurnKeeps cfa cs config.order old new =
    record {
      turned = turned;
      entries = e.entries;
      places = e.places;
      covers = e.covers;
      journal = e.journal;
      keys = e.keys;
      bound = λ keys bound was. let now = e.bound keys bound was in (now.0, now.1 is);
      pins = λ states bound was. let now = e.pins states bound was in (now.0, now.1 is);
      lines = c.lines_are_kept.ensures.keys cfa cs config.order old new automaton numbered entries
          turned;
      pin_lines = c.lines_are_kept.ensures.pins cfa cs config.order old new automaton numbered
          entries turned;
      alike = c.lines_are_kept.ensures.alike cfa cs config.order old new numbered entries turned;
    } in
    record {
      stands = turn_stands cfa cs config.settings config.order old new keeps search.stands;
      came = record {
        lead = search.came.lead;
        within = search.came.within;
        precisions = search.came.precisions;
        binds = search.came.binds;
        cells = search.came.cells;
      };
      comes = by_turn at (record at { reached = new }) search.comes
          (record {
            none_err = c.requires.none;
            fewer = c.requires.room;
            turned = turned;
            same = refl;
          });
      checked = turn_checked cfa cs config.settings config.order old new c.beyond-search.result
          keeps search.stands c.requires.none
          (subst (λ (xs : List Entry). (n : ℕ) → ((e : Entry) → IsIn e xs → e.number < n)
          → c.beyond-search.result ≤ n) c.live.ensures.live c.beyond-search.ensures.least);
    }

pub returns-else-goes-clause-come : goal.returns-else-goes-clause-come
returns-else-goes-clause-come g c =
    let cfa = c.args.cfa.now in
    let cs = components c.args.composite.now in
    let config = c.args.config.now in
    let s = c.args.search.now in
    let done = c.in_ok-goes.ensures.done c.if-goes.false in
    let is : IsDone cfa cs config (record s { checked = c.beyond-search.result }) =
    record {
      stands = c.requires.search.stands;
      comes = c.requires.search.comes;
      ascend = c.live.ensures.numbered.ascend;
      none_wait = done.0;
      none_err = c.requires.none;
    } in
    subst (λ (r : ReachedSet). IsDone cfa cs config
    (record s { reached = r; checked = c.beyond-search.result })) (sym done.1) is
