-- The open edge is the one with the rank of the test's truth, or of the call on top.
use Rattle.std.proofs.Common.{◌∙◌, sym}
use Rattle.cpa_model.specs.lemmas.Lists.{in_list}
use Rattle.cpa_interp.proofs.Picking.{if_none, if_none_weaker, if_some_weaker, last_is, no_last}
use Rattle.cpa_interp.proofs.Picking.{none_to_return, open_return, open_way, ranks_rise}
use Rattle.cpa_interp.proofs.Picking.{return_open, way_open, ways_of}
use Rattle.cpa_interp.proofs.machine.Machine.pick.Goals as goal

pub way_of-requires-clause-ordered : goal.way_of-requires-clause-ordered
way_of-requires-clause-ordered c = ranks_rise c.args.edges.now c.requires

pub way_of-requires-clause-tests : goal.way_of-requires-clause-tests
way_of-requires-clause-tests c =
    let first = c.in_ok-first.first.now in
    let here = in_list c.args.edges.now 0 first (sym c.in_ok-first.ensures.value) in
    ways_of c.args.edges.now c.requires first c.in-Assume.test c.in-Assume.holds here c.in-Assume.is

pub returns-in-Assume-clause-some : goal.returns-in-Assume-clause-some
returns-in-Assume-clause-some c =
    let m = c.args.self.now in
    if_some_weaker c.way_of.result (λ e found. (
      found.0,
      open_way c.in-Assume.test e.now m.calls.items m.store.values found.1,
    )) c.way_of.ensures.some

pub returns-in-Assume-clause-none : goal.returns-in-Assume-clause-none
returns-in-Assume-clause-none c =
    let m = c.args.self.now in
    let edges = c.args.edges.now in
    let first = c.in_ok-first.first.now in
    let here = in_list edges 0 first (sym c.in_ok-first.ensures.value) in
    let ways =
    ways_of edges c.requires first c.in-Assume.test c.in-Assume.holds here c.in-Assume.is in
    if_none_weaker c.way_of.result (λ none e there opens. none e there
    (way_open edges c.in-Assume.test ways e there m.calls.items m.store.values opens))
    c.way_of.ensures.none

pub with_rank-requires : goal.with_rank-requires
with_rank-requires c = ranks_rise c.args.edges.now c.requires

pub returns-in_err-last-in-Return-clause-none : goal.returns-in_err-last-in-Return-clause-none
returns-in_err-last-in-Return-clause-none c =
    let m = c.args.self.now in
    let first = c.in_ok-first.first.now in
    let here = in_list c.args.edges.now 0 first (sym c.in_ok-first.ensures.value) in
    let none = sym c.deref.ensures.value ∙ no_last c.deref.result.now
    c.in_err-last-in-Return.ensures.value in
    if_none c.from_residual-in_err-last-in-Return.result (λ e there opens.
    none_to_return c.args.edges.now c.requires first e c.in-Return.site m.calls.items
    m.store.values here there c.in-Return.is none opens)

pub returns-in_ok-last-in-Return-clause-some : goal.returns-in_ok-last-in-Return-clause-some
returns-in_ok-last-in-Return-clause-some c =
    let m = c.args.self.now in
    let first = c.in_ok-first.first.now in
    let here = in_list c.args.edges.now 0 first (sym c.in_ok-first.ensures.value) in
    let top = c.in_ok-last-in-Return.field-0.now in
    let split = last_is c.deref.result.now top c.in_ok-last-in-Return.ensures.value in
    let on_top = sym c.deref.ensures.value ∙ split.1 in
    if_some_weaker c.with_rank.result (λ e found. (
      found.0,
      return_open c.args.edges.now c.requires first e.now c.in-Return.site top split.0
          m.calls.items m.store.values here found.0 c.in-Return.is on_top found.1,
    )) c.with_rank.ensures.some

pub returns-in_ok-last-in-Return-clause-none : goal.returns-in_ok-last-in-Return-clause-none
returns-in_ok-last-in-Return-clause-none c =
    let m = c.args.self.now in
    let first = c.in_ok-first.first.now in
    let here = in_list c.args.edges.now 0 first (sym c.in_ok-first.ensures.value) in
    let top = c.in_ok-last-in-Return.field-0.now in
    let split = last_is c.deref.result.now top c.in_ok-last-in-Return.ensures.value in
    let on_top = sym c.deref.ensures.value ∙ split.1 in
    if_none_weaker c.with_rank.result (λ none e there opens. none e there
    (open_return c.args.edges.now c.requires first e c.in-Return.site top split.0 m.calls.items
    m.store.values here there c.in-Return.is on_top opens)) c.with_rank.ensures.none
