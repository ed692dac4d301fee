use Rattle.std.proofs.Common.{ap, ◌∙◌}
use Rattle.cpa_reached.specs.Entries.{ReachedSet}
use Rattle.cpa_engine_rounds.proofs.Reopening.{renewed_exactly, found_live}
use Rattle.cpa_engine_rounds.proofs.clearing.begin_round.Goals as goal

pub renew-requires : goal.renew-requires
renew-requires c =
    let removes = c.in_ok-opened.ensures.live in
    found_live removes.gone c.args.pivot c.args.reached.now.live c.remove_below.new.self.live
    c.deref.result.now removes.is
    (c.deref.ensures.value
    ∙ c.in_ok-opened.ensures.opened removes.gone
    (record { all = removes.all; only = removes.only }))

pub returns : goal.returns
returns c =
    let removes = c.in_ok-opened.ensures.live in
    let found = c.deref.result.now in
    let pivot = c.args.pivot in
    let newest = c.args.newest.now in
    record {
      gone = removes.gone;
      all = removes.all;
      only = removes.only;
      live = ap (λ (r : ReachedSet). r.live) c.start_round.ensures
          ∙ c.in_ok-renew.ensures.live
          ∙ renewed_exactly removes.gone pivot newest c.args.reached.now.live
          c.remove_below.new.self.live found c.remove_below.ensures.numbered.ascend removes.is
          (c.deref.ensures.value
          ∙ c.in_ok-opened.ensures.opened removes.gone
          (record { all = removes.all; only = removes.only }));
      journal = ap (λ (r : ReachedSet). r.journal) c.start_round.ensures;
      next = ap (λ (r : ReachedSet). r.next) c.start_round.ensures ∙ c.in_ok-renew.ensures.next
          ∙ c.remove_below.ensures.next;
      places = ap (λ (r : ReachedSet). r.places) c.start_round.ensures
          ∙ c.in_ok-renew.ensures.places ∙ c.remove_below.ensures.places;
    }
