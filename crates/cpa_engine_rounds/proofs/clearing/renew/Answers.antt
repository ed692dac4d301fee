use Rattle.std.proofs.Common.{List, take, get_or, sym, subst, ap, ◌∙◌}
use Rattle.cpa_iface.specs.declared.entries.Entry.{Entry}
use Rattle.cpa_reached.specs.Entries.{ReachedSet, IsLive}
use Rattle.cpa_engine_rounds.proofs.Gathering.{renews_more, still_live, item_of}
use Rattle.cpa_engine_rounds.proofs.clearing.renew.Goals as goal

pub set_precisions-requires : goal.set_precisions-requires
set_precisions-requires c =
    let xs = c.args.reached.now.live in
    let i = c.loop-number.number-index in
    let found = c.args.found.now in
    subst (λ (ys : List Entry). IsLive ys (get_or found i 0)) (sym c.loop-number.invariant.live)
    (still_live (take i found) c.args.newest.now xs (get_or found i 0)
    (item_of (IsLive xs) found i 0 c.requires c.loop-number-test.true))

pub loop-number-preserved : goal.loop-number-preserved
loop-number-preserved c =
    let l = c.loop-number in
    record {
      live = renews_more c.args.found.now l.number-index c.args.newest.now
          c.in_ok-precisions.precisions.items c.args.reached.now.live l.reached.live
          c.set_precisions.new.self.live c.loop-number-test.true
          c.in_ok-precisions.ensures l.invariant.live
          (ap (λ (r : ReachedSet). r.live) c.set_precisions.ensures);
      journal = ap (λ (r : ReachedSet). r.journal) c.set_precisions.ensures ∙ l.invariant.journal;
      next = ap (λ (r : ReachedSet). r.next) c.set_precisions.ensures ∙ l.invariant.next;
      places = ap (λ (r : ReachedSet). r.places) c.set_precisions.ensures ∙ l.invariant.places;
    }
