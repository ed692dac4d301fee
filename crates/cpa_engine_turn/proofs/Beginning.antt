-- An entry that was taken is there.
use Rattle.std.proofs.Common.{ℕ, ◌∙◌}
use Rattle.cpa_iface.specs.declared.merging.Order.{Order}
use Rattle.cpa_reached.specs.lemmas.MemberLaws.{map_in}
use Rattle.cpa_reached.specs.Entries.{ReachedSet, IsLive, IsNext}
use Rattle.cpa_reached.specs.Calls.{taken}
use Rattle.cpa_engine_turn.proofs.Turning.{at_rest, rest_number, waits_there}

pub taken_live : (order : Order) (r : ReachedSet) (n : ℕ) → IsNext order r.live n
    → IsLive (taken n r).live n
taken_live order r n next =
    let waiting = waits_there r.live n next.waits in
    record {
      entry = at_rest n waiting.entry;
      is_in = map_in (at_rest n) r.live waiting.entry waiting.is_in;
      is = rest_number n waiting.entry ∙ waiting.is;
    }
