use Rattle.cpa_report_print.proofs.Writing.{one, both, last}
use Rattle.cpa_report_print.proofs.entries.RefinedJson.write.Goals as goal

pub returns : goal.returns
returns c =
    last (both (both (one c.begin_object.ensures.room.0 c.in_ok-begin_object.ensures.ok)
    c.in_ok-write_member.ensures) c.in_ok-write_member-2.ensures) c.end_object.ensures
