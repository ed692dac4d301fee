use Rattle.std.proofs.Common.{◌≡◌, length, drop}
use Rattle.std.specs.List.{AllByRecursion}
use Rattle.cpa_interpolant_names.specs.Meetings.{all_noted, bits_of, StandsBelow}
use Rattle.cpa_interpolant_names.proofs.naming.bits_of.Given as goal

abbrev pub invariant-loop-meeting : goal.invariant-loop-meeting
invariant-loop-meeting l =
    record {
      long : length l.bits.items ≡ l.vars;
      fits : AllByRecursion (StandsBelow l.vars) (drop l.meeting-index l.meetings);
      named : all_noted l.bits.items (drop l.meeting-index l.meetings)
          ≡ bits_of l.vars l.meetings;
    }
