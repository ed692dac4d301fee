use Rattle.std.proofs.Common.{◌≡◌, length, drop}
use Rattle.std.specs.List.{AllByRecursion}
use Rattle.cpa_interpolant_names.specs.Meetings.{all_named, names_of, Fits}
use Rattle.cpa_interpolant_names.proofs.naming.names_of.Given as goal

abbrev pub invariant-loop-meeting : goal.invariant-loop-meeting
invariant-loop-meeting l =
    record {
      long : length l.names.items ≡ l.vars;
      fits : AllByRecursion (Fits l.vars) (drop l.meeting-index l.meetings);
      named : all_named l.names.items (drop l.meeting-index l.meetings)
          ≡ names_of l.vars l.meetings;
    }
