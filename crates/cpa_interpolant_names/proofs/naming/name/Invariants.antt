use Rattle.std.proofs.Common.{◌≡◌, length}
use Rattle.cpa_interpolant_names.specs.Meetings.{named}
use Rattle.cpa_interpolant_names.proofs.naming.name.Given as goal

abbrev pub invariant-loop-place : goal.invariant-loop-place
invariant-loop-place l =
    record {
      long : length l.names ≡ length l.initial.names;
      named : l.names ≡ named l.initial.names l.meeting l.place;
    }
