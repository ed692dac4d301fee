use Rattle.std.proofs.Common.{◌≡◌, length}
use Rattle.cpa_interpolant_names.specs.Meetings.{noted}
use Rattle.cpa_interpolant_names.proofs.naming.note.Given as goal

abbrev pub invariant-loop-place : goal.invariant-loop-place
invariant-loop-place l =
    record {
      long : length l.bits ≡ length l.initial.bits;
      named : l.bits ≡ noted l.initial.bits l.meeting l.place;
    }
