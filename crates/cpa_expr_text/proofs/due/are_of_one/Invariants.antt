-- What is due of the words that are left, and that there is room to count it.
use Rattle.std.proofs.Common.{◌↔◌, ◌-◌, length, drop}
use Rattle.cpa_expr_text.specs.Due.{AreDue}
use Rattle.cpa_expr_text.specs.Reading.{texts}
use Rattle.cpa_expr_text.proofs.Counting.{IsWithin}
use Rattle.cpa_expr_text.proofs.due.are_of_one.Given as goal

abbrev pub invariant-loop-due : goal.invariant-loop-due
invariant-loop-due l =
    record {
      same : AreDue l.due (texts (drop l.place l.words)) ↔ AreDue 1 (texts l.words);
      within : IsWithin l.words l.place l.due;
    }

abbrev pub decreases-loop-due : goal.decreases-loop-due
decreases-loop-due l = length l.words - l.place
