-- The cells so far stand at their new places.
use Rattle.std.proofs.Common.{◌≡◌}
use Rattle.cpa_form_rules.specs.Drafts.{moved}
use Rattle.cpa_edgeform.proofs.writing.move_cells.Given as goal

abbrev pub invariant-loop-i : goal.invariant-loop-i
invariant-loop-i l = l.places ≡ moved l.base l.to.number l.to.ty l.i l.initial.places
