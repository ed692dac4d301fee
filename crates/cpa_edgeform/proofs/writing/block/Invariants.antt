-- The cells so far.
use Rattle.std.proofs.Common.{◌≡◌}
use Rattle.cpa_form_rules.specs.Drafts.{block}
use Rattle.cpa_edgeform.proofs.writing.block.Given as goal

abbrev pub invariant-loop-i : goal.invariant-loop-i
invariant-loop-i l =
    l.draft ≡ block l.places l.cells.base l.cells.ty l.index l.i l.initial.draft
