use Rattle.std.proofs.Common.{length}
use Rattle.std.specs.Prelude.{◌↔◌}
use Rattle.cpa_model.specs.Ascending.{AreAscending}
use Rattle.cpa_report_json.specs.Taking.{numbers_in}
use Rattle.cpa_report_json.proofs.reports.are_ascending.Given as goal

abbrev pub invariant-entries : goal.invariant-entries
invariant-entries l = AreAscending (numbers_in l.rest) ↔ AreAscending (numbers_in l.entries)

abbrev pub decreases-entries : goal.decreases-entries
decreases-entries l = length l.rest
