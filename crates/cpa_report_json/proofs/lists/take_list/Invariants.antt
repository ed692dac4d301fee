use Rattle.std.proofs.Common.{◌≡◌, ◌≤◌, List, length}
use Rattle.std.specs.List.{AllByRecursion}
use Rattle.json.specs.Token.{Token}
use Rattle.cpa_report_json.proofs.Takings.{Going, rest_of}
use Rattle.cpa_report_json.proofs.lists.take_list.Given as goal

abbrev pub invariant-items : goal.invariant-items
invariant-items g l =
    ((xs : List g.row.T.Denot) (rest : List Token) → AllByRecursion g.T.FromJson.fits xs
    → l.initial.reader ≡ rest_of g.T.FromJson.json g.T.FromJson.fits xs rest
    → Going g.T.FromJson.json g.T.FromJson.fits xs l.found rest l.reader)
    × (AllByRecursion g.T.FromJson.fits l.found)
    × (length l.reader ≤ length l.initial.reader)

abbrev pub decreases-items : goal.decreases-items
decreases-items g l = length l.reader
