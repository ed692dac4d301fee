use Rattle.std.proofs.Common.{sym}
use Rattle.cpa_sat_search.proofs.Marks.{has_taken}
use Rattle.cpa_sat_search.proofs.analysis.Analysis.take.Goals as goal

pub returns-in_ok-push-clause-taken : goal.returns-in_ok-push-clause-taken
returns-in_ok-push-clause-taken c l =
    has_taken c.args.literals.now.items c.push.new.self.items c.args.self.now.marks.items
    c.args.literal c.unpack.result l c.in_ok-push.ensures.items c.unpack.ensures
    (sym c.if-is_marked.ensures)
