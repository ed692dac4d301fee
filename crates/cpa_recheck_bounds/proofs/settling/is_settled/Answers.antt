use Rattle.std.proofs.Common.{subst, sym}
use Rattle.std.specs.Prelude.{IfOk, IsTrue}
use Rattle.cpa_recheck_obligations.specs.declared.listing.Obligation.{Obligation}
use Rattle.cpa_recheck_obligations.specs.Forms.{IsRunless}
use Rattle.cpa_recheck_bounds.proofs.settling.is_settled.Goals as goal

pub returns-in-Begins : goal.returns-in-Begins
returns-in-Begins c =
    subst (λ (o : Obligation). IfOk c.begins.result (λ is. IsTrue is
    → IsRunless c.args.cfa.now c.args.entries.now o)) (sym c.in-Begins.is) c.begins.ensures

pub returns-in-Leads : goal.returns-in-Leads
returns-in-Leads c =
    subst (λ (o : Obligation). IfOk c.leads.result (λ is. IsTrue is
    → IsRunless c.args.cfa.now c.args.entries.now o)) (sym c.in-Leads.is) c.leads.ensures
