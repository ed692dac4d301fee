use Rattle.cpa_report_print.specs.declared.report.Verdict.TheVariants as verdict
use Rattle.cpa_report_json.proofs.Parts.{taken}
use Rattle.cpa_report_json.proofs.reports.take_report.Goals as goal

pub returns-in-True-clause-took : goal.returns-in-True-clause-took
returns-in-True-clause-took c =
    taken c.args.verdict verdict.True _ _ _ c.in-True.is c.take_true.ensures.took

pub returns-in-False-clause-took : goal.returns-in-False-clause-took
returns-in-False-clause-took c =
    taken c.args.verdict verdict.False _ _ _ c.in-False.is c.take_false.ensures.took

pub returns-in-Turns-clause-took : goal.returns-in-Turns-clause-took
returns-in-Turns-clause-took c =
    taken c.args.verdict verdict.Turns _ _ _ c.in-Turns.is c.take_turns.ensures.took

pub returns-in-Rounds-clause-took : goal.returns-in-Rounds-clause-took
returns-in-Rounds-clause-took c =
    taken c.args.verdict verdict.Rounds _ _ _ c.in-Rounds.is c.take_rounds.ensures.took

pub returns-in-Learnt-clause-took : goal.returns-in-Learnt-clause-took
returns-in-Learnt-clause-took c =
    taken c.args.verdict verdict.Learnt _ _ _ c.in-Learnt.is c.take_learnt.ensures.took

pub returns-in-Gates-clause-took : goal.returns-in-Gates-clause-took
returns-in-Gates-clause-took c =
    taken c.args.verdict verdict.Gates _ _ _ c.in-Gates.is c.take_gates.ensures.took

pub returns-in-NoNew-clause-took : goal.returns-in-NoNew-clause-took
returns-in-NoNew-clause-took c =
    taken c.args.verdict verdict.NoNew _ _ _ c.in-NoNew.is c.take_no_new.ensures.took

pub returns-in-Proof-clause-took : goal.returns-in-Proof-clause-took
returns-in-Proof-clause-took c =
    taken c.args.verdict verdict.Proof _ _ _ c.in-Proof.is c.take_proof.ensures.took
