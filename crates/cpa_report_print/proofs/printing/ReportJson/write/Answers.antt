use Rattle.std.proofs.Common.{◌≡◌, ℕ, Result, Ok, Err, OnOk, sym, subst, ◌∷◌, ◌++◌, ◌∙◌, ap}
use Rattle.std.specs.Prelude.{codes}
use Rattle.json.specs.Token.{key}
use Rattle.json.specs.Written.{Written}
use Rattle.cpa_report_print.specs.declared.report.Report.{Report}
use Rattle.cpa_report_print.specs.Reports.{number_data, report_data}
use Rattle.cpa_report_print.specs.Steps.{spelled}
use Rattle.cpa_report_print.specs.Tokens.{Wrote, onto}
use Rattle.cpa_report_print.specs.lemmas.Ordered.{in_tokens}
use Rattle.cpa_report_print.proofs.Writing.{one, both, last}
use Rattle.cpa_report_print.proofs.printing.ReportJson.write.Goals as goal

respelled : {E : Type 0} (result : Result (Unit {0}) E) (a b : Written) (r : Report)
    → OnOk result (Wrote a b (spelled r)) → OnOk result (Wrote a b (onto (report_data r)))
respelled (Ok x) a b r w = record {
  before = w.before;
  tokens = λ rest. w.tokens rest
      ∙ ap (λ ts. a.tokens ++ ts) (sym (in_tokens r rest));
}
respelled (Err e) a b r w = tt

formed_as : {a b : Written} {n m : ℕ} → n ≡ m
    → Wrote a b (λ rest. key (codes "form") ∷ onto (number_data n) rest)
    → Wrote a b (λ rest. key (codes "form") ∷ onto (number_data m) rest)
formed_as {a} {b} same w =
    subst (λ (k : ℕ). Wrote a b (λ rest. key (codes "form") ∷ onto (number_data k) rest)) same w

pub returns : goal.returns
returns c =
    let begun = one c.begin_object.ensures.room.0 c.in_ok-begin_object.ensures.ok in
    let counted =
    both (both begun c.in_ok-write_member.ensures) c.in_ok-write_member-2.ensures in
    let formed =
    both (both counted c.in_ok-write_before_form.ensures)
    (formed_as c.form_of.ensures c.in_ok-write_member-3.ensures) in
    let modelled =
    both (both formed c.in_ok-write_before_model.ensures) c.in_ok-write_model.ensures in
    let pointed =
    both (both modelled c.in_ok-write_before_points.ensures) c.in_ok-write_member-4.ensures in
    let texted =
    both (both pointed c.in_ok-write_before_text.ensures) c.in_ok-write_member-5.ensures in
    respelled c.end_object.result _ _ c.args.self.now
    (last (both texted c.in_ok-write_behind_text.ensures) c.end_object.ensures)
