-- Lemmas: the members of a report in byte order of their keys are those that are written one after
-- another, and so are their tokens.
use Rattle.std.proofs.Common.{◌≡◌, ◌∙◌, ℕ, List, [], ◌∷◌, refl, ap}
use Rattle.json.specs.Token.{Token, key}
use Rattle.serde_json.specs.Data.{Members, object}
use Rattle.cpa_ints.specs.declared.data_model.DataModel.{DataModel}
use Rattle.cpa_ints.specs.declared.data_model.DataModel.TheVariants.{Lp64, Ilp32}
use Rattle.cpa_report_print.specs.Reports.{Member, model_members, report_data}
use Rattle.cpa_report_print.specs.Steps.{before_form, before_model, before_points, before_text}
use Rattle.cpa_report_print.specs.Steps.{behind_text, chain, front, ordered, spelled, told}
use Rattle.cpa_report_print.specs.Tokens.{onto, members_onto}
use Rattle.cpa_report_print.specs.declared.report.Body.{Body}
use Rattle.cpa_report_print.specs.declared.report.Body.TheVariants as body
use Rattle.cpa_report_print.specs.declared.report.Report.{Report}

pub in_order : (t p c e : ℕ) (m : DataModel) (b : Body)
    → report_data (told t p c e m b) ≡ object (ordered (told t p c e m b))
in_order t p c e Lp64 (body.True entries) = refl
in_order t p c e Lp64 (body.False inputs steps) = refl
in_order t p c e Lp64 (body.Turns journal) = refl
in_order t p c e Lp64 (body.Rounds path history) = refl
in_order t p c e Lp64 (body.Learnt path lines) = refl
in_order t p c e Lp64 (body.Gates path weight) = refl
in_order t p c e Lp64 (body.NoNew path precisions) = refl
in_order t p c e Lp64 (body.Proof entries logs) = refl
in_order t p c e Ilp32 (body.True entries) = refl
in_order t p c e Ilp32 (body.False inputs steps) = refl
in_order t p c e Ilp32 (body.Turns journal) = refl
in_order t p c e Ilp32 (body.Rounds path history) = refl
in_order t p c e Ilp32 (body.Learnt path lines) = refl
in_order t p c e Ilp32 (body.Gates path weight) = refl
in_order t p c e Ilp32 (body.NoNew path precisions) = refl
in_order t p c e Ilp32 (body.Proof entries logs) = refl

-- the tokens of members in front of others
chain_onto : (ms : List Member) (rest : Members) (ts : List Token)
    → members_onto (chain ms rest) ts ≡ front ms (members_onto rest ts)
chain_onto [] rest ts = refl
chain_onto (m ∷ ms) rest ts = ap (λ us. key m.key ∷ onto m.value us) (chain_onto ms rest ts)

pub in_tokens : (r : Report) (ts : List Token) → onto (report_data r) ts ≡ spelled r ts
in_tokens r ts =
    ap (λ d. onto d ts) (in_order r.text r.points r.cells r.edges r.model r.body)
    ∙ rw (
      chain_onto (before_form r.body) _ ts,
      chain_onto (before_model r.body) _ ts,
      chain_onto (model_members r.model) _ ts,
      chain_onto (before_points r.body) _ ts,
      chain_onto (before_text r.body) _ ts,
      chain_onto (behind_text r.body) _ ts,
    ) refl
