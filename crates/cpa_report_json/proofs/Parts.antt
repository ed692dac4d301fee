-- A report from its parts, and an error that is handed on.
use Rattle.std.proofs.Common.{◌≡◌, ℕ, List, Result, Ok, Err, refl, sym, subst, ap, ◌∙◌}
use Rattle.std.specs.Prelude.{IsErrAnd}
use Rattle.json.specs.Token.{Token}
use Rattle.serde_json.specs.Data.{object}
use Rattle.cpa_ints.specs.declared.data_model.DataModel.{DataModel}
use Rattle.cpa_report_json.specs.Fits.{IsLow, ReportFitsBy}
use Rattle.cpa_report_json.specs.Taking.{Parts, TakesReport, Took, body_of}
use Rattle.cpa_report_json.specs.declared.fault.ReadFault.{ReadFault}
use Rattle.cpa_report_json.specs.declared.fault.ReadFault.TheVariants.{OutOfMemory}
use Rattle.cpa_report_print.specs.Reports.{report_data, verdict_of}
use Rattle.cpa_report_print.specs.Steps.{ordered, told}
use Rattle.cpa_report_print.specs.Tokens.{onto}
use Rattle.cpa_report_print.specs.declared.report.Body.{Body}
use Rattle.cpa_report_print.specs.declared.report.Body.TheVariants as body
use Rattle.cpa_report_print.specs.declared.report.Report.{Report}
use Rattle.cpa_report_print.specs.declared.report.Verdict.{Verdict}
use Rattle.cpa_report_print.specs.lemmas.Ordered.{in_order}

-- reports of the same parts
pub same_told : {t u p q c d e f : ℕ} {m n : DataModel} {a b : Body}
    → ◌≡◌ {A = ℕ × ℕ × DataModel} (c, e, m) (d, f, n)
    → ◌≡◌ {A = ℕ × ℕ} (p, t) (q, u) → a ≡ b → told t p c e m a ≡ told u q d f n b
same_told {t} {u} {p} {q} {c} {d} {e} {f} {m} {n} {a} {b} first last same =
    ap (λ (x : ℕ × ℕ × DataModel). told t p x.0 x.1 x.2 a) first
    ∙ ap (λ (x : ℕ × ℕ). told x.1 x.0 d f n a) last
    ∙ ap (told u q d f n) same

abbrev pub pair_of : ℕ → ℕ → ℕ × ℕ
pair_of a c = (a, c)

pub both : {a b c d : ℕ} → a ≡ b → c ≡ d → ◌≡◌ {A = ℕ × ℕ} (a, c) (b, d)
both {a} {b} {c} {d} first second = ap (λ (n : ℕ). pair_of n c) first ∙ ap (pair_of b) second

abbrev pub head_of : {X : Type 0} → ℕ × ℕ × DataModel × X → ℕ × ℕ × DataModel
head_of x = (x.0, x.1, x.2)

-- an error that is handed on
pub passed_on : {A : Type 0} (x : A) (rest new : List Token) (e : ReadFault)
    (r : Result A ReadFault) → IsErrAnd r (λ given. given ≡ e) → e ≡ OutOfMemory
    → Took x rest r new
passed_on x rest new e (Ok y) given is = absurd given
passed_on x rest new e (Err f) given is = given ∙ is

-- what a body tells
parts : (b : Body) → (x : Parts (verdict_of b)) × (b ≡ body_of (verdict_of b) x)
parts (body.True entries) = (entries, refl)
parts (body.False inputs steps) = ((inputs, steps), refl)
parts (body.Turns journal) = (journal, refl)
parts (body.Rounds path history) = ((path, history), refl)
parts (body.Learnt path lines) = ((path, lines), refl)
parts (body.Gates path weight) = ((path, weight), refl)
parts (body.NoNew path precisions) = ((path, precisions), refl)
parts (body.Proof entries logs) = ((entries, logs), refl)

-- a report whose tokens come next is taken
pub taken : (v w : Verdict) (old new : List Token) (result : Result Report ReadFault) → v ≡ w
    → TakesReport w old new result → (r : Report) (rest : List Token) → ReportFitsBy IsLow r
    → verdict_of r.body ≡ v → old ≡ onto (report_data r) rest → Took r rest result new
taken v w old new result same takes r rest fit kind is =
    let made : Body → Report = told r.text r.points r.cells r.edges r.model in
    let p = subst (λ (u : Verdict). (x : Parts u) × (r.body ≡ body_of u x)) (kind ∙ same)
    (parts r.body) in
    subst (λ (b : Body). Took (made b) rest result new) (sym p.1)
    (takes r.text r.points r.cells r.edges r.model p.0 rest
    (subst (λ (b : Body). ReportFitsBy IsLow (made b)) p.1 fit)
    (is ∙ ap (λ d. onto d rest) (in_order r.text r.points r.cells r.edges r.model r.body)
    ∙ ap (λ (b : Body). onto (object (ordered (made b))) rest) p.1))
