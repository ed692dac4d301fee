-- Which reports have low expressions alone: those that speak of a program, and those with the value
-- of one that has.
use Rattle.std.proofs.Common.{◌≡◌, ℕ, zero, suc, ◌+◌, List, [], ◌∷◌, ◌++◌, Some, sym, ap, ◌∙◌}
use Rattle.std.proofs.Common.{refl}
use Rattle.std.proofs.Common.{subst, arith, Option, None}
use Rattle.std.specs.Prelude.{IfSome, codes, if◌then◌else◌}
use Rattle.std.specs.List.{AllByRecursion}
use Rattle.std.specs.Str.{bytes_eq}
use Rattle.json.specs.Json as json
use Rattle.json.specs.Json.{Json}
use Rattle.json.specs.Lex.{tokens}
use Rattle.json.specs.Token.{Token}
use Rattle.json.specs.Tree as tree
use Rattle.json.specs.Tree.{json_tokens}
use Rattle.json.proofs.Printed.Trees.{value-json_tokens}
use Rattle.serde_json.specs.Data.{Data, object}
use Rattle.serde_json.specs.Written.{compact_text, outline}
use Rattle.cpa_expr.specs.declared.tree.Expr.{Expr}
use Rattle.cpa_expr.specs.Spelling.{expr_text}
use Rattle.cpa_expr_text.specs.Laws.{TextIsOfOne}
use Rattle.cpa_expr_text.specs.Reading.{Fits}
use Rattle.cpa_iface.specs.Meanings.{IsPrecision}
use Rattle.cpa_iface.specs.declared.entries.Refined.{Refined}
use Rattle.cpa_iface.specs.declared.precisions.Precision.{Precision}
use Rattle.cpa_ints.specs.declared.data_model.DataModel.{DataModel}
use Rattle.cpa_ints.specs.declared.data_model.DataModel.TheVariants.{Lp64, Ilp32}
use Rattle.cpa_model.specs.Expressions.{IsExpr}
use Rattle.cpa_model.specs.Facts.{IsFact, IsElem}
use Rattle.cpa_model.specs.declared.automaton.Cfa.{Cfa}
use Rattle.cpa_model.specs.declared.automaton.Path.{Path}
use Rattle.cpa_model.specs.declared.facts.Elem.{Elem}
use Rattle.cpa_facts.specs.declared.fact.Fact.{Fact}
use Rattle.cpa_facts.specs.declared.fact.Fact.TheVariants.{At, Stack, Equals, Within, Truth}
use Rattle.cpa_report.proofs.Plainness.{line_tokens, same_line}
use Rattle.cpa_report.specs.Faults.{IsTold}
use Rattle.cpa_report.specs.Ranges.{IsBodyIn, IsListedIn, IsRefinedIn}
use Rattle.cpa_report_json.specs.Fits.{FactFits, ElemFits, ListedFits, PrecisionFits, RefinedFits}
use Rattle.cpa_report_json.specs.Fits.{EntriesFit, BodyFits, ReportFits, ReportFitsBy, IsLow}
use Rattle.cpa_report_print.specs.Reports.{list_data, expr_data, fact_data, elem_data}
use Rattle.cpa_report_print.specs.Reports.{listed_data, precision_data, refined_data}
use Rattle.cpa_report_print.specs.Reports.{report_data, verdict_of}
use Rattle.cpa_report_print.specs.Steps.{ordered, told}
use Rattle.cpa_report_print.specs.declared.report.Body.{Body}
use Rattle.cpa_report_print.specs.declared.report.Body.TheVariants as body
use Rattle.cpa_report_print.specs.declared.report.Listed.{Listed}
use Rattle.cpa_report_print.specs.Reports.{verdict_words, with_feed, report_text}
use Rattle.cpa_report_print.specs.Tokens.{onto}
use Rattle.cpa_report_print.specs.declared.report.Report.{Report}
use Rattle.cpa_report_print.specs.declared.report.Verdict.{Verdict}
use Rattle.cpa_report_print.specs.lemmas.Onto.{onto_alone}
use Rattle.cpa_report_print.specs.lemmas.Ordered.{in_order}

-- ---- a report with low expressions fits

module _ {X : Type 0} (F G : X → Type 0) (one : (x : X) → F x → G x) where
  each : (xs : List X) → AllByRecursion F xs → AllByRecursion G xs
  each [] h = tt
  each (x ∷ xs) h = (one x h.0, each xs h.1)

expr_fits : (e : Expr) → IsLow e → Fits e
expr_fits e h = h.0

fact_fits : (f : Fact) → FactFits IsLow f → FactFits Fits f
fact_fits (At point) h = h
fact_fits (Stack sites) h = h
fact_fits (Equals cell value) h = h
fact_fits (Within cell lo hi) h = h
fact_fits (Truth expr holds) h = h.0

elem_fits : (e : Elem) → ElemFits IsLow e → ElemFits Fits e
elem_fits e = each (FactFits IsLow) (FactFits Fits) fact_fits e.facts

listed_fits : (entry : Listed) → ListedFits IsLow entry → ListedFits Fits entry
listed_fits entry h = (each (ElemFits IsLow) (ElemFits Fits) elem_fits entry.elems h.0, h.1)

precision_fits : (p : Precision) → PrecisionFits IsLow p → PrecisionFits Fits p
precision_fits p h = (h.0, each IsLow Fits expr_fits p.preds h.1, h.2)

refined_fits : (refined : Refined) → RefinedFits IsLow refined → RefinedFits Fits refined
refined_fits refined h =
    (h.0, each (PrecisionFits IsLow) (PrecisionFits Fits) precision_fits refined.precisions h.1)

entries_fit : (entries : List Listed) → EntriesFit IsLow entries → EntriesFit Fits entries
entries_fit entries h = (each (ListedFits IsLow) (ListedFits Fits) listed_fits entries h.0, h.1)

body_fits : (b : Body) → BodyFits IsLow b → BodyFits Fits b
body_fits (body.True entries) h = entries_fit entries h
body_fits (body.False inputs steps) h = h
body_fits (body.Turns journal) h = h
body_fits (body.Rounds path history) h =
    (h.0, each (RefinedFits IsLow) (RefinedFits Fits) refined_fits history h.1)
body_fits (body.Learnt path lines) h = h
body_fits (body.Gates path weight) h = h
body_fits (body.NoNew path precisions) h =
    (h.0, each (PrecisionFits IsLow) (PrecisionFits Fits) precision_fits precisions h.1)
body_fits (body.Proof entries logs) h = (entries_fit entries h.0, h.1)

pub report_fits : (r : Report) → ReportFitsBy IsLow r → ReportFits r
report_fits r h = (h.0, body_fits r.body h.1)

-- so one that was read is that of the text which it is printed as
pub told_as : (o : Option Report) (text : List ℕ) (verdict : Verdict) (r : Report) → o ≡ Some r
    → IfSome o (ReportFitsBy IsLow) → IfSome o (λ r. verdict_of r.body ≡ verdict)
    → text ≡ report_text r → IsTold text verdict r
told_as None text verdict r is fit kind spelled = absurd (cc)
told_as (Some s) text verdict r is fit kind spelled =
    let same : s ≡ r = cc in
    record {
      fit = report_fits r (subst (ReportFitsBy IsLow) same fit);
      kind = subst (λ (r : Report). verdict_of r.body ≡ verdict) same kind;
      spelled = spelled;
    }

-- ---- what speaks of a program has low expressions

module _ {X : Type 0} (F G H : X → Type 0) (one : (x : X) → F x → G x → H x) where
  each_of_both : (xs : List X) → AllByRecursion F xs → AllByRecursion G xs → AllByRecursion H xs
  each_of_both [] f g = tt
  each_of_both (x ∷ xs) f g = (one x f.0 g.0, each_of_both xs f.1 g.1)

module _ (cfa : Cfa) where
  expr_inside : (e : Expr) → Fits e → IsExpr cfa.cells e → IsLow e
  expr_inside e h is = (h, is.height)

  fact_inside : (f : Fact) → FactFits Fits f → IsFact cfa.cells cfa.points f → FactFits IsLow f
  fact_inside (At point) h is = h
  fact_inside (Stack sites) h is = h
  fact_inside (Equals cell value) h is = h
  fact_inside (Within cell lo hi) h is = h
  fact_inside (Truth expr holds) h is = (h, is.height)

  elem_inside : (e : Elem) → ElemFits Fits e → IsElem cfa.cells cfa.points e → ElemFits IsLow e
  elem_inside e =
      each_of_both (FactFits Fits) (IsFact cfa.cells cfa.points) (FactFits IsLow) fact_inside
      e.facts

  listed_inside : (entry : Listed) → ListedFits Fits entry → IsListedIn cfa entry
      → ListedFits IsLow entry
  listed_inside entry h is = (
    each_of_both (ElemFits Fits) (IsElem cfa.cells cfa.points) (ElemFits IsLow) elem_inside
        entry.elems h.0 is,
    h.1,
  )

  precision_inside : (p : Precision) → PrecisionFits Fits p → IsPrecision cfa p
      → PrecisionFits IsLow p
  precision_inside p h is =
      (h.0, each_of_both Fits (IsExpr cfa.cells) IsLow expr_inside p.preds h.1 is.preds, h.2)

  precisions_inside : (ps : List Precision) → AllByRecursion (PrecisionFits Fits) ps
      → AllByRecursion (IsPrecision cfa) ps → AllByRecursion (PrecisionFits IsLow) ps
  precisions_inside =
      each_of_both (PrecisionFits Fits) (IsPrecision cfa) (PrecisionFits IsLow) precision_inside

  refined_inside : (refined : Refined) → RefinedFits Fits refined → IsRefinedIn cfa refined
      → RefinedFits IsLow refined
  refined_inside refined h is = (h.0, precisions_inside refined.precisions h.1 is.1)

  entries_inside : (entries : List Listed) → EntriesFit Fits entries
      → AllByRecursion (IsListedIn cfa) entries → EntriesFit IsLow entries
  entries_inside entries h is = (
    each_of_both (ListedFits Fits) (IsListedIn cfa) (ListedFits IsLow) listed_inside
        entries h.0 is,
    h.1,
  )

  body_inside : (b : Body) → BodyFits Fits b → IsBodyIn cfa b → BodyFits IsLow b
  body_inside (body.True entries) h is = entries_inside entries h is
  body_inside (body.False inputs steps) h is = h
  body_inside (body.Turns journal) h is = h
  body_inside (body.Rounds path history) h is = (
    h.0,
    each_of_both (RefinedFits Fits) (IsRefinedIn cfa) (RefinedFits IsLow) refined_inside
        history h.1 is.1,
  )
  body_inside (body.Learnt path lines) h is = h
  body_inside (body.Gates path weight) h is = h
  body_inside (body.NoNew path precisions) h is = (h.0, precisions_inside precisions h.1 is.1)
  body_inside (body.Proof entries logs) h is = (entries_inside entries h.0 is, h.1)

  pub low_inside : (r : Report) → ReportFits r → IsBodyIn cfa r.body → ReportFitsBy IsLow r
  low_inside r h is = (h.0, body_inside r.body h.1 is)

-- ---- what has the tokens of a report with low expressions has low expressions

abbrev rest_of : Json → Json
rest_of (json.array (json.item j js)) = json.array js
rest_of j = j

abbrev first_of : Json → Json
first_of (json.array (json.item j js)) = j
first_of j = j

-- the value of the first, second and so on member
abbrev member_at : ℕ → json.Members → Json
member_at n json.no_members = json.null
member_at zero (json.member k j ms) = j
member_at (suc n) (json.member k j ms) = member_at n ms

abbrev part_at : ℕ → Json → Json
part_at n (json.object ms) = member_at n ms
part_at n j = json.null

-- the value of the first member of this name
abbrev member_named : List ℕ → json.Members → Json
member_named name json.no_members = json.null
member_named name (json.member k j ms) = if bytes_eq k name then j else member_named name ms

abbrev named : List ℕ → Json → Json
named name (json.object ms) = member_named name ms
named name j = json.null

-- those of a report without new ones, in each data model
found_precisions : (t p c e : ℕ) (m : DataModel) (path : Path) (ps : List Precision)
    → named (codes "precisions") (outline (object (ordered (told t p c e m (body.NoNew path ps)))))
    ≡ outline (list_data precision_data ps)
found_precisions t p c e Lp64 path ps = refl
found_precisions t p c e Ilp32 path ps = refl

-- two values that JSON writes alike
abbrev AreAlike : Data → Data → Type 0
AreAlike d e = outline d ≡ outline e

module _ {X : Type 0} (data_of : X → Data) (F G : X → Type 0)
    (one : (x y : X) → F x → G y → AreAlike (data_of x) (data_of y) → G x) where
  each_alike : (xs ys : List X) → AllByRecursion F xs → AllByRecursion G ys
      → AreAlike (list_data data_of xs) (list_data data_of ys) → AllByRecursion G xs
  each_alike [] ys f g is = tt
  each_alike (x ∷ xs) [] f g is = absurd (cc)
  each_alike (x ∷ xs) (y ∷ ys) f g is =
      (one x y f.0 g.0 (ap first_of is), each_alike xs ys f.1 g.1 (ap rest_of is))

module _ (law : TextIsOfOne) where
  expr_alike : (e f : Expr) → Fits e → IsLow f → AreAlike (expr_data e) (expr_data f)
      → IsLow e
  expr_alike e f h low is =
      let text : expr_text e ≡ expr_text f = cc in
      subst IsLow (sym (law e f h low.0 text)) low

  fact_alike : (f g : Fact) → FactFits Fits f → FactFits IsLow g
      → AreAlike (fact_data f) (fact_data g)
      → FactFits IsLow f
  fact_alike (At point) g h low is = h
  fact_alike (Stack sites) g h low is = h
  fact_alike (Equals cell value) g h low is = h
  fact_alike (Within cell lo hi) g h low is = h
  fact_alike (Truth expr holds) (At point) h low is = absurd (cc)
  fact_alike (Truth expr holds) (Stack sites) h low is = absurd (cc)
  fact_alike (Truth expr holds) (Equals cell value) h low is = absurd (cc)
  fact_alike (Truth expr holds) (Within cell lo hi) h low is = absurd (cc)
  fact_alike (Truth expr holds) (Truth other told) h low is =
      expr_alike expr other h low (ap (λ j. first_of (rest_of j)) is)

  elem_alike : (e f : Elem) → ElemFits Fits e → ElemFits IsLow f
      → AreAlike (elem_data e) (elem_data f)
      → ElemFits IsLow e
  elem_alike e f =
      each_alike fact_data (FactFits Fits) (FactFits IsLow) fact_alike e.facts f.facts

  listed_alike : (x y : Listed) → ListedFits Fits x → ListedFits IsLow y
      → AreAlike (listed_data x) (listed_data y) → ListedFits IsLow x
  listed_alike x y h low is = (
    each_alike elem_data (ElemFits Fits) (ElemFits IsLow) elem_alike x.elems y.elems h.0 low.0
        (ap (part_at 0) is),
    h.1,
  )

  precision_alike : (p q : Precision) → PrecisionFits Fits p → PrecisionFits IsLow q
      → AreAlike (precision_data p) (precision_data q) → PrecisionFits IsLow p
  precision_alike p q h low is = (
    h.0,
    each_alike expr_data Fits IsLow expr_alike p.preds q.preds h.1 low.1 (ap (part_at 1) is),
    h.2,
  )

  precisions_alike : (ps qs : List Precision) → AllByRecursion (PrecisionFits Fits) ps
      → AllByRecursion (PrecisionFits IsLow) qs
      → AreAlike (list_data precision_data ps) (list_data precision_data qs)
      → AllByRecursion (PrecisionFits IsLow) ps
  precisions_alike =
      each_alike precision_data (PrecisionFits Fits) (PrecisionFits IsLow) precision_alike

  refined_alike : (x y : Refined) → RefinedFits Fits x → RefinedFits IsLow y
      → AreAlike (refined_data x) (refined_data y) → RefinedFits IsLow x
  refined_alike x y h low is =
      (h.0, precisions_alike x.precisions y.precisions h.1 low.1 (ap (part_at 1) is))

  entries_alike : (xs ys : List Listed) → EntriesFit Fits xs → EntriesFit IsLow ys
      → AreAlike (list_data listed_data xs) (list_data listed_data ys) → EntriesFit IsLow xs
  entries_alike xs ys h low is = (
    each_alike listed_data (ListedFits Fits) (ListedFits IsLow) listed_alike xs ys h.0 low.0 is,
    h.1,
  )

  -- the bodies are of one verdict
  body_alike : (t p c e u q d f : ℕ) (m n : DataModel) (a b : Body) → verdict_of a ≡ verdict_of b
      → BodyFits Fits a → BodyFits IsLow b
      → AreAlike (object (ordered (told t p c e m a))) (object (ordered (told u q d f n b)))
      → BodyFits IsLow a
  body_alike t p c e u q d f m n (body.True xs) (body.True ys) v h low is =
      entries_alike xs ys h low (ap (part_at 2) is)
  body_alike t p c e u q d f m n (body.False inputs steps) b v h low is = h
  body_alike t p c e u q d f m n (body.Turns journal) b v h low is = h
  body_alike t p c e u q d f m n (body.Rounds path xs) (body.Rounds way ys) v h low is = (
    h.0,
    each_alike refined_data (RefinedFits Fits) (RefinedFits IsLow) refined_alike xs ys h.1 low.1
        (ap (part_at 3) is),
  )
  body_alike t p c e u q d f m n (body.Learnt path lines) b v h low is = h
  body_alike t p c e u q d f m n (body.Gates path weight) b v h low is = h
  body_alike t p c e u q d f m n (body.NoNew path xs) (body.NoNew way ys) v h low is = (
    h.0,
    precisions_alike xs ys h.1 low.1
        (sym (found_precisions t p c e m path xs) ∙ ap (named (codes "precisions")) is
        ∙ found_precisions u q d f n way ys),
  )
  body_alike t p c e u q d f m n (body.Proof xs logs) (body.Proof ys others) v h low is =
      (entries_alike xs ys h.0 low.0 (ap (part_at 2) is), h.1)
  body_alike t p c e u q d f m n (body.True xs) (body.False inputs steps) v h low is = absurd (cc)
  body_alike t p c e u q d f m n (body.True xs) (body.Turns journal) v h low is = absurd (cc)
  body_alike t p c e u q d f m n (body.True xs) (body.Rounds way ys) v h low is = absurd (cc)
  body_alike t p c e u q d f m n (body.True xs) (body.Learnt way lines) v h low is = absurd (cc)
  body_alike t p c e u q d f m n (body.True xs) (body.Gates way weight) v h low is = absurd (cc)
  body_alike t p c e u q d f m n (body.True xs) (body.NoNew way ys) v h low is = absurd (cc)
  body_alike t p c e u q d f m n (body.True xs) (body.Proof ys logs) v h low is = absurd (cc)
  body_alike t p c e u q d f m n (body.Rounds path xs) (body.True entries) v h low is = absurd (cc)
  body_alike t p c e u q d f m n (body.Rounds path xs) (body.False inputs steps) v h low is =
      absurd (cc)
  body_alike t p c e u q d f m n (body.Rounds path xs) (body.Turns journal) v h low is = absurd (cc)
  body_alike t p c e u q d f m n (body.Rounds path xs) (body.Learnt way lines) v h low is =
      absurd (cc)
  body_alike t p c e u q d f m n (body.Rounds path xs) (body.Gates way weight) v h low is =
      absurd (cc)
  body_alike t p c e u q d f m n (body.Rounds path xs) (body.NoNew way ys) v h low is = absurd (cc)
  body_alike t p c e u q d f m n (body.Rounds path xs) (body.Proof ys logs) v h low is = absurd (cc)
  body_alike t p c e u q d f m n (body.NoNew path xs) (body.True entries) v h low is = absurd (cc)
  body_alike t p c e u q d f m n (body.NoNew path xs) (body.False inputs steps) v h low is =
      absurd (cc)
  body_alike t p c e u q d f m n (body.NoNew path xs) (body.Turns journal) v h low is = absurd (cc)
  body_alike t p c e u q d f m n (body.NoNew path xs) (body.Rounds way ys) v h low is = absurd (cc)
  body_alike t p c e u q d f m n (body.NoNew path xs) (body.Learnt way lines) v h low is =
      absurd (cc)
  body_alike t p c e u q d f m n (body.NoNew path xs) (body.Gates way weight) v h low is =
      absurd (cc)
  body_alike t p c e u q d f m n (body.NoNew path xs) (body.Proof ys logs) v h low is = absurd (cc)
  body_alike t p c e u q d f m n (body.Proof xs logs) (body.True ys) v h low is = absurd (cc)
  body_alike t p c e u q d f m n (body.Proof xs logs) (body.False inputs steps) v h low is =
      absurd (cc)
  body_alike t p c e u q d f m n (body.Proof xs logs) (body.Turns journal) v h low is = absurd (cc)
  body_alike t p c e u q d f m n (body.Proof xs logs) (body.Rounds way ys) v h low is = absurd (cc)
  body_alike t p c e u q d f m n (body.Proof xs logs) (body.Learnt way lines) v h low is =
      absurd (cc)
  body_alike t p c e u q d f m n (body.Proof xs logs) (body.Gates way weight) v h low is =
      absurd (cc)
  body_alike t p c e u q d f m n (body.Proof xs logs) (body.NoNew way ys) v h low is = absurd (cc)

  low_alike : (s r : Report) → verdict_of s.body ≡ verdict_of r.body → ReportFits s
      → ReportFitsBy IsLow r → AreAlike (report_data s) (report_data r) → ReportFitsBy IsLow s
  low_alike s r v h low is = (
    h.0,
    body_alike s.text s.points s.cells s.edges r.text r.points r.cells r.edges s.model r.model
        s.body r.body v h.1 low.1
        (sym (ap outline (in_order s.text s.points s.cells s.edges s.model s.body)) ∙ is
        ∙ ap outline (in_order r.text r.points r.cells r.edges r.model r.body)),
  )

-- the value that was read
abbrev json_in : Option (Json × List Token) → Json
json_in None = json.null
json_in (Some p) = p.0

-- values with the same tokens are written alike
same_tokens : (d e : Data) → onto d [] ≡ onto e [] → AreAlike d e
same_tokens d e is =
    let k : ℕ = tree.depth (outline d) + tree.depth (outline e) in
    let first : json.value k (json_tokens (outline d) ++ []) ≡ Some (outline d, []) =
    value-json_tokens (outline d) k [] (omega arith) in
    let second : json.value k (json_tokens (outline e) ++ []) ≡ Some (outline e, []) =
    value-json_tokens (outline e) k [] (omega arith) in
    let tokens_are : json_tokens (outline d) ≡ json_tokens (outline e) =
    sym (onto_alone d) ∙ is ∙ onto_alone e in
    ap json_in
    (sym first ∙ ap (λ (ts : List Token). json.value k (ts ++ [])) tokens_are ∙ second)

-- of two reports with one text both have low expressions, or none has
pub low_too : TextIsOfOne → (text : List ℕ) (verdict : Verdict) (r s : Report)
    → IsTold text verdict r → ReportFitsBy IsLow r → IsTold text verdict s → ReportFitsBy IsLow s
low_too law text verdict r s told low other =
    let kinds = other.kind ∙ sym told.kind in
    let line : compact_text (report_data s) ≡ compact_text (report_data r) =
    same_line r (compact_text (report_data s))
    (ap (λ v. with_feed (verdict_words v) ++ with_feed (compact_text (report_data s))) (sym kinds)
    ∙ sym other.spelled ∙ told.spelled) in
    low_alike law s r kinds other.fit low
    (same_tokens (report_data s) (report_data r)
    (sym (line_tokens Fits s other.fit) ∙ ap tokens line ∙ line_tokens IsLow r low))
