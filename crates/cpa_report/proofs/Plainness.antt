-- The JSON value of a report that fits has no float, numbers of 64 bits and keys in order, so the
-- tokens of its line are its own.
use Rattle.std.proofs.Common.{◌≡◌, ℕ, ◌<◌, ◌^◌, ◌+◌, ◌/◌, ◌%◌, ℤ, pos, negsuc, Bool, true, false}
use Rattle.std.proofs.Common.{List, [], ◌∷◌, ◌++◌, refl, sym, ap, ◌∙◌, subst, arith}
use Rattle.std.specs.Prelude.{◌==◌, if◌then◌else◌}
use Rattle.std.specs.List.{AllByRecursion, flat_map}
use Rattle.std.proofs.lemmas.List.{append_cancel_left, append_cancel_right}
use Rattle.json.specs.Lex.{tokens}
use Rattle.serde_json.specs.Data.{Data, Members, no_members}
use Rattle.serde_json.specs.Written.{compact_text}
use Rattle.cpa_cnf.specs.declared.formula.Line.{Line}
use Rattle.cpa_cnf.specs.declared.formula.Step.{Step}
use Rattle.cpa_expr.specs.declared.tree.Expr.{Expr}
use Rattle.cpa_iface.specs.declared.entries.Refined.{Refined}
use Rattle.cpa_iface.specs.declared.entries.Turn.{Turn}
use Rattle.cpa_iface.specs.declared.precisions.Precision.{Precision}
use Rattle.cpa_ints.specs.declared.data_model.DataModel.{DataModel}
use Rattle.cpa_ints.specs.declared.data_model.DataModel.TheVariants.{Lp64, Ilp32}
use Rattle.cpa_model.specs.declared.facts.Elem.{Elem}
use Rattle.cpa_facts.specs.declared.fact.Fact.{Fact}
use Rattle.cpa_facts.specs.declared.fact.Fact.TheVariants.{At, Stack, Equals, Within, Truth}
use Rattle.cpa_report.specs.Faults.{IsTold}
use Rattle.cpa_report_json.specs.Fits.{IsWhole, AreSmall, FactFits, ElemFits, ListedFits, PairFits}
use Rattle.cpa_report_json.specs.Fits.{TurnFits, PrecisionFits, RefinedFits}
use Rattle.cpa_report_json.specs.Fits.{LiteralFits, StepFits, LineFits, BodyFits}
use Rattle.cpa_report_json.specs.Fits.{ReportFitsBy}
use Rattle.cpa_report_json.specs.Plain.{IsPlain, MembersArePlain, gathered}
use Rattle.cpa_report_json.specs.lemmas.Readable.{tokens_are}
use Rattle.cpa_report_print.specs.Reports.{number_data, integer_data, list_data, numbers_data}
use Rattle.cpa_report_print.specs.Reports.{expr_data, truth_data, fact_data, elem_data}
use Rattle.cpa_report_print.specs.Reports.{listed_data, pair_data, turn_data}
use Rattle.cpa_report_print.specs.Reports.{precision_data, refined_data, literal_data, line_data}
use Rattle.cpa_report_print.specs.Reports.{report_data, report_text, verdict_of, verdict_words}
use Rattle.cpa_report_print.specs.Reports.{form_of, model_members, with_feed}
use Rattle.cpa_report_print.specs.Steps.{chain, ordered, told}
use Rattle.cpa_report_print.specs.Tokens.{onto}
use Rattle.cpa_report_print.specs.declared.report.Body.{Body}
use Rattle.cpa_report_print.specs.declared.report.Body.TheVariants as body
use Rattle.cpa_report_print.specs.declared.report.Listed.{Listed}
use Rattle.cpa_report_print.specs.declared.report.Report.{Report}
use Rattle.cpa_report_print.specs.declared.report.Verdict.{Verdict}
use Rattle.cpa_report_print.specs.lemmas.Onto.{onto_alone}
use Rattle.cpa_report_print.specs.lemmas.Ordered.{in_order}

module _ {X : Type 0} (data_of : X → Data) (Fits : X → Type 0)
    (plain : (x : X) → Fits x → IsPlain (data_of x)) where
  pub list_plain : (xs : List X) → AllByRecursion Fits xs → IsPlain (list_data data_of xs)
  list_plain [] h = tt
  list_plain (x ∷ xs) h = (plain x h.0, list_plain xs h.1)

number_plain : (n : ℕ) → n < 2 ^ 32 → IsPlain (number_data n)
number_plain n h = omega arith

integer_plain : (z : ℤ) → IsWhole z → IsPlain (integer_data z)
integer_plain (pos n) h = h
integer_plain (negsuc n) h = h

numbers_plain : (ns : List ℕ) → AreSmall ns → IsPlain (numbers_data ns)
numbers_plain = list_plain number_data (λ n. n < 2 ^ 32) number_plain

truth_plain : (b : Bool) → IsPlain (truth_data b)
truth_plain true = omega arith
truth_plain false = omega arith

pair_plain : (p : ℕ × ℕ) → PairFits p → IsPlain (pair_data p)
pair_plain p h = (number_plain p.0 h.0, (number_plain p.1 h.1, tt))

turn_plain : (turn : Turn) → TurnFits turn → IsPlain (turn_data turn)
turn_plain turn h = (
  number_plain turn.taken h.0,
  (numbers_plain turn.added h.1, (list_plain pair_data PairFits pair_plain turn.replaced h.2, tt)),
)

signed_plain : (odd : Bool) (l : ℕ) → l < 2 ^ 33
    → IsPlain (integer_data (if odd then negsuc (l / 2) else pos (l / 2 + 1)))
signed_plain true l h = omega arith
signed_plain false l h = omega arith

literal_plain : (l : ℕ) → LiteralFits l → IsPlain (literal_data l)
literal_plain l h = signed_plain (l % 2 == 1) l h

steps_small : (steps : List Step) → AllByRecursion StepFits steps
    → AreSmall (flat_map (λ step. step.pivot ∷ step.clause ∷ []) steps)
steps_small [] h = tt
steps_small (s ∷ steps) h = (h.0.0, (h.0.1, steps_small steps h.1))

line_plain : (line : Line) → LineFits line → IsPlain (line_data line)
line_plain line h = (
  list_plain literal_data LiteralFits literal_plain line.clause h.0.1,
  (
    numbers_plain (line.first ∷ flat_map (λ step. step.pivot ∷ step.clause ∷ []) line.steps)
        (h.1, steps_small line.steps h.2),
    tt,
  ),
)

lines_plain : (lines : List Line) → AllByRecursion LineFits lines → IsPlain
    (list_data line_data lines)
lines_plain = list_plain line_data LineFits line_plain

-- the keys of a report ascend
ascending : (t p c e : ℕ) (m : DataModel) (b : Body)
    → gathered (ordered (told t p c e m b)) no_members ≡ ordered (told t p c e m b)
ascending t p c e Lp64 (body.True entries) = refl
ascending t p c e Lp64 (body.False inputs steps) = refl
ascending t p c e Lp64 (body.Turns journal) = refl
ascending t p c e Lp64 (body.Rounds path history) = refl
ascending t p c e Lp64 (body.Learnt path lines) = refl
ascending t p c e Lp64 (body.Gates path weight) = refl
ascending t p c e Lp64 (body.NoNew path precisions) = refl
ascending t p c e Lp64 (body.Proof entries logs) = refl
ascending t p c e Ilp32 (body.True entries) = refl
ascending t p c e Ilp32 (body.False inputs steps) = refl
ascending t p c e Ilp32 (body.Turns journal) = refl
ascending t p c e Ilp32 (body.Rounds path history) = refl
ascending t p c e Ilp32 (body.Learnt path lines) = refl
ascending t p c e Ilp32 (body.Gates path weight) = refl
ascending t p c e Ilp32 (body.NoNew path precisions) = refl
ascending t p c e Ilp32 (body.Proof entries logs) = refl

module _ (E : Expr → Type 0) where
  fact_plain : (f : Fact) → FactFits E f → IsPlain (fact_data f)
  fact_plain (At point) h = (tt, (number_plain point h, tt))
  fact_plain (Stack sites) h = (tt, (numbers_plain sites h, tt))
  fact_plain (Equals cell value) h =
      (tt, (number_plain cell h.0, (integer_plain value h.1, tt)))
  fact_plain (Within cell lo hi) h =
      (tt, (number_plain cell h.0, (integer_plain lo h.1, (integer_plain hi h.2, tt))))
  fact_plain (Truth expr holds) h = (tt, (tt, (truth_plain holds, tt)))

  elem_plain : (e : Elem) → ElemFits E e → IsPlain (elem_data e)
  elem_plain e h = list_plain fact_data (FactFits E) fact_plain e.facts h

  listed_plain : (entry : Listed) → ListedFits E entry → IsPlain (listed_data entry)
  listed_plain entry h = (
    (
      list_plain elem_data (ElemFits E) elem_plain entry.elems h.0,
      (number_plain entry.number h.1, tt),
    ),
    refl,
  )

  precision_plain : (p : Precision) → PrecisionFits E p → IsPlain (precision_data p)
  precision_plain p h = (
    (
      number_plain p.limit h.0,
      (
        list_plain expr_data E (λ e fit. tt) p.preds h.1,
        (numbers_plain p.tracked h.2, tt),
      ),
    ),
    refl,
  )

  refined_plain : (r : Refined) → RefinedFits E r → IsPlain (refined_data r)
  refined_plain r h = (
    (
      numbers_plain r.path.edges h.0,
      (list_plain precision_data (PrecisionFits E) precision_plain r.precisions h.1, tt),
    ),
    refl,
  )

  entries_plain : (entries : List Listed) → AllByRecursion (ListedFits E) entries
      → IsPlain (list_data listed_data entries)
  entries_plain = list_plain listed_data (ListedFits E) listed_plain

  -- what tells the data model
  form_plain : (m : DataModel) → IsPlain (number_data (form_of m))
  form_plain Lp64 = omega arith
  form_plain Ilp32 = omega arith

  model_plain : (m : DataModel) (ms : Members) → MembersArePlain ms
      → MembersArePlain (chain (model_members m) ms)
  model_plain Lp64 ms h = h
  model_plain Ilp32 ms h = (tt, h)

  members_plain : (t p c e : ℕ) (m : DataModel) (b : Body) → t < 2 ^ 32 → p < 2 ^ 32
      → c < 2 ^ 32 → e < 2 ^ 32 → BodyFits E b → MembersArePlain (ordered (told t p c e m b))
  members_plain t p c e m (body.True entries) ht hp hc he h = (
    number_plain c hc,
    (
      number_plain e he,
      (
        entries_plain entries h.0,
        (form_plain m, model_plain m _ (number_plain p hp, (number_plain t ht, tt))),
      ),
    ),
  )
  members_plain t p c e m (body.False inputs steps) ht hp hc he h = (
    number_plain c hc,
    (
      number_plain e he,
      (
        form_plain m,
        (
          list_plain integer_data IsWhole integer_plain inputs h.0,
          model_plain m _ (number_plain p hp, (h.1, (number_plain t ht, tt))),
        ),
      ),
    ),
  )
  members_plain t p c e m (body.Turns journal) ht hp hc he h = (
    number_plain c hc,
    (
      number_plain e he,
      (
        form_plain m,
        (
          list_plain turn_data TurnFits turn_plain journal h,
          model_plain m _ (number_plain p hp, (number_plain t ht, tt)),
        ),
      ),
    ),
  )
  members_plain t p c e m (body.Rounds path history) ht hp hc he h = (
    number_plain c hc,
    (
      number_plain e he,
      (
        form_plain m,
        (
          list_plain refined_data (RefinedFits E) refined_plain history h.1,
          model_plain m _
              (numbers_plain path.edges h.0, (number_plain p hp, (number_plain t ht, tt))),
        ),
      ),
    ),
  )
  members_plain t p c e m (body.Learnt path lines) ht hp hc he h = (
    number_plain c hc,
    (
      number_plain e he,
      (
        form_plain m,
        (
          lines_plain lines h.1,
          model_plain m _
              (numbers_plain path.edges h.0, (number_plain p hp, (number_plain t ht, tt))),
        ),
      ),
    ),
  )
  members_plain t p c e m (body.Gates path weight) ht hp hc he h = (
    number_plain c hc,
    (
      number_plain e he,
      (
        form_plain m,
        model_plain m _
            (numbers_plain path.edges h.0, (number_plain p hp, (number_plain t ht, (h.1, tt)))),
      ),
    ),
  )
  members_plain t p c e m (body.NoNew path precisions) ht hp hc he h = (
    number_plain c hc,
    (
      number_plain e he,
      (
        form_plain m,
        model_plain m _ (
          numbers_plain path.edges h.0,
          (
            number_plain p hp,
            (
              list_plain precision_data (PrecisionFits E) precision_plain precisions h.1,
              (number_plain t ht, tt),
            ),
          ),
        ),
      ),
    ),
  )
  members_plain t p c e m (body.Proof entries logs) ht hp hc he h = (
    number_plain c hc,
    (
      number_plain e he,
      (
        entries_plain entries h.0.0,
        (
          form_plain m,
          (
            list_plain (list_data line_data) (AllByRecursion LineFits) lines_plain logs h.1,
            model_plain m _ (number_plain p hp, (number_plain t ht, tt)),
          ),
        ),
      ),
    ),
  )

  pub told_plain : (t p c e : ℕ) (m : DataModel) (b : Body) → t < 2 ^ 32 → p < 2 ^ 32
      → c < 2 ^ 32 → e < 2 ^ 32 → BodyFits E b → IsPlain (report_data (told t p c e m b))
  told_plain t p c e m b ht hp hc he h =
      subst IsPlain (sym (in_order t p c e m b))
      (members_plain t p c e m b ht hp hc he h, ascending t p c e m b)

  -- the tokens of the line of a report
  pub line_tokens : (r : Report) → ReportFitsBy E r
      → tokens (compact_text (report_data r)) ≡ onto (report_data r) []
  line_tokens r h =
      tokens_are (report_data r)
      (told_plain r.text r.points r.cells r.edges r.model r.body h.0.0 h.0.1 h.0.2 h.0.3 h.1)
      ∙ sym (onto_alone (report_data r))

-- a text with the line of a report's text has the report's line
pub same_line : (r : Report) (line : List ℕ)
    → with_feed (verdict_words (verdict_of r.body)) ++ with_feed line ≡ report_text r
    → line ≡ compact_text (report_data r)
same_line r line e =
    append_cancel_right line (compact_text (report_data r)) (10 ∷ [])
    (append_cancel_left (with_feed (verdict_words (verdict_of r.body))) (with_feed line)
    (with_feed (compact_text (report_data r))) e)

-- and so has a text of a report that is told so
pub line_of_told : (text line : List ℕ) (verdict : Verdict) (r : Report)
    → text ≡ with_feed (verdict_words verdict) ++ with_feed line → IsTold text verdict r
    → line ≡ compact_text (report_data r)
line_of_told text line verdict r is told =
    same_line r line
    (ap (λ v. with_feed (verdict_words v) ++ with_feed line) told.kind ∙ sym is ∙ told.spelled)
