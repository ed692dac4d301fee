-- A line and the same with low expressions are those of reports together.
use Rattle.std.proofs.Common.{◌≡◌, ℕ, pos, Bool, true, false, List, [], ◌∷◌, refl, sym, ap, ◌∙◌}
use Rattle.std.proofs.Common.{subst, arith, inl, inr, ◌++◌, Option, Some, None}
use Rattle.std.specs.Prelude.{codes, ◌==◌, IsUtf8, IfSome}
use Rattle.std.specs.List.{list_any}
use Rattle.std.proofs.lemmas.Fmt.{decimal_digit}
use Rattle.json.specs.Lex.{tokens}
use Rattle.json.specs.Print.{print}
use Rattle.json.specs.Token.{Token}
use Rattle.json.specs.Token as token
use Rattle.serde_json.specs.Data.{Data, null, boolean, number, string, array, object}
use Rattle.serde_json.specs.Data.{Items, no_items, item, Members, no_members, member}
use Rattle.serde_json.specs.Written.{compact_text}
use Rattle.cpa_ints.specs.declared.integers.IntType.TheVariants as ty
use Rattle.cpa_expr.specs.declared.tree.UnOp.TheVariants as un
use Rattle.cpa_expr.specs.declared.tree.BinOp.TheVariants as bin
use Rattle.cpa_expr.specs.declared.tree.CmpOp.TheVariants as cmp
use Rattle.cpa_expr.specs.declared.tree.Expr.{Expr, out-Expr, roll-Expr}
use Rattle.cpa_expr.specs.declared.tree.Expr.TheVariants.{Const, rolls-Const}
use Rattle.cpa_expr.specs.declared.tree.Expr.TheViews.{roll-out-Expr}
use Rattle.cpa_expr.specs.declared.tree.Expr.TheOpen.{Expr-F}
use Rattle.cpa_expr.specs.declared.tree.Expr.TheFolds.{map-Expr, fold-roll-Expr}
use Rattle.cpa_expr.specs.Laws.{height_at_variants}
use Rattle.cpa_expr.specs.Spelling.{text_step, expr_text}
use Rattle.cpa_expr.specs.lemmas.Parts.{every_of_parts}
use Rattle.cpa_expr_text.specs.Due.{IsExprText}
use Rattle.cpa_expr_text.specs.Reading.{FitsHere, Fits}
use Rattle.cpa_report.specs.Faults.{IsTold}
use Rattle.cpa_report.specs.Heights.{LowersToken, Along, AreGood, IsLowered, IsLineOf, IsLineLike}
use Rattle.cpa_report.proofs.Carrying.{is_text, carry_body}
use Rattle.cpa_report.proofs.Lowness.{report_fits}
use Rattle.cpa_report.proofs.Plainness.{line_tokens, line_of_told}
use Rattle.cpa_report_json.specs.Fits.{ReportFitsBy, IsLow}
use Rattle.cpa_report_print.specs.Reports.{report_data, verdict_of, verdict_words, with_feed}
use Rattle.cpa_report_print.specs.Steps.{told}
use Rattle.cpa_report_print.specs.Tokens.{onto, items_onto, members_onto}
use Rattle.cpa_report_print.specs.declared.report.Report.{Report}
use Rattle.cpa_report_print.specs.declared.report.Verdict.{Verdict}
use Rattle.cpa_report_print.specs.lemmas.Onto.{print-onto}

abbrev has_space : List ℕ → Bool
has_space = list_any (λ b. b == 32)

-- ---- the text of an expression has a space

spaced : (x : Expr-F (List ℕ)) → has_space (text_step x) ≡ true
spaced (Expr-F.Const t n) = refl
spaced (Expr-F.Read t base len index) = refl
spaced (Expr-F.Un un.Neg t arg) = refl
spaced (Expr-F.Un un.Flip t arg) = refl
spaced (Expr-F.Bin bin.Add t left right) = refl
spaced (Expr-F.Bin bin.Sub t left right) = refl
spaced (Expr-F.Bin bin.Mul t left right) = refl
spaced (Expr-F.Bin bin.Div t left right) = refl
spaced (Expr-F.Bin bin.Rem t left right) = refl
spaced (Expr-F.Bin bin.BitAnd t left right) = refl
spaced (Expr-F.Bin bin.BitOr t left right) = refl
spaced (Expr-F.Bin bin.BitXor t left right) = refl
spaced (Expr-F.Bin bin.Shl t left right) = refl
spaced (Expr-F.Bin bin.Shr t left right) = refl
spaced (Expr-F.Cmp cmp.Eq t left right) = refl
spaced (Expr-F.Cmp cmp.Ne t left right) = refl
spaced (Expr-F.Cmp cmp.Lt t left right) = refl
spaced (Expr-F.Cmp cmp.Le t left right) = refl
spaced (Expr-F.Cmp cmp.Gt t left right) = refl
spaced (Expr-F.Cmp cmp.Ge t left right) = refl
spaced (Expr-F.Cast t arg) = refl
spaced (Expr-F.And left right) = refl
spaced (Expr-F.Or left right) = refl
spaced (Expr-F.Not arg) = refl
spaced (Expr-F.Cond t test first second) = refl

text_rolled : (x : Expr-F Expr)
    → expr_text (roll-Expr x) ≡ text_step (map-Expr Expr (List ℕ) expr_text x)
text_rolled x = fold-roll-Expr (List ℕ) text_step x

spaced_text : (e : Expr) → has_space (expr_text e) ≡ true
spaced_text e =
    ap (λ f. has_space (expr_text f)) (sym (roll-out-Expr e))
    ∙ ap has_space (text_rolled (out-Expr e))
    ∙ spaced (map-Expr Expr (List ℕ) expr_text (out-Expr e))

no_name : (s : List ℕ) → has_space s ≡ false → IsExprText s → ⊥
no_name s none is =
    let e : has_space s ≡ has_space (expr_text is.0) = ap has_space is.2 in
    let f = spaced_text is.0 in
    absurd (cc)

-- ---- the text of the low expression

abbrev zero_expr : Expr
zero_expr = Const ty.I32 (pos 0)

zero_text : expr_text zero_expr ≡ codes "const i32 0"
zero_text =
    ap expr_text (sym (rolls-Const ty.I32 (pos 0)))
    ∙ text_rolled (Expr-F.Const ty.I32 (pos 0))
    ∙ ap (λ (ds : List ℕ). codes "const i32 " ++ (ds ++ [])) (decimal_digit 0 (omega arith))

zero_low : IsLow zero_expr
zero_low = (
  subst Fits (rolls-Const ty.I32 (pos 0))
      (every_of_parts FitsHere (Expr-F.Const ty.I32 (pos 0)) (record { sfits = omega arith }) tt),
  omega (arith, height_at_variants.constant ty.I32 (pos 0)),
)

-- ---- token by token

stays : (t u : Token) → is_text t ≡ false → LowersToken t u → u ≡ t
stays token.begin_object u none h = h
stays token.end_object u none h = h
stays token.begin_array u none h = h
stays token.end_array u none h = h
stays (token.key k) u none h = h
stays (token.string s) u none h = absurd (cc)
stays (token.number s) u none h = h
stays (token.boolean b) u none h = h
stays token.null u none h = h
stays token.bad u none h = h

names : (s : List ℕ) → has_space s ≡ false → (u : Token) → LowersToken (token.string s) u
    → u ≡ token.string s
names s none u h = elim h.2 [
  | inl k ↦ absurd (no_name s none k.0)
  | inr k ↦ h.1 ∙ ap token.string k.1
]

texts : (e : Expr) → Fits e → (u : Token) → LowersToken (token.string (expr_text e)) u
    → (f : Expr) × IsLow f × (u ≡ token.string (expr_text f))
texts e fit u h = elim h.2 [
  | inl k ↦ (zero_expr, zero_low, h.1 ∙ ap token.string (k.1 ∙ sym zero_text))
  | inr k ↦ absurd (k.0 (e, fit, refl))
]

-- and the other way round

abbrev RaisesToken : Token → Token → Type 0
RaisesToken u t = LowersToken t u

raised_stays : (u t : Token) → is_text u ≡ false → RaisesToken u t → t ≡ u
raised_stays u token.begin_object none h = sym h
raised_stays u token.end_object none h = sym h
raised_stays u token.begin_array none h = sym h
raised_stays u token.end_array none h = sym h
raised_stays u (token.key k) none h = sym h
raised_stays u (token.string s) none h =
    let e : is_text u ≡ true = ap is_text h.1 in
    absurd (cc)
raised_stays u (token.number s) none h = sym h
raised_stays u (token.boolean b) none h = sym h
raised_stays u token.null none h = sym h
raised_stays u token.bad none h = sym h

raised_names : (s : List ℕ) → has_space s ≡ false → (t : Token) → RaisesToken (token.string s) t
    → t ≡ token.string s
raised_names s none token.begin_object h = sym h
raised_names s none token.end_object h = sym h
raised_names s none token.begin_array h = sym h
raised_names s none token.end_array h = sym h
raised_names s none (token.key k) h = sym h
raised_names s none (token.string text) h =
    let same : s ≡ h.0 = cc in
    elim h.2 [
      | inl k ↦
          let e : has_space s ≡ true = ap has_space (same ∙ k.1) in
          absurd (cc)
      | inr k ↦ ap token.string (sym k.1 ∙ sym same)
    ]
raised_names s none (token.number n) h = sym h
raised_names s none (token.boolean b) h = sym h
raised_names s none token.null h = sym h
raised_names s none token.bad h = sym h

raised_texts : (e : Expr) → IsLow e → (t : Token) → RaisesToken (token.string (expr_text e)) t
    → (f : Expr) × Fits f × (t ≡ token.string (expr_text f))
raised_texts e low token.begin_object h = absurd (cc)
raised_texts e low token.end_object h = absurd (cc)
raised_texts e low token.begin_array h = absurd (cc)
raised_texts e low token.end_array h = absurd (cc)
raised_texts e low (token.key k) h = absurd (cc)
raised_texts e low (token.string text) h =
    let same : expr_text e ≡ h.0 = cc in
    elim h.2 [
      | inl k ↦ ((k.0).0, (k.0).1, ap token.string (k.0).2)
      | inr k ↦ (e, low.0, ap token.string (sym k.1 ∙ sym same))
    ]
raised_texts e low (token.number n) h = absurd (cc)
raised_texts e low (token.boolean b) h = absurd (cc)
raised_texts e low token.null h = absurd (cc)
raised_texts e low token.bad h = absurd (cc)

raised : (ts us : List Token) → Along LowersToken ts us → Along RaisesToken us ts
raised [] [] h = tt
raised [] (u ∷ us) h = absurd h
raised (t ∷ ts) [] h = absurd h
raised (t ∷ ts) (u ∷ us) h = (h.0, raised ts us h.1)

-- ---- lines

-- the line of a report with expressions of any height gives that of one with low ones
pub low_line : (line low : List ℕ) (verdict : Verdict) (r : Report) → IsLowered line low
    → IsLineOf line verdict r → (s : Report) × ReportFitsBy IsLow s
    × (verdict_of s.body ≡ verdict) × (low ≡ compact_text (report_data s))
low_line line low verdict r is of =
    let along =
    subst (λ (ts : List Token). Along LowersToken ts (tokens low))
    (ap tokens of.spelled ∙ line_tokens Fits r of.fit) is.along in
    let b =
    carry_body LowersToken stays Fits IsLow names texts r.text r.points r.cells r.edges r.model
    r.body (of.fit).1 (tokens low) along in (
      told r.text r.points r.cells r.edges r.model b.value,
      ((of.fit).0, b.fit),
      b.kind ∙ of.kind,
      is.low_spelled ∙ ap print b.tokens
          ∙ print-onto (report_data (told r.text r.points r.cells r.edges r.model b.value)),
    )

-- and where that is the line of a report, so is this, with the same counts
-- and the same data model
pub high_line : (line low : List ℕ) (verdict : Verdict) (s : Report) → IsLowered line low
    → ReportFitsBy IsLow s → verdict_of s.body ≡ verdict → low ≡ compact_text (report_data s)
    → IsLineLike line verdict s
high_line line low verdict s is fit kind spelled =
    let along =
    subst (λ (us : List Token). Along RaisesToken us (tokens line))
    (ap tokens spelled ∙ line_tokens IsLow s fit) (raised _ _ is.along) in
    let b =
    carry_body RaisesToken raised_stays IsLow Fits raised_names raised_texts s.text s.points
    s.cells s.edges s.model s.body fit.1 (tokens line) along in
    record {
      body = b.value;
      is = record {
        fit = (fit.0, b.fit);
        kind = b.kind ∙ kind;
        spelled = is.spelled ∙ ap print b.tokens
            ∙ print-onto (report_data (told s.text s.points s.cells s.edges s.model b.value));
      };
    }

-- ---- what is asked of the calls

pub neither : {X : Type 0} (o : Option X) → ((x : X) → o ≡ Some x → ⊥) → (o ≡ None → ⊥) → ⊥
neither None some none = none refl
neither (Some x) some none = some x refl

mutual
  good_onto : (d : Data) (rest : List Token) → AreGood rest → AreGood (onto d rest)
  good_onto null rest h = (λ e. absurd (cc), h)
  good_onto (boolean b) rest h = (λ e. absurd (cc), h)
  good_onto (number n) rest h = (λ e. absurd (cc), h)
  good_onto (string s) rest h = (λ e. absurd (cc), h)
  good_onto (array ds) rest h = (λ e. absurd (cc), good_items ds rest h)
  good_onto (object ms) rest h = (λ e. absurd (cc), good_members ms rest h)

  good_items : (ds : Items) (rest : List Token) → AreGood rest → AreGood (items_onto ds rest)
  good_items no_items rest h = (λ e. absurd (cc), h)
  good_items (item d ds) rest h = good_onto d (items_onto ds rest) (good_items ds rest h)

  good_members : (ms : Members) (rest : List Token) → AreGood rest
      → AreGood (members_onto ms rest)
  good_members no_members rest h = (λ e. absurd (cc), h)
  good_members (member k d ms) rest h =
      (λ e. absurd (cc), good_onto d (members_onto ms rest) (good_members ms rest h))

pub good_line : (line : List ℕ) (verdict : Verdict) (r : Report) → IsLineOf line verdict r
    → AreGood (tokens line) × (line ≡ print (tokens line))
good_line line verdict r of =
    let same = ap tokens of.spelled ∙ line_tokens Fits r of.fit in (
      subst AreGood (sym same) (good_onto (report_data r) [] tt),
      of.spelled ∙ sym (print-onto (report_data r)) ∙ ap print (sym same),
    )

abbrev text_with : Verdict → List ℕ → List ℕ
text_with verdict line = with_feed (verdict_words verdict) ++ with_feed line

pub likes : (o : Option Report) (line low text : List ℕ) (verdict : Verdict) → IsLowered line low
    → text ≡ text_with verdict low → IfSome o (IsTold text verdict)
    → IfSome o (ReportFitsBy IsLow) → IfSome o (IsLineLike line verdict)
likes None line low text verdict is spelled told fit = tt
likes (Some s) line low text verdict is spelled told fit =
    high_line line low verdict s is fit told.kind (line_of_told text low verdict s spelled told)

pub found_low : (o : Option Report) (line low text : List ℕ) (verdict : Verdict) (r : Report)
    → IsLowered line low → text ≡ text_with verdict low
    → (IsUtf8 low → (s : Report) → IsTold text verdict s → ReportFitsBy IsLow s → o ≡ Some s)
    → IsLineOf line verdict r → o ≡ None → ⊥
found_low o line low text verdict r is spelled every of none =
    let s = low_line line low verdict r is of in
    let told : IsTold text verdict s.0 = record {
      fit = report_fits s.0 s.1;
      kind = s.2;
      spelled = spelled ∙ ap (λ v. text_with v low) (sym s.2)
          ∙ ap (λ l. text_with (verdict_of (s.0).body) l) s.3;
    } in
    let found = every is.utf8 s.0 told s.1 in
    absurd (cc)
