-- The line of a report is of visible ASCII and spaces: so it is UTF-8, and has no line feed.
use Rattle.std.proofs.Common.{◌≡◌, ℕ, zero, suc, ◌<◌, ◌^◌, ℤ, pos, negsuc, Bool, true, false}
use Rattle.std.proofs.Common.{◌&&◌, nat_lt, List, [], ◌∷◌, ◌++◌, inl, inr, refl, sym, ◌∙◌}
use Rattle.std.proofs.Common.{subst, arith, decimal}
use Rattle.std.specs.Prelude.{codes, ◌==◌, IsUtf8, FitsSigned, ⊤}
use Rattle.std.specs.Fmt.{signed_decimal}
use Rattle.std.specs.Int.{w128}
use Rattle.std.specs.List.{AllByRecursion, flat_map, list_any}
use Rattle.std.specs.Str.Parse.{AllDigits}
use Rattle.std.proofs.lemmas.Bool.{and_parts, and_from, cases_eq, ltb-true, lt-ltb, ne_eqb}
use Rattle.std.proofs.lemmas.Fmt.{decimal_is_IsNumeral_wide}
use Rattle.std.proofs.lemmas.Str.Parse.{digit_from_value}
use Rattle.json.specs.Print.{escape_byte, escape, quoted}
use Rattle.json.proofs.Printed.Utf8.{are_ascii, IsUtf8-are_ascii}
use Rattle.serde_json.specs.Data.{Num, unsigned, negative, float, Data, null, boolean, number}
use Rattle.serde_json.specs.Data.{string, array, object, Items, no_items, item, Members, no_members}
use Rattle.serde_json.specs.Data.{member}
use Rattle.serde_json.specs.Written.{compact_text, items_text, members_text, comma_if, number_text}
use Rattle.cpa_ints.specs.declared.integers.IntType.{IntType}
use Rattle.cpa_ints.specs.declared.integers.IntType.TheVariants as ty
use Rattle.cpa_cnf.specs.declared.formula.Line.{Line}
use Rattle.cpa_expr.specs.declared.tree.UnOp.{UnOp}
use Rattle.cpa_expr.specs.declared.tree.UnOp.TheVariants as un
use Rattle.cpa_expr.specs.declared.tree.BinOp.{BinOp}
use Rattle.cpa_expr.specs.declared.tree.BinOp.TheVariants as bin
use Rattle.cpa_expr.specs.declared.tree.CmpOp.{CmpOp}
use Rattle.cpa_expr.specs.declared.tree.CmpOp.TheVariants as cmp
use Rattle.cpa_expr.specs.declared.tree.Expr.{Expr, roll-Expr}
use Rattle.cpa_expr.specs.declared.tree.Expr.TheOpen.{Expr-F}
use Rattle.cpa_expr.specs.declared.tree.Expr.TheFolds.{map-Expr, fold-roll-Expr}
use Rattle.cpa_expr.specs.Shape.{OfParts}
use Rattle.cpa_expr.specs.Spelling.{text_step, expr_text}
use Rattle.cpa_expr.specs.Words.{type_word, un_word, bin_word, cmp_word}
use Rattle.cpa_expr.specs.lemmas.Parts.{every_rolled, by_parts}
use Rattle.cpa_expr_text.specs.Reading.{FitsHere, Fits}
use Rattle.cpa_iface.specs.declared.entries.Refined.{Refined}
use Rattle.cpa_iface.specs.declared.entries.Turn.{Turn}
use Rattle.cpa_iface.specs.declared.precisions.Precision.{Precision}
use Rattle.cpa_ints.specs.declared.data_model.DataModel.{DataModel}
use Rattle.cpa_ints.specs.declared.data_model.DataModel.TheVariants.{Lp64, Ilp32}
use Rattle.cpa_model.specs.declared.facts.Elem.{Elem}
use Rattle.cpa_facts.specs.declared.fact.Fact.{Fact}
use Rattle.cpa_facts.specs.declared.fact.Fact.TheVariants.{At, Stack, Equals, Within, Truth}
use Rattle.cpa_report_json.specs.Fits.{FactFits, ElemFits, ListedFits, PrecisionFits, RefinedFits}
use Rattle.cpa_report_json.specs.Fits.{BodyFits, ReportFits}
use Rattle.cpa_report_json.specs.Plain.{IsPlainNum, IsPlain, ItemsArePlain, MembersArePlain}
use Rattle.cpa_report_print.specs.Reports.{number_data, integer_data, list_data, numbers_data}
use Rattle.cpa_report_print.specs.Reports.{expr_data, truth_data, fact_data, elem_data}
use Rattle.cpa_report_print.specs.Reports.{listed_data, pair_data, turn_data}
use Rattle.cpa_report_print.specs.Reports.{precision_data, refined_data, literal_data, line_data}
use Rattle.cpa_report_print.specs.Reports.{model_members, report_data}
use Rattle.cpa_report_print.specs.Steps.{chain, ordered, told}
use Rattle.cpa_report_print.specs.declared.report.Body.{Body}
use Rattle.cpa_report_print.specs.declared.report.Body.TheVariants as body
use Rattle.cpa_report_print.specs.declared.report.Listed.{Listed}
use Rattle.cpa_report_print.specs.declared.report.Report.{Report}
use Rattle.cpa_report_print.specs.lemmas.Ordered.{in_order}
use Rattle.cpa_report.proofs.Plainness.{told_plain}

-- ---- visible bytes

abbrev shown : ℕ → Bool
shown b = nat_lt 31 b && nat_lt b 128

abbrev are_shown : List ℕ → Bool
are_shown [] = true
are_shown (b ∷ bs) = shown b && are_shown bs

abbrev AreShown : List ℕ → Type 0
AreShown s = are_shown s ≡ true

shown_append : (xs ys : List ℕ) → AreShown xs → AreShown ys → AreShown (xs ++ ys)
shown_append [] ys f g = g
shown_append (x ∷ xs) ys f g =
    let p = and_parts _ _ f in
    and_from _ _ p.0 (shown_append xs ys p.1 g)

shown_from : (b : ℕ) → 31 < b → b < 128 → shown b ≡ true
shown_from b low high = and_from _ _ (lt-ltb 31 b low) (lt-ltb b 128 high)

ascii_shown : (s : List ℕ) → AreShown s → are_ascii s ≡ true
ascii_shown [] h = refl
ascii_shown (b ∷ bs) h =
    let p = and_parts _ _ h in
    let q = and_parts _ _ p.0 in
    and_from _ _ q.1 (ascii_shown bs p.1)

no_feed : (s : List ℕ) → AreShown s → list_any (λ b. b == 10) s ≡ false
no_feed [] h = refl
no_feed (b ∷ bs) h =
    let p = and_parts _ _ h in
    let q = and_parts _ _ p.0 in
    let above = ltb-true 31 b q.0 in
    rw (ne_eqb b 10 (λ e. omega arith)) (no_feed bs p.1)

-- the escapes of the bytes below n are visible
abbrev escapes_below : ℕ → Bool
escapes_below zero = true
escapes_below (suc n) = are_shown (escape_byte n) && escapes_below n

escape_below : (n : ℕ) → escapes_below n ≡ true → (x : ℕ) → x < n → AreShown (escape_byte x)
escape_below zero e x h = absurd (omega arith)
escape_below (suc n) e x h =
    let p = and_parts _ _ e in
    elim (cases_eq x n) [
      | inl same ↦ rw same p.0
      | inr other ↦ escape_below n p.1 x (omega arith)
    ]

all_escapes : escapes_below 128 ≡ true
unfolding escape_byte
all_escapes = refl

escape_shown : (s : List ℕ) → AreShown s → AreShown (escape s)
escape_shown [] h = refl
escape_shown (b ∷ bs) h =
    let p = and_parts _ _ h in
    let q = and_parts _ _ p.0 in
    shown_append (escape_byte b) (escape bs)
    (escape_below 128 all_escapes b (ltb-true b 128 q.1)) (escape_shown bs p.1)

quoted_shown : (s : List ℕ) → AreShown s → AreShown (quoted s)
quoted_shown s h =
    and_from _ _ refl (shown_append (escape s) (34 ∷ []) (escape_shown s h) refl)

-- ---- numbers

digits_shown : (ds : List ℕ) → AllDigits 10 ds → AreShown ds
digits_shown [] d = refl
digits_shown (c ∷ cs) d =
    let v = digit_from_value c d.0 in
    and_from _ _ (shown_from c (omega (arith, v)) (omega (arith, v))) (digits_shown cs d.1)

decimal_shown : (n : ℕ) → n < 10 ^ 64 → AreShown (decimal n)
decimal_shown n h = digits_shown (decimal n) (decimal_is_IsNumeral_wide n h).0.1

integer_shown : (z : ℤ) → FitsSigned w128 z → AreShown (signed_decimal z)
integer_shown (pos n) h = decimal_shown n (omega (arith, h.sfits))
integer_shown (negsuc n) h =
    and_from _ _ refl (decimal_shown (suc n) (omega (arith, h.sfits)))

number_shown : (n : Num) → IsPlainNum n → AreShown (number_text n)
number_shown (unsigned n) h = decimal_shown n (omega arith)
number_shown (negative (pos n)) h = absurd h
number_shown (negative (negsuc n)) h = and_from _ _ refl (decimal_shown (suc n) (omega arith))
number_shown (float x) h = absurd h

-- ---- values whose texts and keys are visible

abbrev mutual
  IsClear : Data → Type 0
  IsClear null = ⊤
  IsClear (boolean b) = ⊤
  IsClear (number n) = ⊤
  IsClear (string s) = AreShown s
  IsClear (array ds) = AreClear ds
  IsClear (object ms) = HoldClear ms

  AreClear : Items → Type 0
  AreClear no_items = ⊤
  AreClear (item d ds) = IsClear d × AreClear ds

  HoldClear : Members → Type 0
  HoldClear no_members = ⊤
  HoldClear (member k d ms) = AreShown k × IsClear d × HoldClear ms

comma_shown : (later : Bool) → AreShown (comma_if later)
comma_shown true = refl
comma_shown false = refl

mutual
  text_shown : (d : Data) → IsPlain d → IsClear d → AreShown (compact_text d)
  text_shown null p h = refl
  text_shown (boolean true) p h = refl
  text_shown (boolean false) p h = refl
  text_shown (number n) p h = number_shown n p
  text_shown (string s) p h = quoted_shown s h
  text_shown (array ds) p h = and_from _ _ refl (items_shown false ds p h)
  text_shown (object ms) p h = and_from _ _ refl (members_shown false ms p.0 h)

  items_shown : (later : Bool) (ds : Items) → ItemsArePlain ds → AreClear ds
      → AreShown (items_text later ds)
  items_shown later no_items p h = refl
  items_shown later (item d ds) p h =
      shown_append (comma_if later) (compact_text d ++ items_text true ds) (comma_shown later)
      (shown_append (compact_text d) (items_text true ds) (text_shown d p.0 h.0)
      (items_shown true ds p.1 h.1))

  members_shown : (later : Bool) (ms : Members) → MembersArePlain ms → HoldClear ms
      → AreShown (members_text later ms)
  members_shown later no_members p h = refl
  members_shown later (member k d ms) p h =
      shown_append (comma_if later) (quoted k ++ 58 ∷ (compact_text d ++ members_text true ms))
      (comma_shown later)
      (shown_append (quoted k) (58 ∷ (compact_text d ++ members_text true ms)) (quoted_shown k h.0)
      (and_from _ _ refl
      (shown_append (compact_text d) (members_text true ms) (text_shown d p.0 h.1)
      (members_shown true ms p.1 h.2))))

-- ---- texts of expressions

type_shown : (t : IntType) → AreShown (type_word t)
type_shown ty.Bool = refl
type_shown ty.I8 = refl
type_shown ty.U8 = refl
type_shown ty.I16 = refl
type_shown ty.U16 = refl
type_shown ty.I32 = refl
type_shown ty.U32 = refl
type_shown ty.I64 = refl
type_shown ty.U64 = refl

un_shown : (o : UnOp) → AreShown (un_word o)
un_shown un.Neg = refl
un_shown un.Flip = refl

bin_shown : (o : BinOp) → AreShown (bin_word o)
bin_shown bin.Add = refl
bin_shown bin.Sub = refl
bin_shown bin.Mul = refl
bin_shown bin.Div = refl
bin_shown bin.Rem = refl
bin_shown bin.BitAnd = refl
bin_shown bin.BitOr = refl
bin_shown bin.BitXor = refl
bin_shown bin.Shl = refl
bin_shown bin.Shr = refl

cmp_shown : (o : CmpOp) → AreShown (cmp_word o)
cmp_shown cmp.Eq = refl
cmp_shown cmp.Ne = refl
cmp_shown cmp.Lt = refl
cmp_shown cmp.Le = refl
cmp_shown cmp.Gt = refl
cmp_shown cmp.Ge = refl

abbrev IsShownText : Expr → Type 0
IsShownText e = Fits e → AreShown (expr_text e)

-- the texts of parts, each with a space in front
spread_shown : (ss : List (List ℕ)) → AllByRecursion AreShown ss
    → AreShown (flat_map (λ part. codes " " ++ part) ss)
spread_shown [] h = refl
spread_shown (s ∷ ss) h =
    shown_append (codes " " ++ s) (flat_map (λ part. codes " " ++ part) ss)
    (and_from _ _ refl h.0) (spread_shown ss h.1)

node_shown : (x : Expr-F Expr) (front : List ℕ) (ss : List (List ℕ))
    → text_step (map-Expr Expr (List ℕ) expr_text x)
    ≡ front ++ flat_map (λ part. codes " " ++ part) ss
    → AreShown front → AllByRecursion AreShown ss → AreShown (expr_text (roll-Expr x))
node_shown x front ss is f h =
    subst AreShown (sym (fold-roll-Expr (List ℕ) text_step x ∙ is))
    (shown_append front (flat_map (λ part. codes " " ++ part) ss) f (spread_shown ss h))

-- a word, a space and a type
typed_shown : (w : List ℕ) → AreShown w → (t : IntType)
    → AreShown ((w ++ codes " ") ++ type_word t)
typed_shown w h t =
    shown_append (w ++ codes " ") (type_word t) (shown_append w (codes " ") h refl) (type_shown t)

of_layer : (x : Expr-F Expr) → OfParts IsShownText x → IsShownText (roll-Expr x)
of_layer (Expr-F.Const t n) h fit =
    let x : Expr-F Expr = Expr-F.Const t n in
    let k = every_rolled FitsHere x fit in
    let front : List ℕ = codes "const " ++ type_word t ++ codes " " in
    node_shown x (front ++ signed_decimal n) [] refl
    (shown_append front (signed_decimal n)
    (shown_append (codes "const " ++ type_word t) (codes " ")
    (shown_append (codes "const ") (type_word t) refl (type_shown t)) refl)
    (integer_shown n k.0)) tt
of_layer (Expr-F.Read t base len a) h fit =
    let x : Expr-F Expr = Expr-F.Read t base len a in
    let k = every_rolled FitsHere x fit in
    let first : List ℕ = codes "read " ++ type_word t ++ codes " " in
    let second : List ℕ = (first ++ decimal base) ++ codes " " in
    node_shown x (second ++ decimal len) (expr_text a ∷ []) refl
    (shown_append second (decimal len)
    (shown_append (first ++ decimal base) (codes " ")
    (shown_append first (decimal base)
    (shown_append (codes "read " ++ type_word t) (codes " ")
    (shown_append (codes "read ") (type_word t) refl (type_shown t)) refl)
    (decimal_shown base (omega (arith, (k.0).0)))) refl)
    (decimal_shown len (omega (arith, (k.0).1)))) (h.0 (k.1).0, tt)
of_layer (Expr-F.Un o t a) h fit =
    let x : Expr-F Expr = Expr-F.Un o t a in
    let k = every_rolled FitsHere x fit in
    node_shown x ((un_word o ++ codes " ") ++ type_word t) (expr_text a ∷ []) refl
    (typed_shown (un_word o) (un_shown o) t) (h.0 (k.1).0, tt)
of_layer (Expr-F.Bin o t a b) h fit =
    let x : Expr-F Expr = Expr-F.Bin o t a b in
    let k = every_rolled FitsHere x fit in
    node_shown x ((bin_word o ++ codes " ") ++ type_word t) (expr_text a ∷ expr_text b ∷ []) refl
    (typed_shown (bin_word o) (bin_shown o) t) (h.0 (k.1).0, ((h.1).0 ((k.1).1).0, tt))
of_layer (Expr-F.Cmp o t a b) h fit =
    let x : Expr-F Expr = Expr-F.Cmp o t a b in
    let k = every_rolled FitsHere x fit in
    node_shown x ((cmp_word o ++ codes " ") ++ type_word t) (expr_text a ∷ expr_text b ∷ []) refl
    (typed_shown (cmp_word o) (cmp_shown o) t) (h.0 (k.1).0, ((h.1).0 ((k.1).1).0, tt))
of_layer (Expr-F.Cast t a) h fit =
    let x : Expr-F Expr = Expr-F.Cast t a in
    let k = every_rolled FitsHere x fit in
    node_shown x (codes "cast " ++ type_word t) (expr_text a ∷ []) refl
    (shown_append (codes "cast ") (type_word t) refl (type_shown t)) (h.0 (k.1).0, tt)
of_layer (Expr-F.And a b) h fit =
    let x : Expr-F Expr = Expr-F.And a b in
    let k = every_rolled FitsHere x fit in
    node_shown x (codes "both") (expr_text a ∷ expr_text b ∷ []) refl refl
    (h.0 (k.1).0, ((h.1).0 ((k.1).1).0, tt))
of_layer (Expr-F.Or a b) h fit =
    let x : Expr-F Expr = Expr-F.Or a b in
    let k = every_rolled FitsHere x fit in
    node_shown x (codes "either") (expr_text a ∷ expr_text b ∷ []) refl refl
    (h.0 (k.1).0, ((h.1).0 ((k.1).1).0, tt))
of_layer (Expr-F.Not a) h fit =
    let x : Expr-F Expr = Expr-F.Not a in
    let k = every_rolled FitsHere x fit in
    node_shown x (codes "not") (expr_text a ∷ []) refl refl (h.0 (k.1).0, tt)
of_layer (Expr-F.Cond t a b d) h fit =
    let x : Expr-F Expr = Expr-F.Cond t a b d in
    let k = every_rolled FitsHere x fit in
    node_shown x (codes "cond " ++ type_word t) (expr_text a ∷ expr_text b ∷ expr_text d ∷ []) refl
    (shown_append (codes "cond ") (type_word t) refl (type_shown t))
    (h.0 (k.1).0, ((h.1).0 ((k.1).1).0, (((h.1).1).0 (((k.1).1).1).0, tt)))

expr_shown : (e : Expr) → Fits e → AreShown (expr_text e)
expr_shown = by_parts IsShownText of_layer

-- ---- reports

module _ {X : Type 0} (data_of : X → Data) (F : X → Type 0)
    (clear : (x : X) → F x → IsClear (data_of x)) where
  list_clear : (xs : List X) → AllByRecursion F xs → IsClear (list_data data_of xs)
  list_clear [] h = tt
  list_clear (x ∷ xs) h = (clear x h.0, list_clear xs h.1)

module _ {X : Type 0} (data_of : X → Data) (clear : (x : X) → IsClear (data_of x)) where
  all_clear : (xs : List X) → IsClear (list_data data_of xs)
  all_clear [] = tt
  all_clear (x ∷ xs) = (clear x, all_clear xs)

integer_clear : (z : ℤ) → IsClear (integer_data z)
integer_clear (pos n) = tt
integer_clear (negsuc n) = tt

numbers_clear : (ns : List ℕ) → IsClear (numbers_data ns)
numbers_clear = all_clear number_data (λ n. tt)

truth_clear : (b : Bool) → IsClear (truth_data b)
truth_clear true = tt
truth_clear false = tt

turn_clear : (turn : Turn) → IsClear (turn_data turn)
turn_clear turn = (
  tt,
  (numbers_clear turn.added, (all_clear pair_data (λ p. (tt, (tt, tt))) turn.replaced, tt)),
)

line_clear : (line : Line) → IsClear (line_data line)
line_clear line = (
  all_clear literal_data (λ l. integer_clear _) line.clause,
  (
    numbers_clear
        (line.first ∷ flat_map (λ step. step.pivot ∷ step.clause ∷ []) line.steps),
    tt,
  ),
)

lines_clear : (lines : List Line) → IsClear (list_data line_data lines)
lines_clear = all_clear line_data line_clear

fact_clear : (f : Fact) → FactFits Fits f → IsClear (fact_data f)
fact_clear (At point) h = (refl, (tt, tt))
fact_clear (Stack sites) h = (refl, (numbers_clear sites, tt))
fact_clear (Equals cell value) h = (refl, (tt, (integer_clear value, tt)))
fact_clear (Within cell lo hi) h =
    (refl, (tt, (integer_clear lo, (integer_clear hi, tt))))
fact_clear (Truth expr holds) h = (refl, (expr_shown expr h, (truth_clear holds, tt)))

elem_clear : (e : Elem) → ElemFits Fits e → IsClear (elem_data e)
elem_clear e = list_clear fact_data (FactFits Fits) fact_clear e.facts

listed_clear : (entry : Listed) → ListedFits Fits entry → IsClear (listed_data entry)
listed_clear entry h = (
  refl,
  list_clear elem_data (ElemFits Fits) elem_clear entry.elems h.0,
  (refl, tt, tt),
)

precision_clear : (p : Precision) → PrecisionFits Fits p → IsClear (precision_data p)
precision_clear p h = (
  refl,
  tt,
  (
    refl,
    list_clear expr_data Fits expr_shown p.preds h.1,
    (refl, numbers_clear p.tracked, tt),
  ),
)

precisions_clear : (ps : List Precision) → AllByRecursion (PrecisionFits Fits) ps
    → IsClear (list_data precision_data ps)
precisions_clear = list_clear precision_data (PrecisionFits Fits) precision_clear

refined_clear : (refined : Refined) → RefinedFits Fits refined → IsClear (refined_data refined)
refined_clear refined h = (
  refl,
  numbers_clear refined.path.edges,
  (refl, precisions_clear refined.precisions h.1, tt),
)

entries_clear : (entries : List Listed) → AllByRecursion (ListedFits Fits) entries
    → IsClear (list_data listed_data entries)
entries_clear = list_clear listed_data (ListedFits Fits) listed_clear

-- what tells the data model
model_clear : (m : DataModel) (ms : Members) → HoldClear ms → HoldClear (chain (model_members m) ms)
model_clear Lp64 ms h = h
model_clear Ilp32 ms h = (refl, refl, h)

members_clear : (t p c e : ℕ) (m : DataModel) (b : Body) → BodyFits Fits b
    → HoldClear (ordered (told t p c e m b))
members_clear t p c e m (body.True entries) h = (
  refl,
  tt,
  (
    refl,
    tt,
    (refl, entries_clear entries h.0, (refl, tt, model_clear m _ (refl, tt, (refl, tt, tt)))),
  ),
)
members_clear t p c e m (body.False inputs steps) h = (
  refl,
  tt,
  (
    refl,
    tt,
    (
      refl,
      tt,
      (
        refl,
        all_clear integer_data integer_clear inputs,
        model_clear m _ (refl, tt, (refl, tt, (refl, tt, tt))),
      ),
    ),
  ),
)
members_clear t p c e m (body.Turns journal) h = (
  refl,
  tt,
  (
    refl,
    tt,
    (
      refl,
      tt,
      (
        refl,
        all_clear turn_data turn_clear journal,
        model_clear m _ (refl, tt, (refl, tt, tt)),
      ),
    ),
  ),
)
members_clear t p c e m (body.Rounds path history) h = (
  refl,
  tt,
  (
    refl,
    tt,
    (
      refl,
      tt,
      (
        refl,
        list_clear refined_data (RefinedFits Fits) refined_clear history h.1,
        model_clear m _ (refl, numbers_clear path.edges, (refl, tt, (refl, tt, tt))),
      ),
    ),
  ),
)
members_clear t p c e m (body.Learnt path lines) h = (
  refl,
  tt,
  (
    refl,
    tt,
    (
      refl,
      tt,
      (
        refl,
        lines_clear lines,
        model_clear m _ (refl, numbers_clear path.edges, (refl, tt, (refl, tt, tt))),
      ),
    ),
  ),
)
members_clear t p c e m (body.Gates path weight) h = (
  refl,
  tt,
  (
    refl,
    tt,
    (
      refl,
      tt,
      model_clear m _
          (refl, numbers_clear path.edges, (refl, tt, (refl, tt, (refl, tt, tt)))),
    ),
  ),
)
members_clear t p c e m (body.NoNew path precisions) h = (
  refl,
  tt,
  (
    refl,
    tt,
    (
      refl,
      tt,
      model_clear m _ (
        refl,
        numbers_clear path.edges,
        (refl, tt, (refl, precisions_clear precisions h.1, (refl, tt, tt))),
      ),
    ),
  ),
)
members_clear t p c e m (body.Proof entries logs) h = (
  refl,
  tt,
  (
    refl,
    tt,
    (
      refl,
      entries_clear entries h.0.0,
      (
        refl,
        tt,
        (
          refl,
          all_clear (list_data line_data) lines_clear logs,
          model_clear m _ (refl, tt, (refl, tt, tt)),
        ),
      ),
    ),
  ),
)

body_clear : (t p c e : ℕ) (m : DataModel) (b : Body) → BodyFits Fits b
    → IsClear (report_data (told t p c e m b))
body_clear t p c e m b h =
    subst IsClear (sym (in_order t p c e m b)) (members_clear t p c e m b h)

line_shown : (r : Report) → ReportFits r → AreShown (compact_text (report_data r))
line_shown r h =
    text_shown (report_data r)
    (told_plain Fits r.text r.points r.cells r.edges r.model r.body h.0.0 h.0.1 h.0.2 h.0.3 h.1)
    (body_clear r.text r.points r.cells r.edges r.model r.body h.1)

pub line_utf8 : (r : Report) → ReportFits r → IsUtf8 (compact_text (report_data r))
line_utf8 r h =
    let line : List ℕ = compact_text (report_data r) in
    IsUtf8-are_ascii line (ascii_shown line (line_shown r h))

pub line_is_one : (r : Report) → ReportFits r
    → list_any (λ b. b == 10) (compact_text (report_data r)) ≡ false
line_is_one r h = no_feed (compact_text (report_data r)) (line_shown r h)
