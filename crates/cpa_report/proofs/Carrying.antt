-- Where the texts of expressions in the tokens of a report are put in place of others, what comes
-- of it are the tokens of a report, with the same counts and the same data model.
use Rattle.std.proofs.Common.{◌≡◌, ℕ, ℤ, pos, negsuc, Bool, true, false, List, [], ◌∷◌, map}
use Rattle.std.proofs.Common.{refl, sym, ap, ap₂, ◌∙◌, subst}
use Rattle.std.specs.Prelude.{codes, ◌==◌}
use Rattle.std.specs.List.{AllByRecursion, flat_map, list_any}
use Rattle.json.specs.Token.{Token}
use Rattle.json.specs.Token as token
use Rattle.serde_json.specs.Data.{Data, null, boolean, number, string, array, object}
use Rattle.serde_json.specs.Data.{Items, no_items, item, Members, no_members, member}
use Rattle.serde_json.specs.View.{items_of}
use Rattle.cpa_cnf.specs.declared.formula.Line.{Line}
use Rattle.cpa_expr.specs.Spelling.{expr_text}
use Rattle.cpa_expr.specs.declared.tree.Expr.{Expr}
use Rattle.cpa_iface.specs.declared.entries.Turn.{Turn}
use Rattle.cpa_ints.specs.declared.data_model.DataModel.{DataModel}
use Rattle.cpa_ints.specs.declared.data_model.DataModel.TheVariants.{Lp64, Ilp32}
use Rattle.cpa_model.specs.Ascending.{AreAscending}
use Rattle.cpa_model.specs.declared.automaton.Path.{Path}
use Rattle.cpa_facts.specs.declared.fact.Fact.{Fact}
use Rattle.cpa_facts.specs.declared.fact.Fact.TheVariants.{At, Stack, Equals, Within, Truth}
use Rattle.cpa_report.specs.Heights.{Along}
use Rattle.cpa_report_json.specs.Fits.{FactFits, ElemFits, ListedFits, PrecisionFits, RefinedFits}
use Rattle.cpa_report_json.specs.Fits.{BodyFits}
use Rattle.cpa_report_print.specs.Reports.{number_data, integer_data, list_data, numbers_data}
use Rattle.cpa_report_print.specs.Reports.{expr_data, truth_data, fact_data, elem_data}
use Rattle.cpa_report_print.specs.Reports.{listed_data, pair_data, turn_data, path_data}
use Rattle.cpa_report_print.specs.Reports.{precision_data, refined_data, literal_data, line_data}
use Rattle.cpa_report_print.specs.Reports.{form_of, model_members, report_data, verdict_of}
use Rattle.cpa_report_print.specs.Steps.{front, spelled, told}
use Rattle.cpa_report_print.specs.Tokens.{onto, items_onto, members_onto}
use Rattle.cpa_report_print.specs.declared.report.Body.{Body}
use Rattle.cpa_report_print.specs.declared.report.Body.TheVariants as body
use Rattle.cpa_report_print.specs.declared.report.Listed.{Listed}
use Rattle.cpa_report_print.specs.lemmas.Ordered.{in_tokens}

-- ---- values without texts

abbrev mutual
  IsTextless : Data → Type 0
  IsTextless null = Unit {0}
  IsTextless (boolean b) = Unit {0}
  IsTextless (number n) = Unit {0}
  IsTextless (string s) = ⊥
  IsTextless (array ds) = AreTextless ds
  IsTextless (object ms) = HoldTextless ms

  AreTextless : Items → Type 0
  AreTextless no_items = Unit {0}
  AreTextless (item d ds) = IsTextless d × AreTextless ds

  HoldTextless : Members → Type 0
  HoldTextless no_members = Unit {0}
  HoldTextless (member k d ms) = IsTextless d × HoldTextless ms

module _ {X : Type 0} (data_of : X → Data) (textless : (x : X) → IsTextless (data_of x)) where
  list_textless : (xs : List X) → IsTextless (list_data data_of xs)
  list_textless [] = tt
  list_textless (x ∷ xs) = (textless x, list_textless xs)

number_textless : (n : ℕ) → IsTextless (number_data n)
number_textless n = tt

integer_textless : (z : ℤ) → IsTextless (integer_data z)
integer_textless (pos n) = tt
integer_textless (negsuc n) = tt

truth_textless : (b : Bool) → IsTextless (truth_data b)
truth_textless true = tt
truth_textless false = tt

numbers_textless : (ns : List ℕ) → IsTextless (numbers_data ns)
numbers_textless = list_textless number_data number_textless

integers_textless : (zs : List ℤ) → IsTextless (list_data integer_data zs)
integers_textless = list_textless integer_data integer_textless

pair_textless : (p : ℕ × ℕ) → IsTextless (pair_data p)
pair_textless p = (tt, (tt, tt))

turn_textless : (turn : Turn) → IsTextless (turn_data turn)
turn_textless turn = (
  tt,
  (numbers_textless turn.added, (list_textless pair_data pair_textless turn.replaced, tt)),
)

literal_textless : (l : ℕ) → IsTextless (literal_data l)
literal_textless l = integer_textless _

line_textless : (line : Line) → IsTextless (line_data line)
line_textless line = (
  list_textless literal_data literal_textless line.clause,
  (
    numbers_textless
        (line.first ∷ flat_map (λ step. step.pivot ∷ step.clause ∷ []) line.steps),
    tt,
  ),
)

lines_textless : (lines : List Line) → IsTextless (list_data line_data lines)
lines_textless = list_textless line_data line_textless

-- ---- tokens that stay

abbrev pub is_text : Token → Bool
is_text (token.string s) = true
is_text _ = false

module _ (P : Token → Token → Type 0) where
  -- what comes of tokens in front of others: the same in front of those that come of the others
  record Kept (front : List Token → List Token) (rest us : List Token) : Type 0 where
    left : List Token
    tokens : us ≡ front left
    along : Along P rest left

  abbrev Keeps : (List Token → List Token) → Type 0
  Keeps front = (rest us : List Token) → Along P (front rest) us → Kept front rest us

  keep_none : Keeps (λ ts. ts)
  keep_none rest us along = record { left = us; tokens = refl; along = along }

  keep_token : (t : Token) → ((u : Token) → P t u → u ≡ t) → Keeps (λ ts. t ∷ ts)
  keep_token t same rest [] along = absurd along
  keep_token t same rest (u ∷ us) along =
      record { left = us; tokens = ap (λ v. v ∷ us) (same u along.0); along = along.1 }

  keep_both : {f g : List Token → List Token} → Keeps f → Keeps g → Keeps (λ ts. f (g ts))
  keep_both {f} {g} first second rest us along =
      let a = first (g rest) us along in
      let b = second rest a.left a.along in
      record { left = b.left; tokens = a.tokens ∙ ap f b.tokens; along = b.along }

  module _ (stays : (t u : Token) → is_text t ≡ false → P t u → u ≡ t) where
    keep : (t : Token) → is_text t ≡ false → Keeps (λ ts. t ∷ ts)
    keep t none = keep_token t (λ u. stays t u none)

    mutual
      keep_data : (d : Data) → IsTextless d → Keeps (onto d)
      keep_data null h = keep token.null refl
      keep_data (boolean b) h = keep (token.boolean b) refl
      keep_data (number n) h = keep (token.number _) refl
      keep_data (string s) h = absurd h
      keep_data (array ds) h = keep_both (keep token.begin_array refl) (keep_items ds h)
      keep_data (object ms) h = keep_both (keep token.begin_object refl) (keep_members ms h)

      keep_items : (ds : Items) → AreTextless ds → Keeps (items_onto ds)
      keep_items no_items h = keep token.end_array refl
      keep_items (item d ds) h = keep_both (keep_data d h.0) (keep_items ds h.1)

      keep_members : (ms : Members) → HoldTextless ms → Keeps (members_onto ms)
      keep_members no_members h = keep token.end_object refl
      keep_members (member k d ms) h =
          keep_both (keep (token.key k) refl) (keep_both (keep_data d h.0) (keep_members ms h.1))

    -- ---- values with texts of expressions

    -- what comes of the tokens of a value: those of another, of the same key
    pub record Carried {X K : Type 0} (data_of : X → Data) (G : X → Type 0) (key : X → K) (x : X)
        (rest us : List Token) : Type 0 where
      pub value : X
      pub fit : G value
      pub same : key value ≡ key x
      pub left : List Token
      pub tokens : us ≡ onto (data_of value) left
      pub along : Along P rest left

    abbrev pub Carries : {X K : Type 0} → (X → Data) → (X → Type 0) → (X → Type 0) → (X → K)
        → Type 0
    Carries {X} data_of F G key =
        (x : X) → F x → (rest us : List Token) → Along P (onto (data_of x) rest) us
        → Carried data_of G key x rest us

    record CarriedItems {X K : Type 0} (data_of : X → Data) (G : X → Type 0) (key : X → K)
        (xs : List X) (rest us : List Token) : Type 0 where
      values : List X
      fit : AllByRecursion G values
      same : map key values ≡ map key xs
      left : List Token
      tokens : us ≡ items_onto (items_of (map data_of values)) left
      along : Along P rest left

    -- the value stands between tokens that stay
    record Between {X K : Type 0} (data_of : X → Data) (G : X → Type 0) (key : X → K)
        (front back : List Token → List Token) (x : X) (rest us : List Token) : Type 0 where
      value : X
      fit : G value
      same : key value ≡ key x
      left : List Token
      tokens : us ≡ front (onto (data_of value) (back left))
      along : Along P rest left

    module _ {X K : Type 0} (data_of : X → Data) (F G : X → Type 0) (key : X → K)
        (carry : Carries data_of F G key) where
      carry_items : (xs : List X) → AllByRecursion F xs → (rest us : List Token)
          → Along P (items_onto (items_of (map data_of xs)) rest) us
          → CarriedItems data_of G key xs rest us
      carry_items [] h rest us along =
          let end = keep token.end_array refl rest us along in
          record {
            values = [];
            fit = tt;
            same = refl;
            left = end.left;
            tokens = end.tokens;
            along = end.along;
          }
      carry_items (x ∷ xs) h rest us along =
          let one = carry x h.0 (items_onto (items_of (map data_of xs)) rest) us along in
          let more = carry_items xs h.1 rest one.left one.along in
          record {
            values = one.value ∷ more.values;
            fit = (one.fit, more.fit);
            same = ap₂ (λ k ks. k ∷ ks) one.same more.same;
            left = more.left;
            tokens = one.tokens ∙ ap (onto (data_of one.value)) more.tokens;
            along = more.along;
          }

      carry_list : Carries (list_data data_of) (AllByRecursion F) (AllByRecursion G) (map key)
      carry_list xs h rest us along =
          let begun = keep token.begin_array refl _ us along in
          let l = carry_items xs h rest begun.left begun.along in
          record {
            value = l.values;
            fit = l.fit;
            same = l.same;
            left = l.left;
            tokens = begun.tokens ∙ ap (λ ts. token.begin_array ∷ ts) l.tokens;
            along = l.along;
          }

      between : {front back : List Token → List Token} → Keeps front → Keeps back → (x : X)
          → F x → (rest us : List Token) → Along P (front (onto (data_of x) (back rest))) us
          → Between data_of G key front back x rest us
      between {front} {back} before behind x h rest us along =
          let a = before _ us along in
          let one = carry x h (back rest) a.left a.along in
          let b = behind rest one.left one.along in
          record {
            value = one.value;
            fit = one.fit;
            same = one.same;
            left = b.left;
            tokens = a.tokens
                ∙ ap front (one.tokens ∙ ap (onto (data_of one.value)) b.tokens);
            along = b.along;
          }

    module _ (E G : Expr → Type 0)
        (names : (s : List ℕ) → list_any (λ b. b == 32) s ≡ false → (u : Token)
        → P (token.string s) u → u ≡ token.string s)
        (texts : (e : Expr) → E e → (u : Token) → P (token.string (expr_text e)) u
        → (f : Expr) × G f × (u ≡ token.string (expr_text f))) where
      abbrev none : {X : Type 0} → X → ℕ
      none x = 0

      carry_expr : Carries expr_data E G none
      carry_expr e h rest [] along = absurd along
      carry_expr e h rest (u ∷ us) along =
          let t = texts e h u along.0 in
          record {
            value = t.0;
            fit = t.1;
            same = refl;
            left = us;
            tokens = ap (λ v. v ∷ us) t.2;
            along = along.1;
          }

      -- the name of a fact, behind the bracket
      name : (s : List ℕ) → list_any (λ b. b == 32) s ≡ false
          → Keeps (λ ts. token.begin_array ∷ token.string s ∷ ts)
      name s is = keep_both (keep token.begin_array refl) (keep_token (token.string s) (names s is))

      -- a fact without an expression
      stays_fact : (f : Fact) → FactFits G f → Keeps (onto (fact_data f)) → (rest us : List Token)
          → Along P (onto (fact_data f) rest) us → Carried fact_data (FactFits G) none f rest us
      stays_fact f h keeps rest us along =
          let k = keeps rest us along in
          record {
            value = f;
            fit = h;
            same = refl;
            left = k.left;
            tokens = k.tokens;
            along = k.along;
          }

      closing : Keeps (λ ts. token.end_array ∷ ts)
      closing = keep token.end_array refl

      carry_fact : Carries fact_data (FactFits E) (FactFits G) none
      carry_fact (At point) h rest us along =
          stays_fact (At point) h
          (keep_both (name (codes "at") refl)
          (keep_both (keep_data (number_data point) tt) closing))
          rest us along
      carry_fact (Stack sites) h rest us along =
          stays_fact (Stack sites) h
          (keep_both (name (codes "stack") refl)
          (keep_both (keep_data (numbers_data sites) (numbers_textless sites)) closing))
          rest us along
      carry_fact (Equals cell value) h rest us along =
          stays_fact (Equals cell value) h
          (keep_both (name (codes "equals") refl)
          (keep_both (keep_data (number_data cell) tt)
          (keep_both (keep_data (integer_data value) (integer_textless value)) closing)))
          rest us along
      carry_fact (Within cell lo hi) h rest us along =
          stays_fact (Within cell lo hi) h
          (keep_both (name (codes "within") refl)
          (keep_both (keep_data (number_data cell) tt)
          (keep_both (keep_data (integer_data lo) (integer_textless lo))
          (keep_both (keep_data (integer_data hi) (integer_textless hi)) closing))))
          rest us along
      carry_fact (Truth expr holds) h rest us along =
          let b =
          between expr_data E G none carry_expr (name (codes "truth") refl)
          (keep_both (keep_data (truth_data holds) (truth_textless holds)) closing)
          expr h rest us along in
          record {
            value = Truth b.value holds;
            fit = b.fit;
            same = refl;
            left = b.left;
            tokens = b.tokens;
            along = b.along;
          }

      carry_elem : Carries elem_data (ElemFits E) (ElemFits G) none
      carry_elem e h rest us along =
          let l =
          carry_list fact_data (FactFits E) (FactFits G) none carry_fact e.facts h rest us along in
          record {
            value = record { facts = l.value };
            fit = l.fit;
            same = refl;
            left = l.left;
            tokens = l.tokens;
            along = l.along;
          }

      abbrev number_of : Listed → ℕ
      number_of entry = entry.number

      carry_listed : Carries listed_data (ListedFits E) (ListedFits G) number_of
      carry_listed entry h rest us along =
          let b =
          between (list_data elem_data) (AllByRecursion (ElemFits E)) (AllByRecursion (ElemFits G))
          (map none) (carry_list elem_data (ElemFits E) (ElemFits G) none carry_elem)
          (keep_both (keep token.begin_object refl) (keep (token.key (codes "elems")) refl))
          (keep_both (keep (token.key (codes "number")) refl)
          (keep_both (keep_data (number_data entry.number) tt) (keep token.end_object refl)))
          entry.elems h.0 rest us along in
          record {
            value = record { number = entry.number; elems = b.value };
            fit = (b.fit, h.1);
            same = refl;
            left = b.left;
            tokens = b.tokens;
            along = b.along;
          }

      carry_precision : Carries precision_data (PrecisionFits E) (PrecisionFits G) none
      carry_precision p h rest us along =
          let b =
          between (list_data expr_data) (AllByRecursion E) (AllByRecursion G) (map none)
          (carry_list expr_data E G none carry_expr)
          (keep_both (keep token.begin_object refl)
          (keep_both (keep (token.key (codes "limit")) refl)
          (keep_both (keep_data (number_data p.limit) tt)
          (keep (token.key (codes "preds")) refl))))
          (keep_both (keep (token.key (codes "tracked")) refl)
          (keep_both (keep_data (numbers_data p.tracked) (numbers_textless p.tracked))
          (keep token.end_object refl)))
          p.preds h.1 rest us along in
          record {
            value = record { tracked = p.tracked; limit = p.limit; preds = b.value };
            fit = (h.0, b.fit, h.2);
            same = refl;
            left = b.left;
            tokens = b.tokens;
            along = b.along;
          }

      carry_precisions : Carries (list_data precision_data) (AllByRecursion (PrecisionFits E))
          (AllByRecursion (PrecisionFits G)) (map none)
      carry_precisions =
          carry_list precision_data (PrecisionFits E) (PrecisionFits G) none carry_precision

      carry_refined : Carries refined_data (RefinedFits E) (RefinedFits G) none
      carry_refined refined h rest us along =
          let b =
          between (list_data precision_data) (AllByRecursion (PrecisionFits E))
          (AllByRecursion (PrecisionFits G)) (map none) carry_precisions
          (keep_both (keep token.begin_object refl)
          (keep_both (keep (token.key (codes "path")) refl)
          (keep_both
          (keep_data (path_data refined.path) (numbers_textless refined.path.edges))
          (keep (token.key (codes "precisions")) refl))))
          (keep token.end_object refl)
          refined.precisions h.1 rest us along in
          record {
            value = record { path = refined.path; precisions = b.value };
            fit = (h.0, b.fit);
            same = refl;
            left = b.left;
            tokens = b.tokens;
            along = b.along;
          }

      -- ---- reports

      carry_entries : Carries (list_data listed_data) (AllByRecursion (ListedFits E))
          (AllByRecursion (ListedFits G)) (map number_of)
      carry_entries = carry_list listed_data (ListedFits E) (ListedFits G) number_of carry_listed

      carry_history : Carries (list_data refined_data) (AllByRecursion (RefinedFits E))
          (AllByRecursion (RefinedFits G)) (map none)
      carry_history = carry_list refined_data (RefinedFits E) (RefinedFits G) none carry_refined

      -- a key and its number
      counted : (k : List ℕ) (n : ℕ) → Keeps (λ ts. token.key k ∷ onto (number_data n) ts)
      counted k n = keep_both (keep (token.key k) refl) (keep_data (number_data n) tt)

      head : (c e : ℕ)
          → Keeps (λ ts. token.begin_object ∷ token.key (codes "cells") ∷ onto (number_data c)
          (token.key (codes "edges") ∷ onto (number_data e) ts))
      head c e =
          keep_both (keep token.begin_object refl)
          (keep_both (counted (codes "cells") c) (counted (codes "edges") e))

      tail : (p t : ℕ)
          → Keeps (λ ts. token.key (codes "points") ∷ onto (number_data p)
          (token.key (codes "text") ∷ onto (number_data t) (token.end_object ∷ ts)))
      tail p t =
          keep_both (counted (codes "points") p)
          (keep_both (counted (codes "text") t) (keep token.end_object refl))

      -- what tells the data model
      model_kept : (m : DataModel) → Keeps (front (model_members m))
      model_kept Lp64 = keep_none
      model_kept Ilp32 =
          keep_both (keep (token.key (codes "model")) refl)
          (keep_token (token.string (codes "ilp32")) (names (codes "ilp32") refl))

      -- a key and a path
      path_kept : (path : Path) → Keeps (λ ts. token.key (codes "path") ∷ onto (path_data path) ts)
      path_kept path =
          keep_both (keep (token.key (codes "path")) refl)
          (keep_data (path_data path) (numbers_textless path.edges))

      pub record CarriedBody (t p c e : ℕ) (m : DataModel) (b : Body) (us : List Token) : Type 0
        where
          pub value : Body
          pub fit : BodyFits G value
          pub kind : verdict_of value ≡ verdict_of b
          pub tokens : us ≡ onto (report_data (told t p c e m value)) []

      ended : (left : List Token) → Along P [] left → left ≡ []
      ended [] h = refl
      ended (u ∷ us) h = absurd h

      -- a body whose tokens come of those of the members, in order
      carried : (t p c e : ℕ) (m : DataModel) (b value : Body) (us left : List Token)
          → BodyFits G value → verdict_of value ≡ verdict_of b
          → us ≡ spelled (told t p c e m value) left → Along P [] left
          → CarriedBody t p c e m b us
      carried t p c e m b value us left fit kind tokens along = record {
        value = value;
        fit = fit;
        kind = kind;
        tokens = tokens
            ∙ ap (spelled (told t p c e m value)) (ended left along)
            ∙ sym (in_tokens (told t p c e m value) []);
      }

      stays_body : (t p c e : ℕ) (m : DataModel) (b : Body) → BodyFits G b
          → Keeps (spelled (told t p c e m b)) → (us : List Token)
          → Along P (spelled (told t p c e m b) []) us
          → CarriedBody t p c e m b us
      stays_body t p c e m b h keeps us along =
          let k = keeps [] us along in
          carried t p c e m b b us k.left h refl k.tokens k.along

      -- the tokens of the members, in order
      carry_ordered : (t p c e : ℕ) (m : DataModel) (b : Body) → BodyFits E b
          → (us : List Token) → Along P (spelled (told t p c e m b) []) us
          → CarriedBody t p c e m b us
      carry_ordered t p c e m (body.True entries) h us along =
          let b =
          between (list_data listed_data) (AllByRecursion (ListedFits E))
          (AllByRecursion (ListedFits G)) (map number_of) carry_entries
          (keep_both (head c e) (keep (token.key (codes "entries")) refl))
          (keep_both (counted (codes "form") (form_of m)) (keep_both (model_kept m) (tail p t)))
          entries h.0 [] us along in
          carried t p c e m (body.True entries) (body.True b.value) us b.left
          (b.fit, subst AreAscending (sym b.same) h.1) refl b.tokens b.along
      carry_ordered t p c e m (body.False inputs steps) h us along =
          stays_body t p c e m (body.False inputs steps) h
          (keep_both (head c e)
          (keep_both (counted (codes "form") (form_of m))
          (keep_both (keep (token.key (codes "inputs")) refl)
          (keep_both (keep_data (list_data integer_data inputs) (integers_textless inputs))
          (keep_both (model_kept m)
          (keep_both (counted (codes "points") p)
          (keep_both (counted (codes "steps") steps)
          (keep_both (counted (codes "text") t) (keep token.end_object refl)))))))))
          us along
      carry_ordered t p c e m (body.Turns journal) h us along =
          stays_body t p c e m (body.Turns journal) h
          (keep_both (head c e)
          (keep_both (counted (codes "form") (form_of m))
          (keep_both (keep (token.key (codes "journal")) refl)
          (keep_both
          (keep_data (list_data turn_data journal)
          (list_textless turn_data turn_textless journal))
          (keep_both (model_kept m) (tail p t))))))
          us along
      carry_ordered t p c e m (body.Rounds path history) h us along =
          let b =
          between (list_data refined_data) (AllByRecursion (RefinedFits E))
          (AllByRecursion (RefinedFits G)) (map none) carry_history
          (keep_both (head c e)
          (keep_both (counted (codes "form") (form_of m))
          (keep (token.key (codes "history")) refl)))
          (keep_both (model_kept m) (keep_both (path_kept path) (tail p t)))
          history h.1 [] us along in
          carried t p c e m (body.Rounds path history) (body.Rounds path b.value) us b.left
          (h.0, b.fit) refl b.tokens b.along
      carry_ordered t p c e m (body.Learnt path lines) h us along =
          stays_body t p c e m (body.Learnt path lines) h
          (keep_both (head c e)
          (keep_both (counted (codes "form") (form_of m))
          (keep_both (keep (token.key (codes "lines")) refl)
          (keep_both (keep_data (list_data line_data lines) (lines_textless lines))
          (keep_both (model_kept m) (keep_both (path_kept path) (tail p t)))))))
          us along
      carry_ordered t p c e m (body.Gates path weight) h us along =
          stays_body t p c e m (body.Gates path weight) h
          (keep_both (head c e)
          (keep_both (counted (codes "form") (form_of m))
          (keep_both (model_kept m)
          (keep_both (path_kept path)
          (keep_both (counted (codes "points") p)
          (keep_both (counted (codes "text") t)
          (keep_both (counted (codes "weight") weight) (keep token.end_object refl))))))))
          us along
      carry_ordered t p c e m (body.NoNew path precisions) h us along =
          let b =
          between (list_data precision_data) (AllByRecursion (PrecisionFits E))
          (AllByRecursion (PrecisionFits G)) (map none) carry_precisions
          (keep_both (head c e)
          (keep_both (counted (codes "form") (form_of m))
          (keep_both (model_kept m)
          (keep_both (path_kept path)
          (keep_both (counted (codes "points") p)
          (keep (token.key (codes "precisions")) refl))))))
          (keep_both (counted (codes "text") t) (keep token.end_object refl))
          precisions h.1 [] us along in
          carried t p c e m (body.NoNew path precisions) (body.NoNew path b.value) us b.left
          (h.0, b.fit) refl b.tokens b.along
      carry_ordered t p c e m (body.Proof entries logs) h us along =
          let b =
          between (list_data listed_data) (AllByRecursion (ListedFits E))
          (AllByRecursion (ListedFits G)) (map number_of) carry_entries
          (keep_both (head c e) (keep (token.key (codes "entries")) refl))
          (keep_both (counted (codes "form") (form_of m))
          (keep_both (keep (token.key (codes "logs")) refl)
          (keep_both
          (keep_data (list_data (list_data line_data) logs)
          (list_textless (list_data line_data) lines_textless logs))
          (keep_both (model_kept m) (tail p t))))) entries h.0.0 [] us along in
          carried t p c e m (body.Proof entries logs) (body.Proof b.value logs) us b.left
          ((b.fit, subst AreAscending (sym b.same) h.0.1), h.1) refl b.tokens b.along

      pub carry_body : (t p c e : ℕ) (m : DataModel) (b : Body) → BodyFits E b
          → (us : List Token) → Along P (onto (report_data (told t p c e m b)) []) us
          → CarriedBody t p c e m b us
      carry_body t p c e m b h us along =
          carry_ordered t p c e m b h us
          (subst (λ (ts : List Token). Along P ts us) (in_tokens (told t p c e m b) []) along)
