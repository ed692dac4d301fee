-- Every expression in which no rule is broken has a well typed core (`expression_reads`).
use Rattle.std.proofs.Common.{◌≡◌, ℕ, ℤ, Bool, true, false, ◌&&◌, List, [], ◌∷◌}
use Rattle.std.proofs.Common.{◌++◌, map, Option, None, Some, refl, ap, sym, ◌∙◌, subst, inl}
use Rattle.std.specs.Prelude.{option_map, option_and_then, int_le, ◌≤ℤ◌}
use lib.Signed.{le_z_yes}
use lib.Dec.{T}
use Rattle.std.specs.List.{AllByRecursion, flat_map}
use Rattle.cpa_ints.specs.declared.integers.IntType.{IntType}
use Rattle.cpa_ints.specs.declared.integers.IntType.TheVariants as ty
use Rattle.cpa_ints.specs.Integers.{IsInRange, least, greatest}
use Rattle.cpa_ints.specs.Conversions.{common_type}
use Rattle.cpa_expr.specs.declared.tree.Expr.TheVariants.{Const}
use Rattle.c_lexer.specs.declared.fault.Rule.TheVariants as rule
use Rattle.c_grammar_symbols.specs.declared.operators.BinaryOperator.{BinaryOperator}
use Rattle.c_grammar_tree.specs.declared.expression.Expression.{Expression, roll-Expression}
use Rattle.c_grammar_tree.specs.declared.expression.Expression.TheOpen.{Expression-F, Suffix-F}
use Rattle.c_grammar_tree.specs.declared.expression.Expression.TheFolds.{fold-Suffix}
use Rattle.c_grammar_tree.specs.declared.expression.Expression.TheFolds.{ind-Expression}
use Rattle.c_grammar_tree.specs.declared.expression.Expression.TheFolds.{map-Expression, map-Suffix}
use Rattle.c_grammar_tree.specs.declared.expression.Expression.TheFolds.{fold-roll-Expression}
use Rattle.c_grammar_tree.specs.declared.expression.Expression.TheFolds.{fold-roll-Suffix}
use Rattle.c_grammar_tree.specs.declared.expression.Suffix.{Suffix, roll-Suffix}
use Rattle.c_types_rules.specs.declared.meaning.Kind.{Kind}
use Rattle.c_types_rules.specs.declared.meaning.Kind.TheVariants.{Void, Value}
use Rattle.c_types_rules.specs.declared.meaning.Entry.{Entry}
use Rattle.c_types_rules.specs.declared.meaning.Form.TheVariants.{Bare, Plain}
use Rattle.c_types_rules.specs.declared.meaning.Part.{Part}
use Rattle.c_types_rules.specs.declared.meaning.Role.TheVariants.{Valued, Evaluated, Changed}
use Rattle.c_types_rules.specs.declared.typed.TypedExpression.{TypedExpression}
use Rattle.c_types_rules.specs.declared.typed.TypedExpression.TheVariants as tree
use Rattle.c_types_rules.specs.declared.typed.TypedExpression.TheOpen.{TypedExpression-F}
use Rattle.c_types_rules.specs.Types.{kind_of_type_name, value_kind, binary_type}
use Rattle.c_types_rules.specs.Names.{Text, meaning_of}
use Rattle.c_types_rules.specs.Parts.{named_kind, value, with_value, changed_kind, unary_type}
use Rattle.c_types_rules.specs.Parts.{cast_kind}
use Rattle.c_types_rules.specs.Parts.{chain_type}
use Rattle.c_types_rules.specs.Parts.{joined_type, ends_kind, comma_kind, last_kind}
use Rattle.c_types_rules.specs.Expressions.{taken, paired, Reading, used, parts_of, trees_of}
use Rattle.c_types_rules.specs.Expressions.{ReadSuffix, read_suffix, suffixed, cast_role, links_of}
use Rattle.c_types_rules.specs.Expressions.{reading_step, reading, tag_uses}
use Rattle.c_types_rules.specs.ExpressionRules.{broken, void_end, void_end_of}
use Rattle.c_core_rules.specs.declared.tree.Usage.TheVariants.{Used, Unused}
use Rattle.c_core_rules.specs.declared.tree.Valued.{Valued as CoreValued}
use Rattle.c_core_rules.specs.Trees.{pure}
use Rattle.c_core_rules.specs.Cells as core
use Rattle.c_core_rules.specs.Acts as acts
use Rattle.c_core_rules.specs.Expressions as rows
use Rattle.c_core_rules.specs.Expressions.{usage_of_ends}
use Rattle.c_core_laws.specs.lemmas.Faults.{NoFaults}
use Rattle.c_core_sound.specs.Whole.{some_item, has_value, all_whole, whole_expression}
use Rattle.c_core_sound.specs.Whole.{whole_suffix, is_whole}
use Rattle.c_core_sound.proofs.TypedValues.{const_typed}
use Rattle.c_core_sound.proofs.Fitting.{World, fits_gives}
use Rattle.c_core_sound.proofs.FittingActs.{Good, good}
use Rattle.c_core_sound.proofs.FittingRows.{GoodRule, only_fits, linking_fits}
use Rattle.c_core_sound.proofs.FittingRows.{behind_fits, conditional_fits, void_fits, kept_rule}
use Rattle.c_core_sound.proofs.FittingRows.{cast_fits, signed_fits, assigning_fits}
use Rattle.c_core_sound.proofs.FittingRows.{incrementing_fits}
use Rattle.c_core_sound.proofs.Opened.{opened}
use Rattle.c_core_sound.proofs.ReadParts.{UsesFit, uses_left, uses_right, MeaningFits, HasKind}
use Rattle.c_core_sound.proofs.ReadParts.{unbroken, is_evaluated}
use Rattle.c_core_sound.proofs.ReadForms.{ReadsAs, plain_reads, act_reads, name_reads}
use Rattle.c_core_sound.proofs.ReadForms.{with_value_is, ArgumentReads, ReadsWhere, used_reads}
use Rattle.c_core_sound.proofs.ReadForms.{SuffixReads, changed_reads, suffixed_reads}

pub and_left : (a b : Bool) → (a && b) ≡ true → a ≡ true
and_left true b h = refl
and_left false b h = absurd (cc)

pub and_right : (a b : Bool) → (a && b) ≡ true → b ≡ true
and_right true b h = h
and_right false b h = absurd (cc)

pub in_order_of : (a b : ℤ) → int_le a b ≡ true → a ≤ℤ b
in_order_of a b h = le_z_yes (subst T (sym h) tt)

has_range : (t : IntType) (n : ℤ) → has_value t n ≡ true → IsInRange t n
has_range t n h = (
  in_order_of (least t) n (and_left (int_le (least t) n) (int_le n (greatest t)) h),
  in_order_of n (greatest t) (and_right (int_le (least t) n) (int_le n (greatest t)) h),
)

module _ (W : World) (frames : rows.Frames) (caller : ℕ) (text : Text) (names : List Entry)
    (known : (name : List ℕ) → MeaningFits W frames (meaning_of text names name)) where
  abbrev pub As : Reading → Type 0
  As r = ReadsAs W frames caller r.part.kind r.part.form (rows.rows frames r.typed)

  abbrev pub Where : Reading → Type 0
  Where r = ReadsWhere W frames caller r

  reading_suffix : Suffix → ReadSuffix
  reading_suffix = fold-Suffix Reading ReadSuffix (reading_step text names) read_suffix

  open_reading : (x : Expression-F Expression Suffix) →
      reading text names (roll-Expression x)
      ≡ reading_step text names (map-Expression Expression Suffix Reading ReadSuffix
      (reading text names) reading_suffix x)
  unfolding reading reading_suffix
  open_reading x = fold-roll-Expression Reading ReadSuffix (reading_step text names) read_suffix x

  open_reading_suffix : (x : Suffix-F Expression Suffix) →
      reading_suffix (roll-Suffix x)
      ≡ read_suffix (map-Suffix Expression Suffix Reading ReadSuffix (reading text names)
      reading_suffix x)
  unfolding reading reading_suffix
  open_reading_suffix x = fold-roll-Suffix Reading ReadSuffix (reading_step text names) read_suffix
      x

  whole_behind : Suffix → Bool
  whole_behind = fold-Suffix Bool Bool whole_expression whole_suffix

  open_whole : (x : Expression-F Expression Suffix) →
      is_whole (roll-Expression x)
      ≡ whole_expression (map-Expression Expression Suffix Bool Bool is_whole whole_behind x)
  unfolding is_whole whole_behind
  open_whole x = fold-roll-Expression Bool Bool whole_expression whole_suffix x

  open_whole_suffix : (x : Suffix-F Expression Suffix) →
      whole_behind (roll-Suffix x)
      ≡ whole_suffix (map-Suffix Expression Suffix Bool Bool is_whole whole_behind x)
  unfolding is_whole whole_behind
  open_whole_suffix x = fold-roll-Suffix Bool Bool whole_expression whole_suffix x

  -- the rows of a typed tree, where they are known
  at_row : (kind : Option Kind) (e : TypedExpression) (row : rows.Rows) →
      rows.rows frames e ≡ row → ReadsAs W frames caller kind Plain row →
      ReadsAs W frames caller kind Plain (rows.rows frames e)
  at_row kind e row is h =
      subst (λ (r : rows.Rows). ReadsAs W frames caller kind Plain r) (sym is) h

  -- an expression whose value is not used
  pub evaluated_reads : (r : Reading) → Where r → UsesFit W caller (used Evaluated r) →
      HasKind r.part.kind × As r
  evaluated_reads r reads uses =
      let h = reads (uses_left W caller r.uses (taken Evaluated r.part ∷ []) uses) in
      let one = (uses_right W caller r.uses (taken Evaluated r.part ∷ []) uses).0 in
      (is_evaluated r.part.place r.part.kind r.part.form h.stands one.none, h)

  -- chains
  abbrev Link : Type 0
  Link = BinaryOperator × Reading

  abbrev link_rows : List Link → List (BinaryOperator × rows.Rows)
  link_rows rest =
      map (λ (link : BinaryOperator × TypedExpression). (link.0, rows.rows frames link.1))
      (map (λ (link : Link). (link.0, link.1.typed)) rest)

  record ChainReads (origin : ℕ) (left : core.Rule CoreValued) (t : IntType) (rest : List Link)
      : Type 0 where
    type : IntType
    is : chain_type (Some t) (links_of rest) ≡ Some type
    good : GoodRule W (rows.chained origin left (link_rows rest))

  joined_is : (t : IntType) (operator : BinaryOperator) (part : Part) (u : IntType) →
      part.kind ≡ Some (Value u) →
      joined_type (Some t) (operator, part) ≡ Some (binary_type operator t u)
  joined_is t operator part u is =
      ap (λ (kind : Option Kind). option_map (λ v. binary_type operator t v) (value_kind kind)) is

  chain_reads : (origin : ℕ) (rest : List Link) →
      AllByRecursion (λ (link : Link). Where link.1) rest →
      UsesFit W caller (flat_map (λ (link : Link). used Valued link.1) rest) →
      (left : core.Rule CoreValued) (t : IntType) → GoodRule W left → ChainReads origin left t rest
  chain_reads origin [] all uses left t h = record { type = t; is = refl; good = h }
  chain_reads origin (link ∷ rest) all uses left t h =
      let own = used Valued link.1 in
      let others = flat_map (λ (one : Link). used Valued one.1) rest in
      let a = used_reads W frames caller link.1 all.0 (uses_left W caller own others uses) in
      let right = rows.used (rows.rows frames link.1.typed) in
      let next = core.then_by left (λ v. core.then_by right
      (λ w. acts.linked origin link.0 v w)) in
      let u = binary_type link.0 t a.type in
      let r = chain_reads origin rest all.1 (uses_right W caller own others uses) next u
      (linking_fits W origin link.0 h a.used) in
      record {
        type = r.type;
        is = ap (λ (o : Option IntType). chain_type o (links_of rest))
            (joined_is t link.0 link.1.part a.type a.is) ∙ r.is;
        good = r.good;
      }

  -- commas
  record ItemReads (r : Reading) : Type 0 where
    kind : Kind
    is : r.part.kind ≡ Some kind
    reads : As r

  all_items : (items : List Reading) → AllByRecursion Where items →
      UsesFit W caller (flat_map (used Evaluated) items) → AllByRecursion ItemReads items
  all_items [] all uses = tt
  all_items (r ∷ items) all uses =
      let own = used Evaluated r in
      let rest = flat_map (used Evaluated) items in
      let e = evaluated_reads r all.0 (uses_left W caller own rest uses) in (
        record { kind = e.0.0; is = e.0.1; reads = e.1 },
        all_items items all.1 (uses_right W caller own rest uses),
      )

  abbrev item_rows : List Reading → List rows.Rows
  item_rows items = map (rows.rows frames) (trees_of items)

  last_is : (before : Option Kind) (k : Kind) → before ≡ Some k → (items : List Reading) →
      AllByRecursion ItemReads items → HasKind (last_kind before (parts_of items))
  last_is before k is [] all = (k, is)
  last_is before k is (r ∷ items) all =
      last_is (option_and_then (λ (kind : Kind). r.part.kind) before) all.0.kind
      (ap (option_and_then (λ (kind : Kind). r.part.kind)) is ∙ all.0.is) items all.1

  -- the kind of a comma expression of more items is that of these
  later_kind : (r next : Reading) (items : List Reading) → ItemReads r →
      comma_kind (parts_of (r ∷ next ∷ items)) ≡ comma_kind (parts_of (next ∷ items))
  later_kind r next items h =
      ap (λ (o : Option Kind). last_kind (option_and_then (λ (kind : Kind). next.part.kind) o)
      (parts_of items)) h.is

  comma_used : (r : Reading) (items : List Reading) → AllByRecursion ItemReads (r ∷ items) →
      (t : IntType) → comma_kind (parts_of (r ∷ items)) ≡ Some (Value t) →
      GoodRule W (rows.comma Used (item_rows (r ∷ items)))
  comma_used r [] all t is = all.0.reads.used t is
  comma_used r (next ∷ items) all t is =
      behind_fits W (only_fits W (all.0.reads.unused all.0.kind all.0.is))
      (comma_used next items all.1 t (sym (later_kind r next items all.0) ∙ is))

  comma_unused : (r : Reading) (items : List Reading) → AllByRecursion ItemReads (r ∷ items) →
      GoodRule W (rows.comma Unused (item_rows (r ∷ items)))
  comma_unused r [] all = all.0.reads.unused all.0.kind all.0.is
  comma_unused r (next ∷ items) all =
      behind_fits W (only_fits W (all.0.reads.unused all.0.kind all.0.is))
      (comma_unused next items all.1)

  comma_reads : (items : List Reading) (place : ℕ) → some_item items ≡ true →
      AllByRecursion ItemReads items →
      ReadsAs W frames caller (comma_kind (parts_of items)) Plain
      (rows.act (λ usage. rows.comma usage (item_rows items)))
  comma_reads [] place some all = absurd (cc)
  comma_reads (r ∷ items) place some all =
      act_reads W frames caller (comma_kind (parts_of (r ∷ items)))
      (last_is r.part.kind all.0.kind all.0.is items all.1)
      (λ t is. comma_used r items all t is)
      (λ k is. comma_unused r items all)

  -- conditionals
  abbrev row_of : Reading → rows.Rows
  row_of r = rows.rows frames r.typed

  abbrev choice_rows : ℕ → Option Kind → Reading → Reading → Reading → rows.Rows
  choice_rows origin kind test first second =
      rows.act (λ usage. rows.conditional origin usage (usage_of_ends usage kind) (row_of test)
      (row_of first) (row_of second))

  mixed_first : (first second : Part) (v : IntType) → first.kind ≡ Some Void →
      second.kind ≡ Some (Value v) → void_end first second ≡ first.place ∷ []
  mixed_first first second v e f =
      ap (λ (o : Option Kind). void_end_of o second.kind first.place second.place) e
      ∙ ap (λ (o : Option Kind). void_end_of (Some Void) o first.place second.place) f

  mixed_second : (first second : Part) (u : IntType) → first.kind ≡ Some (Value u) →
      second.kind ≡ Some Void → void_end first second ≡ second.place ∷ []
  mixed_second first second u e f =
      ap (λ (o : Option Kind). void_end_of o second.kind first.place second.place) e
      ∙ ap (λ (o : Option Kind). void_end_of (Some (Value u)) o first.place second.place) f

  no_end : (places : List ℕ) (place : ℕ) → places ≡ place ∷ [] →
      NoFaults (broken rule.N5 places) → ⊥
  no_end places place is none =
      subst (λ (ps : List ℕ). NoFaults (broken rule.N5 ps)) is none
      (record { rule = rule.N5; place = place }) (inl refl)

  -- both ends are void, or both have values
  ends_read : (origin : ℕ) (test first second : Reading) → ArgumentReads W frames caller test →
      As first →
      As second → (k l : Kind) → first.part.kind ≡ Some k → second.part.kind ≡ Some l →
      NoFaults (broken rule.N5 (void_end first.part second.part)) →
      (kind : Option Kind) → kind ≡ ends_kind (Some k) (Some l) →
      ReadsAs W frames caller kind Plain (choice_rows origin kind test first second)
  unfolding usage_of_ends
  ends_read origin test first second t a b Void Void e f none kind is =
      subst (λ (o : Option Kind). ReadsAs W frames caller o Plain
      (choice_rows origin o test first second))
      (sym is) (act_reads W frames caller (Some Void) (Void, refl) (λ u so. absurd (cc))
      (λ k so. conditional_fits W origin Unused Unused t.used (a.unused Void e) (b.unused Void f)))
  ends_read origin test first second t a b (Value u) (Value v) e f none kind is =
      subst (λ (o : Option Kind). ReadsAs W frames caller o Plain
      (choice_rows origin o test first second))
      (sym is) (act_reads W frames caller (Some (Value (common_type u v)))
      (Value (common_type u v), refl)
      (λ w so. conditional_fits W origin Used Used t.used (a.used u e) (b.used v f))
      (λ k so. conditional_fits W origin Unused Used t.used (a.used u e) (b.used v f)))
  ends_read origin test first second t a b Void (Value v) e f none kind is =
      absurd (no_end (void_end first.part second.part) first.part.place
      (mixed_first first.part second.part v e f) none)
  ends_read origin test first second t a b (Value u) Void e f none kind is =
      absurd (no_end (void_end first.part second.part) second.part.place
      (mixed_second first.part second.part u e f) none)

  -- casts
  cast_reads : (origin : ℕ) (wanted : Kind) (operand : Reading) → Where operand →
      UsesFit W caller (used (cast_role wanted) operand) →
      ReadsAs W frames caller (cast_kind wanted operand.part.kind) Plain
      (rows.cast_rows origin (cast_kind wanted operand.part.kind) (row_of operand))
  cast_reads origin Void operand reads uses =
      let e = evaluated_reads operand reads uses in
      subst (λ (o : Option Kind). ReadsAs W frames caller (cast_kind Void o) Plain
      (rows.cast_rows origin (cast_kind Void o) (row_of operand))) (sym e.0.1)
      (act_reads W frames caller (Some Void) (Void, refl) (λ t so. absurd (cc))
      (λ k so. void_fits W (e.1.unused e.0.0 e.0.1)))
  cast_reads origin (Value t) operand reads uses =
      let a = used_reads W frames caller operand reads uses in
      subst (λ (o : Option Kind). ReadsAs W frames caller (cast_kind (Value t) o) Plain
      (rows.cast_rows origin (cast_kind (Value t) o) (row_of operand))) (sym a.is)
      (plain_reads W frames caller origin (Some (Value t)) (Value t, refl) (cast_fits W t a.used))

  -- each expression, by what its parts are
  abbrev pub IsRead : Expression → Type 0
  IsRead e = is_whole e ≡ true → Where (reading text names e)

  abbrev SuffixIsRead : Suffix → Type 0
  SuffixIsRead s = whole_behind s ≡ true → SuffixReads W frames caller (reading_suffix s)

  abbrev Held : Type 0
  Held = (e : Expression) × IsRead e

  abbrev HeldSuffix : Type 0
  HeldSuffix = (s : Suffix) × SuffixIsRead s

  abbrev bare : Expression-F Held HeldSuffix → Expression-F Expression Suffix
  bare y = map-Expression Held HeldSuffix Expression Suffix (λ e. e.0) (λ s. s.0) y

  abbrev bare_suffix : Suffix-F Held HeldSuffix → Suffix-F Expression Suffix
  bare_suffix y = map-Suffix Held HeldSuffix Expression Suffix (λ e. e.0) (λ s. s.0) y

  abbrev read_layer : Expression-F Held HeldSuffix → Reading
  read_layer y = reading_step text names (map-Expression Expression Suffix Reading ReadSuffix
      (reading text names) reading_suffix (bare y))

  abbrev whole_layer : Expression-F Held HeldSuffix → Bool
  whole_layer y =
      whole_expression (map-Expression Expression Suffix Bool Bool is_whole whole_behind (bare y))

  abbrev read_of : Held → Reading
  read_of e = reading text names e.0

  each_read : (held : List Held) →
      all_whole (map is_whole (map (λ (e : Held). e.0) held)) ≡ true →
      AllByRecursion Where (map (reading text names) (map (λ (e : Held). e.0) held))
  each_read [] whole = tt
  each_read (e ∷ held) whole =
      let rest = all_whole (map is_whole (map (λ (f : Held). f.0) held)) in (
        e.1 (and_left (is_whole e.0) rest whole),
        each_read held
            (and_right (is_whole e.0) rest whole),
      )

  each_suffix : (held : List HeldSuffix) →
      all_whole (map whole_behind (map (λ (s : HeldSuffix). s.0) held)) ≡ true →
      AllByRecursion (SuffixReads W frames caller)
      (map reading_suffix (map (λ (s : HeldSuffix). s.0) held))
  each_suffix [] whole = tt
  each_suffix (s ∷ held) whole =
      let rest = all_whole (map whole_behind (map (λ (f : HeldSuffix). f.0) held)) in (
        s.1 (and_left (whole_behind s.0) rest whole),
        each_suffix held (and_right (whole_behind s.0) rest whole),
      )

  abbrev HeldLink : Type 0
  HeldLink = BinaryOperator × Held

  abbrev bare_links : List HeldLink → List (BinaryOperator × Expression)
  bare_links = map (λ (link : HeldLink). (link.0, link.1.0))

  abbrev read_links : List (BinaryOperator × Expression) → List Link
  read_links =
      map (λ (link : BinaryOperator × Expression). (link.0, reading text names link.1))

  abbrev whole_links : List (BinaryOperator × Expression) → List Bool
  whole_links links =
      map (λ (link : BinaryOperator × Bool). link.1)
      (map (λ (link : BinaryOperator × Expression). (link.0, is_whole link.1)) links)

  each_link : (held : List HeldLink) → all_whole (whole_links (bare_links held)) ≡ true →
      AllByRecursion (λ (link : Link). Where link.1) (read_links (bare_links held))
  each_link [] whole = tt
  each_link (link ∷ held) whole =
      let rest = all_whole (whole_links (bare_links held)) in (
        link.1.1 (and_left (is_whole link.1.0) rest whole),
        each_link held (and_right (is_whole link.1.0) rest whole),
      )

  unary_is : (f : IntType → IntType) (kind : Option Kind) (t : IntType) → kind ≡ Some (Value t) →
      HasKind (value (elim (value_kind kind) [ None ↦ None | Some u ↦ Some (f u) ]))
  unary_is f kind t is = (
    Value (f t),
    ap (λ (o : Option Kind). value (elim (value_kind o) [
      | None ↦ None
      | Some u ↦ Some (f u)
    ])) is,
  )

  chain_is : (kind : Option Kind) (t : IntType) → kind ≡ Some (Value t) → (rest : List Link)
      (u : IntType) → chain_type (Some t) (links_of rest) ≡ Some u →
      HasKind (value (chain_type (value_kind kind) (links_of rest)))
  chain_is kind t is rest u so = (
    Value u,
    ap (λ (o : Option Kind). value (chain_type (value_kind o) (links_of rest))) is
        ∙ ap value so,
  )

  some_same : (held : List Held) →
      some_item (map is_whole (map (λ (e : Held). e.0) held)) ≡ true →
      some_item (map (reading text names) (map (λ (e : Held). e.0) held)) ≡ true
  some_same [] is = is
  some_same (e ∷ held) is = refl

  conditional_reads : (test first second : Held) (place : ℕ) → is_whole test.0 ≡ true →
      is_whole first.0 ≡ true → is_whole second.0 ≡ true →
      Where (read_layer (Expression-F.Conditional test first second place))
  conditional_reads test first second place wt wf ws uses =
      let t = read_of test in
      let a = read_of first in
      let b = read_of second in
      let of_test = used Valued t in
      let of_first = used Evaluated a in
      let of_second = used Evaluated b in
      let last = paired a.part b.part ∷ [] in
      let front = uses_left W caller (of_test ++ of_first ++ of_second) last uses in
      let both = uses_left W caller (of_test ++ of_first) of_second front in
      let r = used_reads W frames caller t (test.1 wt) (uses_left W caller of_test of_first both) in
      let x = evaluated_reads a (first.1 wf) (uses_right W caller of_test of_first both) in
      let y = evaluated_reads b (second.1 ws)
      (uses_right W caller (of_test ++ of_first) of_second front) in
      let one = (uses_right W caller (of_test ++ of_first ++ of_second) last uses).0 in
      let kind = with_value (ends_kind a.part.kind b.part.kind) t.part.kind in
      let is : kind ≡ ends_kind (Some x.0.0) (Some y.0.0) =
      with_value_is W frames caller (ends_kind a.part.kind b.part.kind) t.part.kind r.type r.is
      ∙ ap (λ (o : Option Kind). ends_kind o b.part.kind) x.0.1
      ∙ ap (ends_kind (Some x.0.0)) y.0.1 in
      at_row kind (tree.Conditional t.typed a.typed b.typed kind place)
      (choice_rows place kind t a b)
      (opened frames (tree.Conditional t.typed a.typed b.typed kind place)
      (TypedExpression-F.Conditional t.typed a.typed b.typed kind place)
      (tree.rolls-Conditional t.typed a.typed b.typed kind place))
      (ends_read place t a b r x.1 y.1 x.0.0 y.0.0 x.0.1 y.0.1
      (unbroken (paired a.part b.part) one.none).n5 kind is)

  layer : (y : Expression-F Held HeldSuffix) → whole_layer y ≡ true → Where (read_layer y)
  layer (Expression-F.Name name) whole uses =
      let found = meaning_of text names name.bytes in
      subst (λ (r : rows.Rows). ReadsAs W frames caller (named_kind found)
      (Bare name.place found) r) (sym (opened frames (tree.Name found name.place)
      (TypedExpression-F.Name found name.place) (tree.rolls-Name found name.place)))
      (name_reads W frames caller name.place found (known name.bytes) uses.0.none)
  layer (Expression-F.Number t n place) whole uses =
      at_row (Some (Value t)) (tree.Number t n place)
      (rows.plain place (core.gives (pure (Const t n))))
      (opened frames (tree.Number t n place) (TypedExpression-F.Number t n place)
      (tree.rolls-Number t n place))
      (plain_reads W frames caller place (Some (Value t)) (Value t, refl)
      (fits_gives W (Good W) (pure (Const t n))
      (λ g. good W [] (Const t n) tt (const_typed W.ground.cells t n (has_range t n whole)))))
  layer (Expression-F.Character n place) whole uses =
      at_row (Some (Value ty.I32)) (tree.Character n place)
      (rows.plain place (core.gives (pure (Const ty.I32 n))))
      (opened frames (tree.Character n place) (TypedExpression-F.Character n place)
      (tree.rolls-Character n place))
      (plain_reads W frames caller place (Some (Value ty.I32)) (Value ty.I32, refl)
      (fits_gives W (Good W) (pure (Const ty.I32 n))
      (λ g. good W [] (Const ty.I32 n) tt (const_typed W.ground.cells ty.I32 n
      (has_range ty.I32 n whole)))))
  layer (Expression-F.Bracketed inner place) whole uses =
      let r = read_of inner in
      subst (λ (row : rows.Rows). ReadsAs W frames caller r.part.kind r.part.form row)
      (sym (opened frames (tree.Bracketed r.typed place) (TypedExpression-F.Bracketed r.typed place)
      (tree.rolls-Bracketed r.typed place))) (inner.1 whole uses)
  layer (Expression-F.Postfix place base held) whole uses =
      let r = read_of base in
      let suffixes = map reading_suffix (map (λ (s : HeldSuffix). s.0) held) in
      let all = suffixed r.part suffixes in
      let own = is_whole base.0 in
      let rest = all_whole (map whole_behind (map (λ (s : HeldSuffix). s.0) held)) in
      subst (λ (row : rows.Rows). ReadsAs W frames caller all.part.kind all.part.form row)
      (sym (opened frames (tree.Postfix r.typed all.typed place)
      (TypedExpression-F.Postfix r.typed all.typed place)
      (tree.rolls-Postfix r.typed all.typed place)))
      (suffixed_reads W frames caller place suffixes (each_suffix held (and_right own rest whole))
      r.part
      (row_of r) (base.1 (and_left own rest whole) (uses_left W caller r.uses all.uses uses))
      (uses_right W caller r.uses all.uses uses))
  layer (Expression-F.PrefixStep operator operand place) whole uses =
      let r = read_of operand in
      let kind = changed_kind r.part in
      let h = operand.1 whole (uses_left W caller r.uses (taken Changed r.part ∷ []) uses) in
      let c = changed_reads W frames caller r.part (row_of r) h
      (uses_right W caller r.uses (taken Changed r.part ∷ []) uses).0.none in
      at_row kind (tree.PrefixStep operator r.typed kind place)
      (rows.act (λ usage. acts.kept usage (rows.incrementing place operator (row_of r).target)))
      (opened frames (tree.PrefixStep operator r.typed kind place)
      (TypedExpression-F.PrefixStep operator r.typed kind place)
      (tree.rolls-PrefixStep operator r.typed kind place))
      (act_reads W frames caller kind (c.0, c.1)
      (λ t so. kept_rule W Used (incrementing_fits W place operator c.2))
      (λ k so. kept_rule W Unused (incrementing_fits W place operator c.2)))
  layer (Expression-F.Unary operator operand place) whole uses =
      let r = read_of operand in
      let a = used_reads W frames caller r (operand.1 whole) uses in
      let kind = value (elim (value_kind r.part.kind) [
        | None ↦ None
        | Some t ↦ Some (unary_type operator t)
      ]) in
      at_row kind (tree.Unary operator r.typed kind place)
      (rows.plain place (core.then_by (rows.used (row_of r))
      (λ v. core.gives (acts.signed operator v))))
      (opened frames (tree.Unary operator r.typed kind place)
      (TypedExpression-F.Unary operator r.typed kind place)
      (tree.rolls-Unary operator r.typed kind place))
      (plain_reads W frames caller place kind (unary_is (unary_type operator) r.part.kind a.type
      a.is)
      (signed_fits W operator a.used))
  layer (Expression-F.Cast to operand place) whole uses =
      let r = read_of operand in
      let wanted = kind_of_type_name text.model to in
      let kind = cast_kind wanted r.part.kind in
      at_row kind (tree.Cast r.typed kind place) (rows.cast_rows place kind (row_of r))
      (opened frames (tree.Cast r.typed kind place) (TypedExpression-F.Cast r.typed kind place)
      (tree.rolls-Cast r.typed kind place))
      (cast_reads place wanted r (operand.1 whole)
      (uses_right W caller (tag_uses names to) (used (cast_role wanted) r) uses))
  layer (Expression-F.Chain place first held) whole uses =
      let r = read_of first in
      let rest = read_links (bare_links held) in
      let own = is_whole first.0 in
      let others = all_whole (whole_links (bare_links held)) in
      let front = used Valued r in
      let behind_uses = flat_map (λ (link : Link). used Valued link.1) rest in
      let a = used_reads W frames caller r (first.1 (and_left own others whole))
      (uses_left W caller front behind_uses uses) in
      let c = chain_reads place rest (each_link held (and_right own others whole))
      (uses_right W caller front behind_uses uses) (rows.used (row_of r)) a.type a.used in
      let typed = map (λ (link : Link). (link.0, link.1.typed)) rest in
      let kind = value (chain_type (value_kind r.part.kind) (links_of rest)) in
      at_row kind (tree.Chain r.typed typed kind place)
      (rows.plain place (rows.chained place (rows.used (row_of r)) (link_rows rest)))
      (opened frames (tree.Chain r.typed typed kind place)
      (TypedExpression-F.Chain r.typed typed kind place)
      (tree.rolls-Chain r.typed typed kind place))
      (plain_reads W frames caller place kind (chain_is r.part.kind a.type a.is rest c.type c.is)
      c.good)
  layer (Expression-F.Conditional test first second place) whole uses =
      conditional_reads test first second place
      (and_left (is_whole test.0) (is_whole first.0 && is_whole second.0) whole)
      (and_left (is_whole first.0) (is_whole second.0)
      (and_right (is_whole test.0) (is_whole first.0 && is_whole second.0) whole))
      (and_right (is_whole first.0) (is_whole second.0)
      (and_right (is_whole test.0) (is_whole first.0 && is_whole second.0) whole)) uses
  layer (Expression-F.Assignment left operator right place) whole uses =
      let l = read_of left in
      let r = read_of right in
      let own = is_whole left.0 in
      let other = is_whole right.0 in
      let front = used Changed l in
      let back = used Valued r in
      let of_left = uses_left W caller front back uses in
      let h = left.1 (and_left own other whole) (uses_left W caller l.uses
      (taken Changed l.part ∷ [])
      of_left) in
      let c = changed_reads W frames caller l.part (row_of l) h
      (uses_right W caller l.uses (taken Changed l.part ∷ []) of_left).0.none in
      let a = used_reads W frames caller r (right.1 (and_right own other whole))
      (uses_right W caller front back uses) in
      let kind = with_value (changed_kind l.part) r.part.kind in
      at_row kind (tree.Assignment l.typed operator r.typed kind place)
      (rows.act (λ usage. acts.kept usage (rows.assigning place (acts.is_used usage) operator
      (row_of l).target (rows.used (row_of r)))))
      (opened frames (tree.Assignment l.typed operator r.typed kind place)
      (TypedExpression-F.Assignment l.typed operator r.typed kind place)
      (tree.rolls-Assignment l.typed operator r.typed kind place))
      (act_reads W frames caller kind
      (c.0, with_value_is W frames caller (changed_kind l.part) r.part.kind a.type a.is ∙ c.1)
      (λ t so. kept_rule W Used (assigning_fits W place true operator c.2 a.used))
      (λ k so. kept_rule W Unused (assigning_fits W place false operator c.2 a.used)))
  layer (Expression-F.Comma held place) whole uses =
      let items = map (reading text names) (map (λ (e : Held). e.0) held) in
      let bools = map is_whole (map (λ (e : Held). e.0) held) in
      let kind = comma_kind (parts_of items) in
      at_row kind (tree.Comma (trees_of items) kind place)
      (rows.act (λ usage. rows.comma usage (item_rows items)))
      (opened frames (tree.Comma (trees_of items) kind place)
      (TypedExpression-F.Comma (trees_of items) kind place)
      (tree.rolls-Comma (trees_of items) kind place))
      (comma_reads items place (some_same held (and_left (some_item bools) (all_whole bools) whole))
      (all_items items (each_read held (and_right (some_item bools) (all_whole bools) whole)) uses))

  layer_behind : (y : Suffix-F Held HeldSuffix) →
      whole_suffix (map-Suffix Expression Suffix Bool Bool is_whole whole_behind (bare_suffix y))
      ≡ true →
      SuffixReads W frames caller (read_suffix (map-Suffix Expression Suffix Reading ReadSuffix
      (reading text names) reading_suffix (bare_suffix y)))
  layer_behind (Suffix-F.Index index place) whole = index.1 whole
  layer_behind (Suffix-F.Call held place) whole = each_read held whole
  layer_behind (Suffix-F.Step operator place) whole = tt
  layer_behind (Suffix-F.Skipped place) whole = tt

  at_expression : (y : Expression-F Held HeldSuffix) (x : Expression-F Expression Suffix) →
      bare y ≡ x → IsRead (roll-Expression x)
  at_expression y x is =
      subst (λ (z : Expression-F Expression Suffix). IsRead (roll-Expression z)) is
      (λ whole. subst Where (sym (open_reading (bare y)))
      (layer y (sym (open_whole (bare y)) ∙ whole)))

  at_suffix : (y : Suffix-F Held HeldSuffix) (x : Suffix-F Expression Suffix) →
      bare_suffix y ≡ x → SuffixIsRead (roll-Suffix x)
  at_suffix y x is =
      subst (λ (z : Suffix-F Expression Suffix). SuffixIsRead (roll-Suffix z)) is
      (λ whole. subst (SuffixReads W frames caller) (sym (open_reading_suffix (bare_suffix y)))
      (layer_behind y (sym (open_whole_suffix (bare_suffix y)) ∙ whole)))

  pub expression_reads : (e : Expression) → IsRead e
  expression_reads =
      ind-Expression IsRead SuffixIsRead (λ x y is. at_expression y x is)
      (λ x y is. at_suffix y x is)
