-- The jumps of the typed functions of a sound text: each goto names a label of its function, and no
-- break or continue stands outside the loops (N6 and N8).
use Rattle.std.proofs.Common.{◌≡◌, ℕ, ℤ, suc, ◌+◌, ◌+ℤ◌, pos, ◌<◌, ◌≤◌, Bool, true, false, not}
use Rattle.std.proofs.Common.{◌||◌, List, []}
use Rattle.std.proofs.Common.{◌∷◌, ◌++◌}
use Rattle.std.proofs.Common.{map, length, Option, None, Some, refl, ap, sym, ◌∙◌, subst, arith}
use Rattle.std.proofs.Common.{length-append, add_assoc}
use Rattle.std.specs.Prelude.{unwrap_or, is_some, option_map}
use Rattle.std.specs.Option.{option_to_list}
use Rattle.std.specs.List.{AllByRecursion, flat_map, list_any}
use Rattle.std.specs.Str.{bytes_eq}
use Rattle.c_lexer.specs.declared.fault.Rule.TheVariants as rule
use Rattle.c_grammar_tree.specs.declared.name.Name.{Name}
use Rattle.c_grammar_tree.specs.declared.expression.Expression.{Expression}
use Rattle.c_grammar_tree.specs.declared.declaration.Enumerator.{Enumerator}
use Rattle.c_grammar_tree.specs.declared.declaration.Enumeration.{Enumeration}
use Rattle.c_grammar_tree.specs.declared.declaration.Enumeration.TheVariants as enumeration
use Rattle.c_grammar_tree.specs.declared.declaration.Declaration.{Declaration}
use Rattle.c_grammar_tree.specs.declared.declaration.Declarator.{Declarator}
use Rattle.c_grammar_tree.specs.declared.statement.ForStart.{ForStart}
use Rattle.c_grammar_tree.specs.declared.statement.ForStart.TheVariants as start
use Rattle.c_grammar_tree.specs.declared.statement.Statement.{Statement, roll-Statement}
use Rattle.c_grammar_tree.specs.declared.statement.BlockItem.{BlockItem, roll-BlockItem}
use Rattle.c_grammar_tree.specs.declared.statement.BlockItem.TheOpen.{BlockItem-F, Statement-F}
use Rattle.c_grammar_tree.specs.declared.statement.BlockItem.TheFolds.{fold-Statement}
use Rattle.c_grammar_tree.specs.declared.statement.BlockItem.TheFolds.{ind-BlockItem}
use Rattle.c_grammar_tree.specs.declared.statement.BlockItem.TheFolds.{ind-Statement}
use Rattle.c_grammar_tree.specs.declared.statement.BlockItem.TheFolds.{fold-roll-BlockItem}
use Rattle.c_grammar_tree.specs.declared.statement.BlockItem.TheFolds.{fold-roll-Statement}
use Rattle.c_grammar_tree.specs.declared.statement.BlockItem.TheFolds.{map-BlockItem, map-Statement}
use Rattle.c_types_rules.specs.declared.meaning.Kind.{Kind}
use Rattle.c_types_rules.specs.declared.meaning.Role.{Role}
use Rattle.c_types_rules.specs.declared.meaning.Role.TheVariants.{Valued, Evaluated}
use Rattle.c_types_rules.specs.declared.typed.Choice.{Choice}
use Rattle.c_types_rules.specs.declared.typed.TypedExpression.{TypedExpression}
use Rattle.c_types_rules.specs.declared.typed.TypedDeclarator.{TypedDeclarator}
use Rattle.c_types_rules.specs.declared.typed.TypedForStart.{TypedForStart}
use Rattle.c_types_rules.specs.declared.typed.TypedItem.{TypedItem}
use Rattle.c_types_rules.specs.declared.typed.TypedItem.TheVariants as typed_item
use Rattle.c_types_rules.specs.declared.typed.TypedItem.TheOpen.{TypedItem-F, TypedStatement-F}
use Rattle.c_types_rules.specs.declared.typed.TypedStatement.{TypedStatement}
use Rattle.c_types_rules.specs.declared.typed.TypedStatement.TheVariants as tree
use Rattle.c_types_rules.specs.Names.{Text, place_of}
use Rattle.c_types_rules.specs.Statements.{Around, Site, Act, Walk, still, doing, followed}
use Rattle.c_types_rules.specs.Statements.{in_order, unnamed, marking, selecting, selected}
use Rattle.c_types_rules.specs.Statements.{looped, inner, loop, evaluating, start_walk, labeled}
use Rattle.c_types_rules.specs.Statements.{declaration_walk, declarator_walk, labels_of}
use Rattle.c_types_rules.specs.Statements.{labels_item, switched, switching, end_behind, naming}
use Rattle.c_types_rules.specs.Statements.{enumerating, enumeration_walk, tagging}
use Rattle.c_types_rules.specs.Statements.{labels_step, evaluates, jumps, breaks, continues, marks}
use Rattle.c_types_rules.specs.Statements.{returns, refers, selects, scoped, selected_value}
use Rattle.c_types_rules.specs.Declarations.{kind_of, has_const}
use Rattle.c_types_rules.specs.Declarations.{enumerator_entry, enumerator_number}
use Rattle.c_types_rules.specs.StatementRules.{site_faults}
use Rattle.c_types_rules.specs.ExpressionRules.{broken, at_if}
use Rattle.c_types_rules.specs.TypedStatements.{Grown, grown, grown_item, grown_statement}
use Rattle.c_types_rules.specs.TypedStatements.{typed_in_order, label_number, walk_in}
use Rattle.c_types_rules.specs.TypedStatements.{typed_expression, typed_optional, typed_for_start}
use Rattle.c_types_rules.specs.TypedStatements.{typed_declaration, typed_break}
use Rattle.c_core_laws.specs.Jumps.{Jumps, no_jumps, then_jumps, all_jumps, labelled, in_loop, goto}
use Rattle.c_core_laws.specs.Jumps.{item_jumps}
use Rattle.c_core_laws.specs.Jumps as jumping
use Rattle.c_core_laws.proofs.JumpsKept.{jumps_in, open_jumps, open_item_jumps, switch_jumps}
use Rattle.c_core_laws.proofs.MainBody.{Found, found}
use Rattle.c_lexer.specs.declared.fault.TextFault.{TextFault}
use Rattle.c_core_laws.specs.lemmas.Faults.{NoFaults, none_left, not_broken}
use Rattle.c_core_laws.specs.lemmas.SameWalk.{grown_of, open_grown_item, open_grown_statement}

abbrev pub AllBelow : ℕ → List ℕ → Type 0
AllBelow n labels = AllByRecursion (λ l. l < n) labels

below_append : (n : ℕ) (a b : List ℕ) → AllBelow n a → AllBelow n b → AllBelow n (a ++ b)
below_append n [] b h k = k
below_append n (l ∷ a) b h k = (h.0, below_append n a b h.1 k)

-- no rule is broken at these sites
abbrev pub Clean : Text → List Site → Type 0
Clean text sites = AllByRecursion (λ site. NoFaults (site_faults text site)) sites

pub clean_left : (text : Text) (a b : List Site) → Clean text (a ++ b) → Clean text a
clean_left text [] b h = tt
clean_left text (site ∷ a) b h = (h.0, clean_left text a b h.1)

pub clean_right : (text : Text) (a b : List Site) → Clean text (a ++ b) → Clean text b
clean_right text [] b h = h
clean_right text (site ∷ a) b h = clean_right text a b h.1

-- jumps of a part of a function with so many labels, in a loop or not, and with so many labels of
-- its own
pub record Fits (text : Text) (sites : List Site) (looping : Bool) (names own : ℕ) (a : Jumps)
    : Type 0
  where
    pub marked : a.labels ≡ own
    pub bound : Clean text sites → looping ≡ false → a.loose ≡ false
    pub named : Clean text sites → AllBelow names a.gotos

-- what the forms of a statement have

of_block : (items : List TypedItem) (place : ℕ) →
    jumps_in (tree.Block items place) ≡ all_jumps (map item_jumps items)
of_block items place =
    ap jumps_in (sym (tree.rolls-Block items place)) ∙ open_jumps
    (TypedStatement-F.Block items place)

of_expression : (e : Option TypedExpression) (place : ℕ) →
    jumps_in (tree.Expression e place) ≡ no_jumps
of_expression e place =
    ap jumps_in (sym (tree.rolls-Expression e place)) ∙ open_jumps
    (TypedStatement-F.Expression e place)

of_if : (test : TypedExpression) (first : TypedStatement) (place : ℕ) →
    jumps_in (tree.If test first None place) ≡ then_jumps (jumps_in first) no_jumps
of_if test first place =
    ap jumps_in (sym (tree.rolls-If test first None place))
    ∙ open_jumps (TypedStatement-F.If test first None place)

of_if_else : (test : TypedExpression) (first second : TypedStatement) (place : ℕ) →
    jumps_in (tree.If test first (Some second) place) ≡ then_jumps (jumps_in first)
    (jumps_in second)
of_if_else test first second place =
    ap jumps_in (sym (tree.rolls-If test first (Some second) place))
    ∙ open_jumps (TypedStatement-F.If test first (Some second) place)

of_while : (test : TypedExpression) (body : TypedStatement) (place : ℕ) →
    jumps_in (tree.While test body place) ≡ in_loop (jumps_in body)
of_while test body place =
    ap jumps_in (sym (tree.rolls-While test body place)) ∙ open_jumps
    (TypedStatement-F.While test body place)

of_do : (body : TypedStatement) (test : TypedExpression) (place : ℕ) →
    jumps_in (tree.Do body test place) ≡ in_loop (jumps_in body)
of_do body test place =
    ap jumps_in (sym (tree.rolls-Do body test place)) ∙ open_jumps
    (TypedStatement-F.Do body test place)

of_for : (first : TypedForStart) (test step : Option TypedExpression) (body : TypedStatement)
    (place : ℕ) →
    jumps_in (tree.For first test step body place) ≡ in_loop (jumps_in body)
of_for first test step body place =
    ap jumps_in (sym (tree.rolls-For first test step body place))
    ∙ open_jumps (TypedStatement-F.For first test step body place)

of_goto : (label : ℕ) (place : ℕ) → jumps_in (tree.Goto label place) ≡ goto label
of_goto label place =
    ap jumps_in (sym (tree.rolls-Goto label place)) ∙ open_jumps (TypedStatement-F.Goto label place)

of_break : (place : ℕ) → jumps_in (tree.Break place) ≡ jumping.leaving
of_break place = ap jumps_in (sym (tree.rolls-Break place)) ∙ open_jumps
    (TypedStatement-F.Break place)

of_continue : (place : ℕ) → jumps_in (tree.Continue place) ≡ jumping.leaving
of_continue place = ap jumps_in (sym (tree.rolls-Continue place)) ∙ open_jumps
    (TypedStatement-F.Continue place)

of_return : (value : Option TypedExpression) (place : ℕ) →
    jumps_in (tree.Return value place) ≡ no_jumps
of_return value place =
    ap jumps_in (sym (tree.rolls-Return value place)) ∙ open_jumps
    (TypedStatement-F.Return value place)

of_labeled : (label : ℕ) (body : TypedStatement) (place : ℕ) →
    jumps_in (tree.Labeled label body place) ≡ labelled (jumps_in body)
of_labeled label body place =
    ap jumps_in (sym (tree.rolls-Labeled label body place))
    ∙ open_jumps (TypedStatement-F.Labeled label body place)

of_switch : (value : TypedExpression) (choices : List Choice) (otherwise : ℕ)
    (body : TypedStatement) (end : ℕ) (place : ℕ) →
    jumps_in (tree.Switch value choices otherwise body end place)
    ≡ switch_jumps choices otherwise (jumps_in body)
of_switch value choices otherwise body end place =
    ap jumps_in (sym (tree.rolls-Switch value choices otherwise body end place))
    ∙ open_jumps (TypedStatement-F.Switch value choices otherwise body end place)

of_declaration : (declarators : List TypedDeclarator) →
    item_jumps (typed_item.Declaration declarators) ≡ no_jumps
of_declaration declarators =
    ap item_jumps (sym (typed_item.rolls-Declaration declarators))
    ∙ open_item_jumps (TypedItem-F.Declaration declarators)

of_statement : (s : TypedStatement) → item_jumps (typed_item.Statement s) ≡ jumps_in s
of_statement s =
    ap item_jumps (sym (typed_item.rolls-Statement s)) ∙ open_item_jumps (TypedItem-F.Statement s)

-- a label that may be missing is below a number
abbrev pub BelowSome : ℕ → Option ℕ → Type 0
BelowSome n None = Unit {0}
BelowSome n (Some label) = label < n

-- so are those of the cases and of the default of a switch so far
abbrev pub Chosen : ℕ → Around → Type 0
Chosen n around =
    AllByRecursion (λ (one : Choice). one.label < n) around.choices × BelowSome n around.otherwise

-- of the labels of the function so many stand from here on, and a break goes to one of them
pub record Stands (around : Around) (own : ℕ) : Type 0 where
  pub room : around.passed + own ≤ length around.labels
  pub breaks : BelowSome (length around.labels) around.break_to

adds_none : (n : ℕ) → n + 0 ≡ n
adds_none n = omega arith

none_added : (n : ℕ) → 0 + n ≡ n
none_added n = omega arith

first_room : (p m n limit : ℕ) → p + (m + n) ≤ limit → p + m ≤ limit
first_room p m n limit room = omega (arith, room)

rest_room : (p q m n limit : ℕ) → q ≡ p + m → p + (m + n) ≤ limit → q + n ≤ limit
rest_room p q m n limit is room = omega (arith, is, room)

next_room : (p n limit : ℕ) → p + suc n ≤ limit → (p + 1) + n ≤ limit
next_room p n limit room = omega (arith, room)

last_room : (p q n limit : ℕ) → q ≡ p + n → p + (n + 1) ≤ limit → q < limit
last_room p q n limit is room = omega (arith, is, room)

own_room : (p limit : ℕ) → p + 1 ≤ limit → p < limit
own_room p limit room = omega (arith, room)

same_room : (p q n limit : ℕ) → q ≡ p → p + n ≤ limit → q + n ≤ limit
same_room p q n limit is room = omega (arith, is, room)

within_first : (around : Around) (m n : ℕ) → Stands around (m + n) → Stands around m
within_first around m n h = record {
  room = first_room around.passed m n (length around.labels) h.room;
  breaks = h.breaks;
}

-- what is pushed is below, too
more_chosen : (limit label : ℕ) (choices : List Choice) (value : Option ℤ) → label < limit →
    AllByRecursion (λ (one : Choice). one.label < limit) choices →
    AllByRecursion (λ (one : Choice). one.label < limit) (choices
    ++ option_to_list (option_map (λ n. record { value = n; label = label }) value))
more_chosen limit label [] None less all = tt
more_chosen limit label [] (Some n) less all = (less, tt)
more_chosen limit label (one ∷ choices) value less all =
    (all.0, more_chosen limit label choices value less all.1)

-- behind a walk so many labels more are passed
pub record Counts (walk : Walk) (own : ℕ) : Type 0 where
  pub passes : (around : Around) → (walk.behind around).passed ≡ around.passed + own
  pub cases : (limit : ℕ) (around : Around) → around.passed + own ≤ limit → Chosen limit around →
      Chosen limit (walk.behind around)

pub counts_then : (a b : Walk) (m n : ℕ) → Counts a m → Counts b n →
    Counts (followed a b) (m + n)
counts_then a b m n h k = record {
  passes = λ around.
      k.passes (a.behind around) ∙ ap (λ x. x + n) (h.passes around)
      ∙ add_assoc around.passed m n;
  cases = λ limit around room held.
      k.cases limit (a.behind around)
      (rest_room around.passed (a.behind around).passed m n limit (h.passes around) room)
      (h.cases limit around (first_room around.passed m n limit room) held);
}

-- no label is passed, and nothing is chosen
pub record Quiet (walk : Walk) : Type 0 where
  pub passed : (around : Around) → (walk.behind around).passed ≡ around.passed
  pub choices : (around : Around) → (walk.behind around).choices ≡ around.choices
  pub otherwise : (around : Around) → (walk.behind around).otherwise ≡ around.otherwise

pub quiet_still : Quiet still
quiet_still =
    record { passed = λ around. refl; choices = λ around. refl; otherwise = λ around. refl }

pub quiet_then : (a b : Walk) → Quiet a → Quiet b → Quiet (followed a b)
quiet_then a b h k = record {
  passed = λ around. k.passed (a.behind around) ∙ h.passed around;
  choices = λ around. k.choices (a.behind around) ∙ h.choices around;
  otherwise = λ around. k.otherwise (a.behind around) ∙ h.otherwise around;
}

pub quiet_doing : (act : Act) → Quiet (doing act)
quiet_doing act =
    record { passed = λ around. refl; choices = λ around. refl; otherwise = λ around. refl }

pub quiet_evaluating : (role : Role) (e : Option Expression) → Quiet (evaluating role e)
quiet_evaluating role None = quiet_still
quiet_evaluating role (Some e) = quiet_doing (evaluates role e)

pub counts_quiet : (walk : Walk) → Quiet walk → Counts walk 0
counts_quiet walk h = record {
  passes = λ around. h.passed around ∙ sym (adds_none around.passed);
  cases = λ limit around room held. (
    subst (λ cs. AllByRecursion (λ (one : Choice). one.label < limit) cs)
        (sym (h.choices around)) held.0,
    subst (λ o. BelowSome limit o) (sym (h.otherwise around)) held.1,
  );
}

counts_is : (walk : Walk) (m n : ℕ) → m ≡ n → Counts walk m → Counts walk n
counts_is walk m n is h = subst (λ k. Counts walk k) is h

counts_behind : (a b : Walk) (n : ℕ) → Quiet a → Counts b n → Counts (followed a b) n
counts_behind a b n h k =
    counts_is (followed a b) (0 + n) n (none_added n) (counts_then a b 0 n (counts_quiet a h) k)

counts_before : (a b : Walk) (n : ℕ) → Counts a n → Quiet b → Counts (followed a b) n
counts_before a b n h k =
    counts_is (followed a b) (n + 0) n (adds_none n) (counts_then a b n 0 h (counts_quiet b k))

counts_scoped : (walk : Walk) (n : ℕ) → Counts walk n → Counts (scoped walk) n
counts_scoped walk n h = record {
  passes = λ around. h.passes (inner around);
  cases = λ limit around room held. h.cases limit (inner around) room held;
}

counts_looped : (walk : Walk) (n : ℕ) → Counts walk n → Counts (looped walk) n
counts_looped walk n h = record {
  passes = λ around. h.passes (loop around);
  cases = λ limit around room held. h.cases limit (loop around) room held;
}

counts_marking : (label : Name) → Counts (marking label) 1
counts_marking label =
    record { passes = λ around. refl; cases = λ limit around room held. held }

counts_selecting : (text : Text) (value : Option Expression) (place : ℕ) →
    Counts (selecting text value place) 1
counts_selecting text None place = record {
  passes = λ around. refl;
  cases = λ limit around room held. (held.0, own_room around.passed limit room);
}
counts_selecting text (Some value) place = record {
  passes = λ around. refl;
  cases = λ limit around room held. (
    more_chosen limit around.passed around.choices (selected_value text around value)
        (own_room around.passed limit room) held.0,
    held.1,
  );
}

counts_switching : (text : Text) (value : Expression) (walk : Walk) (n : ℕ) → Counts walk n →
    Counts (switching text value walk) (n + 1)
counts_switching text value walk n h = record {
  passes = λ around.
      ap (λ x. x + 1) (h.passes (switched text value (end_behind walk around) around))
      ∙ add_assoc around.passed n 1;
  cases = λ limit around room held. held;
}

module _ (text : Text) where
  abbrev pub FitsAt : Around → List Site → ℕ → Jumps → Type 0
  FitsAt around sites own a = Fits text sites around.in_loop (length around.labels) own a

  fits_none : (sites : List Site) (looping : Bool) (names : ℕ) →
      Fits text sites looping names 0 no_jumps
  fits_none sites looping names =
      record { marked = refl; bound = λ clean out. refl; named = λ clean. tt }

  none_loose : (a b : Bool) → a ≡ false → b ≡ false → (a || b) ≡ false
  none_loose a b h k = ap (λ x. x || b) h ∙ k

  fits_then : (s t : List Site) (looping : Bool) (names m n : ℕ) (a b : Jumps) →
      Fits text s looping names m a → Fits text t looping names n b →
      Fits text (s ++ t) looping names (m + n) (then_jumps a b)
  fits_then s t looping names m n a b h k = record {
    marked = ap (λ x. x + b.labels) h.marked ∙ ap (λ x. m + x) k.marked;
    bound = λ clean out.
        none_loose a.loose b.loose (h.bound (clean_left text s t clean) out)
        (k.bound (clean_right text s t clean) out);
    named = λ clean.
        below_append names a.gotos b.gotos (h.named (clean_left text s t clean))
        (k.named (clean_right text s t clean));
  }

  -- at the same sites
  fits_both : (s : List Site) (looping : Bool) (names m n : ℕ) (a b : Jumps) →
      Fits text s looping names m a → Fits text s looping names n b →
      Fits text s looping names (m + n) (then_jumps a b)
  fits_both s looping names m n a b h k = record {
    marked = ap (λ x. x + b.labels) h.marked ∙ ap (λ x. m + x) k.marked;
    bound = λ clean out. none_loose a.loose b.loose (h.bound clean out) (k.bound clean out);
    named = λ clean. below_append names a.gotos b.gotos (h.named clean) (k.named clean);
  }

  -- behind other sites, and before them
  fits_behind : (s t : List Site) (looping : Bool) (names n : ℕ) (a : Jumps) →
      Fits text t looping names n a → Fits text (s ++ t) looping names n a
  fits_behind s t looping names n a h = record {
    marked = h.marked;
    bound = λ clean out. h.bound (clean_right text s t clean) out;
    named = λ clean. h.named (clean_right text s t clean);
  }

  fits_before : (s t : List Site) (looping : Bool) (names n : ℕ) (a : Jumps) →
      Fits text s looping names n a → Fits text (s ++ t) looping names n a
  fits_before s t looping names n a h = record {
    marked = h.marked;
    bound = λ clean out. h.bound (clean_left text s t clean) out;
    named = λ clean. h.named (clean_left text s t clean);
  }

  fits_loop : (sites : List Site) (looping : Bool) (names n : ℕ) (a : Jumps) →
      Fits text sites true names n a → Fits text sites looping names n (in_loop a)
  fits_loop sites looping names n a h =
      record { marked = h.marked; bound = λ clean out. refl; named = h.named }

  fits_label : (sites : List Site) (looping : Bool) (names n : ℕ) (a : Jumps) →
      Fits text sites looping names n a → Fits text sites looping names (n + 1) (labelled a)
  fits_label sites looping names n a h = record {
    marked = ap (λ x. x + 1) h.marked;
    bound = h.bound;
    named = h.named;
  }

  fits_is : (sites : List Site) (looping : Bool) (names n : ℕ) (a b : Jumps) → a ≡ b →
      Fits text sites looping names n b → Fits text sites looping names n a
  fits_is sites looping names n a b is h =
      subst (λ (x : Jumps). Fits text sites looping names n x) (sym is) h

  -- gotos, breaks and continues

  named_of : (around : Around) (name : Name) → list_any (bytes_eq name.bytes) around.labels ≡ true →
      label_number around name < length around.labels
  named_of around name has =
      let f : Found around.labels (place_of (bytes_eq name.bytes) around.labels) =
      found (bytes_eq name.bytes) around.labels has in
      omega (arith, f.2, ap (λ (o : Option ℕ). unwrap_or o 0) f.1)

  not_false : (b : Bool) → not b ≡ false → b ≡ true
  not_false true h = refl
  not_false false h = absurd (cc)

  -- a fault of the kind that stands in front of others, of which there are none
  none_before : (n : List TextFault) → NoFaults (n ++ [] ++ [] ++ [] ++ [] ++ [] ++ []) →
      NoFaults n
  none_before n none =
      let a = n ++ [] in
      let b = a ++ [] in
      let c = b ++ [] in
      let d = c ++ [] in
      let e = d ++ [] in
      none_left n [] (none_left a [] (none_left b [] (none_left c [] (none_left d []
      (none_left e [] none)))))

  fits_goto : (around : Around) (name : Name) →
      FitsAt around (record { around = around; act = jumps name } ∷ []) 0
      (goto (label_number around name))
  fits_goto around name = record {
    marked = refl;
    bound = λ clean out. refl;
    named = λ clean.
        let has = list_any (bytes_eq name.bytes) around.labels in
        let n6 = broken rule.N6 (at_if (not has) name.place) in (
          named_of around name (not_false has (not_broken rule.N6 (not has) name.place
              (none_left n6 [] (none_before (n6 ++ []) clean.0)))),
          tt,
        );
  }

  -- a goto to a label that is there
  fits_label_below : (sites : List Site) (looping : Bool) (names label : ℕ) → label < names →
      Fits text sites looping names 0 (goto label)
  fits_label_below sites looping names label less =
      record { marked = refl; bound = λ clean out. refl; named = λ clean. (less, tt) }

  both_false : (b : Bool) → not b ≡ false → b ≡ false → ⊥
  both_false true h k = absurd (cc)
  both_false false h k = absurd (cc)

  either_false : (b : Bool) (o : Option ℕ) → o ≡ None → not (b || is_some o) ≡ false →
      b ≡ false → ⊥
  either_false true o is h k = absurd (cc)
  either_false false None is h k = absurd (cc)
  either_false false (Some label) is h k = absurd (cc)

  fits_breaking : (around : Around) (place : ℕ) → around.break_to ≡ None →
      FitsAt around (record { around = around; act = breaks place } ∷ []) 0 jumping.leaving
  fits_breaking around place is = record {
    marked = refl;
    bound = λ clean out.
        let b = around.in_loop || is_some around.break_to in
        let n8 = broken rule.N8 (at_if (not b) place) in
        absurd (either_false around.in_loop around.break_to is
        (not_broken rule.N8 (not b) place (none_before n8 clean.0)) out);
    named = λ clean. tt;
  }

  fits_continuing : (around : Around) (place : ℕ) →
      FitsAt around (record { around = around; act = continues place } ∷ []) 0 jumping.leaving
  fits_continuing around place = record {
    marked = refl;
    bound = λ clean out.
        let n8 = broken rule.N8 (at_if (not around.in_loop) place) in
        absurd (both_false around.in_loop (not_broken rule.N8 (not around.in_loop) place
        (none_before n8 clean.0)) out);
    named = λ clean. tt;
  }

  -- a break, by where it goes
  fits_break : (around : Around) (place : ℕ) (to : Option ℕ) → around.break_to ≡ to →
      BelowSome (length around.labels) to →
      FitsAt around (record { around = around; act = breaks place } ∷ []) 0
      (jumps_in (typed_break to place))
  fits_break around place None is below =
      fits_is (record { around = around; act = breaks place } ∷ []) around.in_loop
      (length around.labels) 0 (jumps_in (tree.Break place)) jumping.leaving (of_break place)
      (fits_breaking around place is)
  fits_break around place (Some label) is below =
      let sites = record { around = around; act = breaks place } ∷ [] in
      fits_is sites around.in_loop (length around.labels) 0 (jumps_in (tree.Goto label place))
      (goto label) (of_goto label place)
      (fits_label_below sites around.in_loop (length around.labels) label below)

  -- the gotos of a switch, and the labels of its body and behind it
  fits_chosen : (sites : List Site) (looping : Bool) (names : ℕ) (choices : List Choice) →
      AllByRecursion (λ (one : Choice). one.label < names) choices →
      Fits text sites looping names 0 (all_jumps (map (λ (one : Choice). goto one.label) choices))
  fits_chosen sites looping names [] all = fits_none sites looping names
  fits_chosen sites looping names (one ∷ choices) all =
      let others = all_jumps (map (λ (other : Choice). goto other.label) choices) in
      let rest = fits_chosen sites looping names choices all.1 in record {
        marked = none_added others.labels ∙ rest.marked;
        bound = λ clean out. rest.bound clean out;
        named = λ clean. (all.0, rest.named clean);
      }

  fits_switch : (sites : List Site) (looping : Bool) (names n : ℕ) (choices : List Choice)
      (otherwise : ℕ) (a : Jumps) → Fits text sites looping names n a →
      AllByRecursion (λ (one : Choice). one.label < names) choices → otherwise < names →
      Fits text sites looping names (n + 1) (switch_jumps choices otherwise a)
  fits_switch sites looping names n choices otherwise a h all less =
      let behind = then_jumps a (labelled no_jumps) in
      let body : Fits text sites looping names (n + 1) behind =
      fits_both sites looping names n 1 a (labelled no_jumps) h
      (fits_label sites looping names 0 no_jumps (fits_none sites looping names)) in
      let rest : Fits text sites looping names (0 + (n + 1)) (then_jumps (goto otherwise) behind) =
      fits_both sites looping names 0 (n + 1) (goto otherwise) behind
      (fits_label_below sites looping names otherwise less) body in
      subst (λ k. Fits text sites looping names k (switch_jumps choices otherwise a))
      (none_added (0 + (n + 1)) ∙ none_added (n + 1))
      (fits_both sites looping names 0 (0 + (n + 1))
      (all_jumps (map (λ (one : Choice). goto one.label) choices))
      (then_jumps (goto otherwise) behind) (fits_chosen sites looping names choices all) rest)

  -- what is known behind a part: in a loop or not as before it, and in a switch or not, and of the
  -- same labels
  pub record Keeps (walk : Walk) : Type 0 where
    pub looping : (around : Around) → (walk.behind around).in_loop ≡ around.in_loop
    pub names : (around : Around) → (walk.behind around).labels ≡ around.labels
    pub breaks : (around : Around) → (walk.behind around).break_to ≡ around.break_to

  pub keeps_still : Keeps still
  keeps_still =
      record { looping = λ around. refl; names = λ around. refl; breaks = λ around. refl }

  pub keeps_then : (a b : Walk) → Keeps a → Keeps b → Keeps (followed a b)
  keeps_then a b h k = record {
    looping = λ around. k.looping (a.behind around) ∙ h.looping around;
    names = λ around. k.names (a.behind around) ∙ h.names around;
    breaks = λ around. k.breaks (a.behind around) ∙ h.breaks around;
  }

  keeps_evaluating : (role : Role) (e : Option Expression) → Keeps (evaluating role e)
  keeps_evaluating role None = keeps_still
  keeps_evaluating role (Some e) =
      record { looping = λ around. refl; names = λ around. refl; breaks = λ around. refl }

  keeps_declarators : (kind : Kind) (is_const : Bool) (declarators : List Declarator) →
      Keeps (in_order (map (declarator_walk text kind is_const) declarators))
  keeps_declarators kind is_const [] = keeps_still
  keeps_declarators kind is_const (declarator ∷ more) =
      keeps_then (declarator_walk text kind is_const declarator)
      (in_order (map (declarator_walk text kind is_const) more))
      (record { looping = λ around. refl; names = λ around. refl; breaks = λ around. refl })
      (keeps_declarators kind is_const more)

  quiet_declarators : (kind : Kind) (is_const : Bool) (declarators : List Declarator) →
      Quiet (in_order (map (declarator_walk text kind is_const) declarators))
  quiet_declarators kind is_const [] = quiet_still
  quiet_declarators kind is_const (declarator ∷ more) =
      quiet_then (declarator_walk text kind is_const declarator)
      (in_order (map (declarator_walk text kind is_const) more))
      (record { passed = λ around. refl; choices = λ around. refl; otherwise = λ around. refl })
      (quiet_declarators kind is_const more)

  -- behind an enumerator
  abbrev counted : ℤ → Enumerator → Around → Around
  counted next one around = naming (enumerator_entry one.name.bytes
      (enumerator_number text around.names next one)) around

  keeps_enumerating : (next : ℤ) (found : List Enumerator) → Keeps (enumerating text next found)
  keeps_enumerating next [] = keeps_still
  keeps_enumerating next (one ∷ more) = record {
    looping = λ around.
        (keeps_enumerating (enumerator_number text around.names next one +ℤ pos 1) more).looping
        (counted next one around);
    names = λ around.
        (keeps_enumerating (enumerator_number text around.names next one +ℤ pos 1) more).names
        (counted next one around);
    breaks = λ around.
        (keeps_enumerating (enumerator_number text around.names next one +ℤ pos 1) more).breaks
        (counted next one around);
  }

  quiet_enumerating : (next : ℤ) (found : List Enumerator) → Quiet (enumerating text next found)
  quiet_enumerating next [] = quiet_still
  quiet_enumerating next (one ∷ more) = record {
    passed = λ around.
        (quiet_enumerating (enumerator_number text around.names next one +ℤ pos 1) more).passed
        (counted next one around);
    choices = λ around.
        (quiet_enumerating (enumerator_number text around.names next one +ℤ pos 1) more).choices
        (counted next one around);
    otherwise = λ around.
        (quiet_enumerating (enumerator_number text around.names next one +ℤ pos 1) more).otherwise
        (counted next one around);
  }

  keeps_enumeration : (found : Option Enumeration) → Keeps (enumeration_walk text found)
  keeps_enumeration None = keeps_still
  keeps_enumeration (Some (enumeration.Tag tag)) =
      record { looping = λ around. refl; names = λ around. refl; breaks = λ around. refl }
  keeps_enumeration (Some (enumeration.Listed None found)) = keeps_enumerating (pos 0) found
  keeps_enumeration (Some (enumeration.Listed (Some tag) found)) =
      keeps_then (tagging tag) (enumerating text (pos 0) found)
      (record { looping = λ around. refl; names = λ around. refl; breaks = λ around. refl })
      (keeps_enumerating (pos 0) found)

  quiet_enumeration : (found : Option Enumeration) → Quiet (enumeration_walk text found)
  quiet_enumeration None = quiet_still
  quiet_enumeration (Some (enumeration.Tag tag)) = quiet_doing (refers tag)
  quiet_enumeration (Some (enumeration.Listed None found)) = quiet_enumerating (pos 0) found
  quiet_enumeration (Some (enumeration.Listed (Some tag) found)) =
      quiet_then (tagging tag) (enumerating text (pos 0) found)
      (record { passed = λ around. refl; choices = λ around. refl; otherwise = λ around. refl })
      (quiet_enumerating (pos 0) found)

  keeps_declaration : (declaration : Declaration) → Keeps (declaration_walk text declaration)
  keeps_declaration declaration =
      keeps_then (enumeration_walk text declaration.specifiers.enumeration)
      (in_order (map (declarator_walk text (kind_of text declaration.specifiers)
      (has_const declaration.specifiers)) declaration.declarators))
      (keeps_enumeration declaration.specifiers.enumeration)
      (keeps_declarators (kind_of text declaration.specifiers) (has_const declaration.specifiers)
      declaration.declarators)

  quiet_declaration : (declaration : Declaration) → Quiet (declaration_walk text declaration)
  quiet_declaration declaration =
      quiet_then (enumeration_walk text declaration.specifiers.enumeration)
      (in_order (map (declarator_walk text (kind_of text declaration.specifiers)
      (has_const declaration.specifiers)) declaration.declarators))
      (quiet_enumeration declaration.specifiers.enumeration)
      (quiet_declarators (kind_of text declaration.specifiers) (has_const declaration.specifiers)
      declaration.declarators)

  pub keeps_start : (first : ForStart) → Keeps (start_walk text first)
  keeps_start (start.Declaration declaration) = keeps_declaration declaration
  keeps_start (start.Expression expression) = keeps_evaluating Evaluated expression

  pub quiet_start : (first : ForStart) → Quiet (start_walk text first)
  quiet_start (start.Declaration declaration) = quiet_declaration declaration
  quiet_start (start.Expression expression) = quiet_evaluating Evaluated expression

  -- what stands behind a part
  stands_after : (walk : Walk) (around : Around) (m n : ℕ) → Keeps walk → Counts walk m →
      Stands around (m + n) → Stands (walk.behind around) n
  stands_after walk around m n keeps counts h =
      let behind = walk.behind around in record {
        room = subst (λ (ls : List (List ℕ)). behind.passed + n ≤ length ls)
            (sym (keeps.names around))
            (rest_room around.passed behind.passed m n (length around.labels)
            (counts.passes around) h.room);
        breaks = subst (λ (ls : List (List ℕ)). BelowSome (length ls) behind.break_to)
            (sym (keeps.names around))
            (subst (λ (o : Option ℕ). BelowSome (length around.labels) o)
            (sym (keeps.breaks around)) h.breaks);
      }

  stands_quiet : (walk : Walk) (around : Around) (n : ℕ) → Keeps walk → Quiet walk →
      Stands around n → Stands (walk.behind around) n
  stands_quiet walk around n keeps quiet h =
      stands_after walk around 0 n keeps (counts_quiet walk quiet)
      (subst (λ k. Stands around k) (sym (none_added n)) h)

  stands_loop : (around : Around) (n : ℕ) → Stands around n → Stands (loop around) n
  stands_loop around n h = record { room = h.room; breaks = tt }

  stands_switched : (around : Around) (value : Expression) (end n : ℕ) →
      end ≡ around.passed + n → Stands around (n + 1) → Stands (switched text value end around) n
  stands_switched around value end n is h = record {
    room = first_room around.passed n 1 (length around.labels) h.room;
    breaks = last_room around.passed end n (length around.labels) is h.room;
  }

  -- a part behind another one
  fits_after : (walk : Walk) (around : Around) (sites : List Site) (n : ℕ) (a : Jumps) →
      Keeps walk → FitsAt (walk.behind around) sites n a → FitsAt around sites n a
  fits_after walk around sites n a keeps h =
      subst (λ (l : List (List ℕ)). Fits text sites around.in_loop (length l) n a)
      (keeps.names around)
      (subst (λ b. Fits text sites b (length (walk.behind around).labels) n a)
      (keeps.looping around) h)

  -- a part with its typed tree
  pub record Jumped {T : Type 0} (jumps_of : T → Jumps) (part : Grown T) (labels : List Name)
      : Type 0 where
    pub keeps : Keeps part.walk
    pub counts : Counts part.walk (length labels)
    pub at : (around : Around) → Stands around (length labels) →
        FitsAt around (part.walk.sites around) (length labels) (jumps_of (part.typed around))

  pub labels_in : Statement → List Name
  labels_in = fold-Statement (List Name) (List Name) labels_item labels_step

  pub open_labels_item : (x : BlockItem-F BlockItem Statement) →
      labels_of (roll-BlockItem x)
      ≡ labels_item (map-BlockItem BlockItem Statement (List Name) (List Name) labels_of
      labels_in x)
  unfolding labels_of labels_in
  open_labels_item x = fold-roll-BlockItem (List Name) (List Name) labels_item labels_step x

  pub open_labels : (x : Statement-F BlockItem Statement) →
      labels_in (roll-Statement x)
      ≡ labels_step (map-Statement BlockItem Statement (List Name) (List Name) labels_of
      labels_in x)
  unfolding labels_of labels_in
  open_labels x = fold-roll-Statement (List Name) (List Name) labels_item labels_step x

  abbrev pub ItemJumps : BlockItem → Type 0
  ItemJumps item = Jumped item_jumps (grown text item) (labels_of item)

  abbrev pub StatementJumps : Statement → Type 0
  StatementJumps s = Jumped jumps_in (grown_of text s) (labels_in s)

  abbrev HeldItem : Type 0
  HeldItem = (item : BlockItem) × ItemJumps item

  abbrev HeldStatement : Type 0
  HeldStatement = (s : Statement) × StatementJumps s

  abbrev bare_item : BlockItem-F HeldItem HeldStatement → BlockItem-F BlockItem Statement
  bare_item y = map-BlockItem HeldItem HeldStatement BlockItem Statement (λ e. e.0) (λ e. e.0) y

  abbrev bare : Statement-F HeldItem HeldStatement → Statement-F BlockItem Statement
  bare y = map-Statement HeldItem HeldStatement BlockItem Statement (λ e. e.0) (λ e. e.0) y

  -- items in order
  abbrev pub grown_items : List BlockItem → List (Grown TypedItem)
  grown_items items = map (grown text) items

  abbrev pub items_walk : List BlockItem → Walk
  items_walk items = in_order (map walk_in (grown_items items))

  abbrev pub items_typed : List BlockItem → Around → List TypedItem
  items_typed items around = typed_in_order (grown_items items) around

  items_keep : (items : List BlockItem) → AllByRecursion ItemJumps items →
      Keeps (items_walk items)
  items_keep [] all = keeps_still
  items_keep (item ∷ items) all =
      keeps_then (grown text item).walk (items_walk items) all.0.keeps (items_keep items all.1)

  pub items_count : (items : List BlockItem) → AllByRecursion ItemJumps items →
      Counts (items_walk items) (length (flat_map labels_of items))
  items_count [] all = counts_quiet still quiet_still
  items_count (item ∷ items) all =
      let m = length (labels_of item) in
      let n = length (flat_map labels_of items) in
      counts_is (items_walk (item ∷ items)) (m + n)
      (length (flat_map labels_of (item ∷ items)))
      (sym (length-append (labels_of item) (flat_map labels_of items)))
      (counts_then (grown text item).walk (items_walk items) m n all.0.counts
      (items_count items all.1))

  pub items_fit : (items : List BlockItem) → AllByRecursion ItemJumps items → (around : Around) →
      Stands around (length (flat_map labels_of items)) →
      FitsAt around ((items_walk items).sites around) (length (flat_map labels_of items))
      (all_jumps (map item_jumps (items_typed items around)))
  items_fit [] all around stands = fits_none [] around.in_loop (length around.labels)
  items_fit (item ∷ items) all around stands =
      let g = grown text item in
      let m = length (labels_of item) in
      let n = length (flat_map labels_of items) in
      let both : Stands around (m + n) =
      subst (λ k. Stands around k) (length-append (labels_of item) (flat_map labels_of items))
      stands in
      let rest = items_walk items in
      let behind = g.walk.behind around in
      let others = all_jumps (map item_jumps (items_typed items behind)) in
      subst (λ n. FitsAt around (g.walk.sites around ++ rest.sites behind) n
      (then_jumps (item_jumps (g.typed around)) others))
      (sym (length-append (labels_of item) (flat_map labels_of items)))
      (fits_then (g.walk.sites around) (rest.sites behind) around.in_loop (length around.labels)
      (length (labels_of item)) (length (flat_map labels_of items)) (item_jumps (g.typed around))
      others (all.0.at around (within_first around m n both))
      (fits_after g.walk around (rest.sites behind) (length (flat_map labels_of items)) others
      all.0.keeps (items_fit items all.1 behind
      (stands_after g.walk around m n all.0.keeps all.0.counts both))))

  pub flat_items : (items : List BlockItem) →
      flat_map (λ (names : List Name). names) (map labels_of items) ≡ flat_map labels_of items
  flat_items [] = refl
  flat_items (one ∷ items) = ap (λ (names : List Name). labels_of one ++ names) (flat_items items)

  all_held : (held : List HeldItem) →
      AllByRecursion ItemJumps (map (λ (e : HeldItem). e.0) held)
  all_held [] = tt
  all_held (item ∷ held) = (item.1, all_held held)

  one_more : (n : ℕ) → n + 1 ≡ suc n
  one_more n = omega arith

  -- the layers of a statement and of an item
  abbrev grown_layer : Statement-F HeldItem HeldStatement → Grown TypedStatement
  grown_layer y = grown_statement text (map-Statement BlockItem Statement (Grown TypedItem)
      (Grown TypedStatement) (grown text) (grown_of text) (bare y))

  abbrev labels_layer : Statement-F HeldItem HeldStatement → List Name
  labels_layer y = labels_step (map-Statement BlockItem Statement (List Name) (List Name)
      labels_of labels_in (bare y))

  evaluating_stays : (role : Role) (e : Option Expression) (around : Around) →
      (evaluating role e).behind around ≡ around
  evaluating_stays role None around = refl
  evaluating_stays role (Some e) around = refl

  abbrev site_of : Around → Expression → Site
  site_of around test = record { around = around; act = evaluates Valued test }

  keeps_doing : (act : Act) → Keeps (doing act)
  keeps_doing act =
      record { looping = λ around. refl; names = λ around. refl; breaks = λ around. refl }

  quiet_layer : (y : Statement-F HeldItem HeldStatement) → Keeps (grown_layer y).walk →
      Quiet (grown_layer y).walk → labels_layer y ≡ [] →
      ((around : Around) → jumps_in ((grown_layer y).typed around) ≡ no_jumps) →
      Jumped jumps_in (grown_layer y) (labels_layer y)
  quiet_layer y keeps quiet none is = record {
    keeps = keeps;
    counts = subst (λ (names : List Name). Counts (grown_layer y).walk (length names)) (sym none)
        (counts_quiet (grown_layer y).walk quiet);
    at = λ around stands.
        let sites = (grown_layer y).walk.sites around in
        fits_is sites around.in_loop (length around.labels) (length (labels_layer y))
        (jumps_in ((grown_layer y).typed around)) no_jumps (is around)
        (subst (λ (names : List Name). FitsAt around sites (length names) no_jumps) (sym none)
        (fits_none sites around.in_loop (length around.labels)));
  }

  if_layer : (test : Expression) (first : HeldStatement) (place : ℕ) →
      Jumped jumps_in (grown_layer (Statement-F.If test first None place))
      (labels_in first.0 ++ [])
  if_layer test first place =
      let g = grown_of text first.0 in record {
        keeps = keeps_then (doing (evaluates Valued test)) (followed g.walk still)
            (keeps_doing (evaluates Valued test)) (keeps_then g.walk still first.1.keeps
            keeps_still);
        counts =
            let own = length (labels_in first.0) in
            counts_is (followed (doing (evaluates Valued test)) (followed g.walk still)) (own + 0)
            (length (labels_in first.0 ++ [])) (sym (length-append (labels_in first.0) []))
            (counts_behind (doing (evaluates Valued test)) (followed g.walk still) (own + 0)
            (quiet_doing (evaluates Valued test))
            (counts_then g.walk still own 0 first.1.counts (counts_quiet still quiet_still)));
        at = λ around stands.
            let a = jumps_in (g.typed around) in
            let sites = g.walk.sites around ++ [] in
            let own = length (labels_in first.0) in
            let here : Stands around own =
            within_first around own 0
            (subst (λ k. Stands around k) (length-append (labels_in first.0) []) stands) in
            fits_is (site_of around test ∷ sites) around.in_loop (length around.labels)
            (length (labels_in first.0 ++ []))
            (jumps_in (tree.If (typed_expression text around test) (g.typed around) None place))
            (then_jumps a no_jumps) (of_if (typed_expression text around test) (g.typed around)
            place)
            (subst (λ n. FitsAt around (site_of around test ∷ sites) n (then_jumps a no_jumps))
            (sym (length-append (labels_in first.0) []))
            (fits_behind (site_of around test ∷ []) sites around.in_loop (length around.labels)
            (own + 0) (then_jumps a no_jumps)
            (fits_then (g.walk.sites around) [] around.in_loop (length around.labels) own 0 a
            no_jumps (first.1.at around here)
            (fits_none [] around.in_loop (length around.labels)))));
      }

  else_layer : (test : Expression) (first second : HeldStatement) (place : ℕ) →
      Jumped jumps_in (grown_layer (Statement-F.If test first (Some second) place))
      (labels_in first.0 ++ labels_in second.0)
  else_layer test first second place =
      let g = grown_of text first.0 in
      let h = grown_of text second.0 in record {
        keeps = keeps_then (doing (evaluates Valued test)) (followed g.walk h.walk)
            (keeps_doing (evaluates Valued test)) (keeps_then g.walk h.walk first.1.keeps
            second.1.keeps);
        counts =
            let m = length (labels_in first.0) in
            let n = length (labels_in second.0) in
            counts_is (followed (doing (evaluates Valued test)) (followed g.walk h.walk)) (m + n)
            (length (labels_in first.0 ++ labels_in second.0))
            (sym (length-append (labels_in first.0) (labels_in second.0)))
            (counts_behind (doing (evaluates Valued test)) (followed g.walk h.walk) (m + n)
            (quiet_doing (evaluates Valued test))
            (counts_then g.walk h.walk m n first.1.counts second.1.counts));
        at = λ around stands.
            let behind = g.walk.behind around in
            let a = jumps_in (g.typed around) in
            let b = jumps_in (h.typed behind) in
            let sites = g.walk.sites around ++ h.walk.sites behind in
            let m = length (labels_in first.0) in
            let n = length (labels_in second.0) in
            let both : Stands around (m + n) =
            subst (λ k. Stands around k) (length-append (labels_in first.0) (labels_in second.0))
            stands in
            let test_of = typed_expression text around test in
            fits_is (site_of around test ∷ sites) around.in_loop (length around.labels)
            (length (labels_in first.0 ++ labels_in second.0))
            (jumps_in (tree.If test_of (g.typed around) (Some (h.typed behind)) place))
            (then_jumps a b) (of_if_else test_of (g.typed around) (h.typed behind) place)
            (subst (λ k. FitsAt around (site_of around test ∷ sites) k (then_jumps a b))
            (sym (length-append (labels_in first.0) (labels_in second.0)))
            (fits_behind (site_of around test ∷ []) sites around.in_loop (length around.labels)
            (m + n) (then_jumps a b)
            (fits_then (g.walk.sites around) (h.walk.sites behind) around.in_loop
            (length around.labels) m n a b (first.1.at around (within_first around m n both))
            (fits_after g.walk around (h.walk.sites behind) n b first.1.keeps
            (second.1.at behind
            (stands_after g.walk around m n first.1.keeps first.1.counts both))))));
      }

  while_layer : (test : Expression) (body : HeldStatement) (place : ℕ) →
      Jumped jumps_in (grown_layer (Statement-F.While test body place)) (labels_in body.0)
  while_layer test body place =
      let g = grown_of text body.0 in record {
        keeps =
            record { looping = λ around. refl; names = λ around. refl; breaks = λ around. refl };
        counts = counts_behind (doing (evaluates Valued test)) (looped g.walk)
            (length (labels_in body.0)) (quiet_doing (evaluates Valued test))
            (counts_looped g.walk (length (labels_in body.0)) body.1.counts);
        at = λ around stands.
            let a = jumps_in (g.typed (loop around)) in
            let sites = g.walk.sites (loop around) in
            let n = length (labels_in body.0) in
            fits_is (site_of around test ∷ sites) around.in_loop (length around.labels) n
            (jumps_in (tree.While (typed_expression text around test) (g.typed (loop around))
            place))
            (in_loop a) (of_while (typed_expression text around test) (g.typed (loop around)) place)
            (fits_behind (site_of around test ∷ []) sites around.in_loop (length around.labels) n
            (in_loop a)
            (fits_loop sites around.in_loop (length around.labels) n a
            (body.1.at (loop around) (stands_loop around n stands))));
      }

  do_layer : (test : Expression) (body : HeldStatement) (place : ℕ) →
      Jumped jumps_in (grown_layer (Statement-F.Do body test place)) (labels_in body.0)
  do_layer test body place =
      let g = grown_of text body.0 in record {
        keeps =
            record { looping = λ around. refl; names = λ around. refl; breaks = λ around. refl };
        counts = counts_before (looped g.walk) (doing (evaluates Valued test))
            (length (labels_in body.0))
            (counts_looped g.walk (length (labels_in body.0)) body.1.counts)
            (quiet_doing (evaluates Valued test));
        at = λ around stands.
            let a = jumps_in (g.typed (loop around)) in
            let sites = g.walk.sites (loop around) in
            let behind = (looped g.walk).behind around in
            let n = length (labels_in body.0) in
            fits_is (sites ++ site_of behind test ∷ []) around.in_loop (length around.labels) n
            (jumps_in (tree.Do (g.typed (loop around)) (typed_expression text around test) place))
            (in_loop a) (of_do (g.typed (loop around)) (typed_expression text around test) place)
            (fits_before sites (site_of behind test ∷ []) around.in_loop (length around.labels) n
            (in_loop a)
            (fits_loop sites around.in_loop (length around.labels) n a
            (body.1.at (loop around) (stands_loop around n stands))));
      }

  for_layer : (first : ForStart) (test step : Option Expression) (body : HeldStatement)
      (place : ℕ) →
      Jumped jumps_in (grown_layer (Statement-F.For first test step body place)) (labels_in body.0)
  for_layer first test step body place =
      let g = grown_of text body.0 in record {
        keeps =
            record { looping = λ around. refl; names = λ around. refl; breaks = λ around. refl };
        counts =
            let n = length (labels_in body.0) in
            let tested = evaluating Valued test in
            let stepped = evaluating Evaluated step in
            let inside = followed stepped (looped g.walk) in
            let behind = followed tested inside in
            counts_scoped (followed (start_walk text first) behind) n
            (counts_behind (start_walk text first) behind n (quiet_start first)
            (counts_behind tested inside n (quiet_evaluating Valued test)
            (counts_behind stepped (looped g.walk) n (quiet_evaluating Evaluated step)
            (counts_looped g.walk n body.1.counts))));
        at = λ around stands.
            let here = inner around in
            let front = start_walk text first in
            let tested = evaluating Valued test in
            let stepped = evaluating Evaluated step in
            let behind = front.behind here in
            let last = stepped.behind (tested.behind behind) in
            let same : last ≡ behind =
            evaluating_stays Evaluated step (tested.behind behind)
            ∙ evaluating_stays Valued test behind in
            let a = jumps_in (g.typed (loop behind)) in
            let n = length (labels_in body.0) in
            let sites = g.walk.sites (loop last) in
            let inside : FitsAt around sites n (in_loop a) =
            subst (λ (z : Around). FitsAt around (g.walk.sites (loop z)) n (in_loop a)) (sym same)
            (fits_loop (g.walk.sites (loop behind)) around.in_loop (length around.labels) n a
            (subst (λ (names : List (List ℕ)). Fits text (g.walk.sites (loop behind)) true
            (length names) n a) ((keeps_start first).names here)
            (body.1.at (loop behind) (stands_loop behind n
            (stands_quiet front here n (keeps_start first) (quiet_start first)
            (record { room = stands.room; breaks = stands.breaks })))))) in
            fits_is (front.sites here ++ (tested.sites behind
            ++ (stepped.sites (tested.behind behind) ++ sites))) around.in_loop
            (length around.labels) n
            (jumps_in (tree.For (typed_for_start text first here) (typed_optional text behind test)
            (typed_optional text behind step) (g.typed (loop behind)) place)) (in_loop a)
            (of_for (typed_for_start text first here) (typed_optional text behind test)
            (typed_optional text behind step) (g.typed (loop behind)) place)
            (fits_behind (front.sites here) (tested.sites behind
            ++ (stepped.sites (tested.behind behind) ++ sites)) around.in_loop
            (length around.labels) n (in_loop a)
            (fits_behind (tested.sites behind) (stepped.sites (tested.behind behind) ++ sites)
            around.in_loop (length around.labels) n (in_loop a)
            (fits_behind (stepped.sites (tested.behind behind)) sites around.in_loop
            (length around.labels) n (in_loop a) inside)));
      }

  -- what stands behind a label, here after this act
  behind_label : (around : Around) (act : Act) (sites : List Site) (n k place : ℕ)
      (body : TypedStatement) → FitsAt around sites n (jumps_in body) →
      FitsAt around (record { around = around; act = act } ∷ sites) (suc n)
      (jumps_in (tree.Labeled k body place))
  behind_label around act sites n k place body h =
      let mark : Site = record { around = around; act = act } in
      let a = jumps_in body in
      fits_is (mark ∷ sites) around.in_loop (length around.labels) (suc n)
      (jumps_in (tree.Labeled k body place)) (labelled a) (of_labeled k body place)
      (subst (λ m. FitsAt around (mark ∷ sites) m (labelled a)) (one_more n)
      (fits_behind (mark ∷ []) sites around.in_loop (length around.labels) (n + 1)
      (labelled a) (fits_label sites around.in_loop (length around.labels) n a h)))

  one_and : (n : ℕ) → 1 + n ≡ suc n
  one_and n = omega arith

  labeled_layer : (label : Name) (body : HeldStatement) →
      Jumped jumps_in (grown_layer (Statement-F.Labeled label body)) (label ∷ labels_in body.0)
  labeled_layer label body =
      let g = grown_of text body.0 in
      let n = length (labels_in body.0) in record {
        keeps = record {
          looping = λ around. body.1.keeps.looping (labeled around);
          names = λ around. body.1.keeps.names (labeled around);
          breaks = λ around. body.1.keeps.breaks (labeled around);
        };
        counts = counts_is (followed (marking label) g.walk) (1 + n) (suc n) (one_and n)
            (counts_then (marking label) g.walk 1 n (counts_marking label) body.1.counts);
        at = λ around stands.
            behind_label around (marks label) (g.walk.sites (labeled around)) n around.passed
            label.place
            (g.typed (labeled around)) (body.1.at (labeled around) (record {
              room = next_room around.passed n (length around.labels) stands.room;
              breaks = stands.breaks;
            }));
      }

  case_layer : (value : Expression) (body : HeldStatement) (place : ℕ) →
      Jumped jumps_in (grown_layer (Statement-F.Case value body place))
      (unnamed ∷ labels_in body.0)
  case_layer value body place =
      let g = grown_of text body.0 in
      let n = length (labels_in body.0) in
      let front = selecting text (Some value) place in record {
        keeps = record {
          looping = λ around. body.1.keeps.looping (selected text (Some value) around);
          names = λ around. body.1.keeps.names (selected text (Some value) around);
          breaks = λ around. body.1.keeps.breaks (selected text (Some value) around);
        };
        counts = counts_is (followed front g.walk) (1 + n) (suc n) (one_and n)
            (counts_then front g.walk 1 n (counts_selecting text (Some value) place)
            body.1.counts);
        at = λ around stands.
            let after = selected text (Some value) around in
            behind_label around (selects (Some value) place) (g.walk.sites after) n around.passed
            place
            (g.typed after) (body.1.at after (record {
              room = next_room around.passed n (length around.labels) stands.room;
              breaks = stands.breaks;
            }));
      }

  default_layer : (body : HeldStatement) (place : ℕ) →
      Jumped jumps_in (grown_layer (Statement-F.Default body place)) (unnamed ∷ labels_in body.0)
  default_layer body place =
      let g = grown_of text body.0 in
      let n = length (labels_in body.0) in
      let front = selecting text None place in record {
        keeps = record {
          looping = λ around. body.1.keeps.looping (selected text None around);
          names = λ around. body.1.keeps.names (selected text None around);
          breaks = λ around. body.1.keeps.breaks (selected text None around);
        };
        counts = counts_is (followed front g.walk) (1 + n) (suc n) (one_and n)
            (counts_then front g.walk 1 n (counts_selecting text None place) body.1.counts);
        at = λ around stands.
            let after = selected text None around in
            behind_label around (selects None place) (g.walk.sites after) n around.passed place
            (g.typed after) (body.1.at after (record {
              room = next_room around.passed n (length around.labels) stands.room;
              breaks = stands.breaks;
            }));
      }

  otherwise_below : (names end : ℕ) (o : Option ℕ) → BelowSome names o → end < names →
      unwrap_or o end < names
  otherwise_below names end None below less = less
  otherwise_below names end (Some label) below less = below

  switch_layer : (value : Expression) (body : HeldStatement) (place : ℕ) →
      Jumped jumps_in (grown_layer (Statement-F.Switch value body place))
      (labels_in body.0 ++ unnamed ∷ [])
  switch_layer value body place =
      let g = grown_of text body.0 in
      let n = length (labels_in body.0) in
      let front = doing (evaluates Valued value) in
      let long = length-append (labels_in body.0) (unnamed ∷ []) in record {
        keeps =
            record { looping = λ around. refl; names = λ around. refl; breaks = λ around. refl };
        counts = counts_is (followed front (switching text value g.walk)) (n + 1)
            (length (labels_in body.0 ++ unnamed ∷ [])) (sym long)
            (counts_behind front (switching text value g.walk) (n + 1)
            (quiet_doing (evaluates Valued value))
            (counts_switching text value g.walk n body.1.counts));
        at = λ around stands.
            let names = length around.labels in
            let end = end_behind g.walk around in
            let within = switched text value end around in
            let behind = g.walk.behind within in
            let other = unwrap_or behind.otherwise end in
            let body_of = g.typed within in
            let e = typed_expression text around value in
            let sites = g.walk.sites within in
            let both : Stands around (n + 1) = subst (λ k. Stands around k) long stands in
            let inside : Stands within n =
            stands_switched around value end n (body.1.counts.passes around) both in
            let chosen : Chosen names behind =
            body.1.counts.cases names within inside.room (tt, tt) in
            let fits : FitsAt around sites (n + 1)
            (switch_jumps behind.choices other (jumps_in body_of)) =
            fits_switch sites around.in_loop names n behind.choices other (jumps_in body_of)
            (body.1.at within inside) chosen.0
            (otherwise_below names end behind.otherwise chosen.1 inside.breaks) in
            fits_is (site_of around value ∷ sites) around.in_loop names
            (length (labels_in body.0 ++ unnamed ∷ []))
            (jumps_in (tree.Switch e behind.choices other body_of end place))
            (switch_jumps behind.choices other (jumps_in body_of))
            (of_switch e behind.choices other body_of end place)
            (subst (λ k. FitsAt around (site_of around value ∷ sites) k
            (switch_jumps behind.choices other (jumps_in body_of))) (sym long)
            (fits_behind (site_of around value ∷ []) sites around.in_loop names (n + 1)
            (switch_jumps behind.choices other (jumps_in body_of)) fits));
      }

  layer : (y : Statement-F HeldItem HeldStatement) →
      Jumped jumps_in (grown_layer y) (labels_layer y)
  layer (Statement-F.Block held place) =
      let items = map (λ (e : HeldItem). e.0) held in record {
        keeps =
            record { looping = λ around. refl; names = λ around. refl; breaks = λ around. refl };
        counts = subst (λ (names : List Name). Counts (scoped (items_walk items)) (length names))
            (sym (flat_items items))
            (counts_scoped (items_walk items) (length (flat_map labels_of items))
            (items_count items (all_held held)));
        at = λ around stands.
            let here : Stands around (length (flat_map labels_of items)) =
            subst (λ (names : List Name). Stands around (length names)) (flat_items items)
            stands in
            let typed = items_typed items (inner around) in
            let sites = (items_walk items).sites (inner around) in
            fits_is sites around.in_loop (length around.labels)
            (length (flat_map (λ (names : List Name). names) (map labels_of items)))
            (jumps_in (tree.Block typed place)) (all_jumps (map item_jumps typed))
            (of_block typed place)
            (subst (λ (names : List Name). FitsAt around sites (length names)
            (all_jumps (map item_jumps typed))) (sym (flat_items items))
            (items_fit items (all_held held) (inner around)
            (record { room = here.room; breaks = here.breaks })));
      }
  layer (Statement-F.Expression expression place) =
      quiet_layer (Statement-F.Expression expression place)
      (keeps_evaluating Evaluated expression) (quiet_evaluating Evaluated expression) refl
      (λ around. of_expression (typed_optional text around expression) place)
  layer (Statement-F.If test first None place) = if_layer test first place
  layer (Statement-F.If test first (Some second) place) = else_layer test first second place
  layer (Statement-F.While test body place) = while_layer test body place
  layer (Statement-F.Do body test place) = do_layer test body place
  layer (Statement-F.For first test step body place) = for_layer first test step body place
  layer (Statement-F.Goto label place) = record {
    keeps = keeps_doing (jumps label);
    counts = counts_quiet (doing (jumps label)) (quiet_doing (jumps label));
    at = λ around stands.
        fits_is (record { around = around; act = jumps label } ∷ []) around.in_loop
        (length around.labels) 0 (jumps_in (tree.Goto (label_number around label) place))
        (goto (label_number around label)) (of_goto (label_number around label) place)
        (fits_goto around label);
  }
  layer (Statement-F.Switch value body place) = switch_layer value body place
  layer (Statement-F.Case value body place) = case_layer value body place
  layer (Statement-F.Default body place) = default_layer body place
  layer (Statement-F.Break place) = record {
    keeps = keeps_doing (breaks place);
    counts = counts_quiet (doing (breaks place)) (quiet_doing (breaks place));
    at = λ around stands. fits_break around place around.break_to refl stands.breaks;
  }
  layer (Statement-F.Continue place) = record {
    keeps = keeps_doing (continues place);
    counts = counts_quiet (doing (continues place)) (quiet_doing (continues place));
    at = λ around stands.
        fits_is (record { around = around; act = continues place } ∷ []) around.in_loop
        (length around.labels) 0 (jumps_in (tree.Continue place)) jumping.leaving
        (of_continue place)
        (fits_continuing around place);
  }
  layer (Statement-F.Return value place) =
      quiet_layer (Statement-F.Return value place)
      (keeps_then (doing (returns place (is_some value))) (evaluating Valued value)
      (keeps_doing (returns place (is_some value))) (keeps_evaluating Valued value))
      (quiet_then (doing (returns place (is_some value))) (evaluating Valued value)
      (quiet_doing (returns place (is_some value))) (quiet_evaluating Valued value)) refl
      (λ around. of_return (typed_optional text around value) place)
  layer (Statement-F.Labeled label body) = labeled_layer label body

  item_layer : (y : BlockItem-F HeldItem HeldStatement) →
      Jumped item_jumps (grown_item text (map-BlockItem BlockItem Statement (Grown TypedItem)
      (Grown TypedStatement) (grown text) (grown_of text) (bare_item y)))
      (labels_item (map-BlockItem BlockItem Statement (List Name) (List Name) labels_of labels_in
      (bare_item y)))
  item_layer (BlockItem-F.Declaration declaration) = record {
    keeps = keeps_declaration declaration;
    counts = counts_quiet (declaration_walk text declaration) (quiet_declaration declaration);
    at = λ around stands.
        let sites = (declaration_walk text declaration).sites around in
        let typed = typed_declaration text declaration around in
        fits_is sites around.in_loop (length around.labels) 0
        (item_jumps (typed_item.Declaration typed)) no_jumps (of_declaration typed)
        (fits_none sites around.in_loop (length around.labels));
  }
  item_layer (BlockItem-F.Statement statement) =
      let g = grown_of text statement.0 in record {
        keeps = statement.1.keeps;
        counts = statement.1.counts;
        at = λ around stands.
            fits_is (g.walk.sites around) around.in_loop (length around.labels)
            (length (labels_in statement.0)) (item_jumps (typed_item.Statement (g.typed around)))
            (jumps_in (g.typed around)) (of_statement (g.typed around))
            (statement.1.at around stands);
      }

  at_statement : (y : Statement-F HeldItem HeldStatement) (x : Statement-F BlockItem Statement) →
      bare y ≡ x → StatementJumps (roll-Statement x)
  at_statement y x is =
      subst (λ (z : Statement-F BlockItem Statement). StatementJumps (roll-Statement z)) is
      (subst (λ (g : Grown TypedStatement).
      Jumped jumps_in g (labels_in (roll-Statement (bare y))))
      (sym (open_grown_statement text (bare y)))
      (subst (λ (names : List Name). Jumped jumps_in (grown_layer y) names)
      (sym (open_labels (bare y))) (layer y)))

  at_item : (y : BlockItem-F HeldItem HeldStatement) (x : BlockItem-F BlockItem Statement) →
      bare_item y ≡ x → ItemJumps (roll-BlockItem x)
  at_item y x is =
      subst (λ (z : BlockItem-F BlockItem Statement). ItemJumps (roll-BlockItem z)) is
      (subst (λ (g : Grown TypedItem).
      Jumped item_jumps g (labels_of (roll-BlockItem (bare_item y))))
      (sym (open_grown_item text (bare_item y)))
      (subst (λ (names : List Name). Jumped item_jumps (grown_item text (map-BlockItem BlockItem
      Statement (Grown TypedItem) (Grown TypedStatement) (grown text) (grown_of text)
      (bare_item y))) names) (sym (open_labels_item (bare_item y))) (item_layer y)))

  pub item_jumped : (item : BlockItem) → ItemJumps item
  item_jumped =
      ind-BlockItem ItemJumps StatementJumps (λ x y is. at_item y x is)
      (λ x y is. at_statement y x is)

  pub statement_jumped : (s : Statement) → StatementJumps s
  statement_jumped =
      ind-Statement ItemJumps StatementJumps (λ x y is. at_item y x is)
      (λ x y is. at_statement y x is)

  pub all_jumped : (items : List BlockItem) → AllByRecursion ItemJumps items
  all_jumped [] = tt
  all_jumped (item ∷ items) = (item_jumped item, all_jumped items)
